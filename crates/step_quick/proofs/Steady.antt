-- The bounds of a run at the steady speeds hold, and each is a word long.
use mathlib.Core.Path.{refl}
use mathlib.Core.List.{[], ◌∷◌}
use Prim.Native.Nat.{ℕ, ◌+◌, ◌*◌, ◌^◌, ◌/◌, ◌≤◌}
use native.Mathlib.Omega.{arith}
use native.Mathlib.Nat.{mul-le-mul}
use Rattle.exact.proofs.Polynomial.{num, ◌⊕◌, ◌⊗◌}
use Rattle.exact.proofs.Certificate.{x0, x1, x2, x3, x4, x5, x6, done, times, cert}
use Rattle.step_braking.specs.declared.Course.{Course}
use Rattle.step_braking.specs.Plan.{v9, Small}
use Rattle.step_curve.specs.declared.Curve.{Curve}
use Rattle.step_curve.specs.Plan.{service_of, warning_of, run_of}
use Rattle.step_curve.proofs.Bounds.{steady-small}

-- steady speed b for the time s, in 10⁹ it is beta; w warnings at v
module _ (s w beta b v low rest : ℕ) where
  above-so : beta * 10 ^ 9 ≤ b → low * 900000000 ≤ s * beta + w * 375000000000000 * v → low * (9 * 10 ^ 17) ≤ s * b + w * 150000000 * (v * (25 * 10 ^ 14))
  above-so hb hl =
      cert (s ∷ w ∷ beta ∷ b ∷ v ∷ low ∷ [])
      (times (num (10 ^ 9)) (x5 ⊗ num 900000000) (x0 ⊗ x2 ⊕ x1 ⊗ num 375000000000000 ⊗ x4) hl (times x0 (x2 ⊗ num (10 ^ 9)) x3 hb done))
      (x5 ⊗ num (9 * 10 ^ 17)) (x0 ⊗ x3 ⊕ x1 ⊗ num 150000000 ⊗ (x4 ⊗ num (25 * 10 ^ 14))) refl

  below-so : b ≤ (beta + 1) * 10 ^ 9 → s * beta + w * 375000000000000 * v ≤ (low + 1) * 900000000 → s ≤ (rest + 1) * 900000000 → s * b + w * 150000000 * (v * (25 * 10 ^ 14)) ≤ (low + rest + 2) * (9 * 10 ^ 17)
  below-so hb hl hs =
      cert (s ∷ w ∷ beta ∷ b ∷ v ∷ low ∷ rest ∷ [])
      (times x0 x3 ((x2 ⊕ num 1) ⊗ num (10 ^ 9)) hb
      (times (num (10 ^ 9)) (x0 ⊗ x2 ⊕ x1 ⊗ num 375000000000000 ⊗ x4) ((x5 ⊕ num 1) ⊗ num 900000000) hl
      (times (num (10 ^ 9)) x0 ((x6 ⊕ num 1) ⊗ num 900000000) hs done)))
      (x0 ⊗ x3 ⊕ x1 ⊗ num 150000000 ⊗ (x4 ⊗ num (25 * 10 ^ 14))) ((x5 ⊕ x6 ⊕ num 2) ⊗ num (9 * 10 ^ 17)) refl

module _ (k : Curve) (c : Course) (beta v : ℕ) where
  abbrev steady : ℕ
  steady = c.t8 + service_of k * c.r8

  abbrev warned : ℕ
  warned = warning_of k * 375000000000000

  pub record Long : Type 0 where
    pub service-most : service_of k * c.r8 ≤ 3800000000
    pub steady-most : steady ≤ 8000000000
    pub run-most : steady * beta ≤ 7845948480000000000
    pub warned-most : warned ≤ 750000000000000
    pub warning-most : warned * v ≤ 247500000000000000

  pub long : Small c → beta ≤ 980743560 → v ≤ 330 → Long
  long sm hb hv =
      let s = steady-small k c sm in
      let w : warned ≤ 750000000000000 = omega (arith, s.1.1) in
      record { service-most = s.0; steady-most = s.1.0; run-most = mul-le-mul {n₂ = 8000000000} {m₂ = 980743560} s.1.0 hb; warned-most = w; warning-most = mul-le-mul {n₂ = 750000000000000} {m₂ = 330} w hv }

  abbrev low : ℕ
  low = (steady * beta + warned * v) / 900000000

  pub run-above : (b : ℕ) → beta * 10 ^ 9 ≤ b → low * (9 * 10 ^ 17) ≤ run_of k c b (v9 v)
  unfolding run_of v9
  run-above b h = above-so steady (warning_of k) beta b v low 0 h (omega arith)

  pub run-below : (b : ℕ) → b ≤ (beta + 1) * 10 ^ 9 → run_of k c b (v9 v) ≤ (low + steady / 900000000 + 2) * (9 * 10 ^ 17)
  unfolding run_of v9
  run-below b h = below-so steady (warning_of k) beta b v low (steady / 900000000) h (omega arith) (omega arith)
