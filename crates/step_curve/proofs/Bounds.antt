-- Every number of the plan fits its type.
use mathlib.Core.Path.{refl}
use mathlib.Core.List.{[], ◌∷◌}
use Prim.Native.Nat.{ℕ, ◌+◌, ◌*◌, ◌^◌, ◌≤◌, ◌<◌}
use native.Mathlib.Omega.{arith}
use native.Mathlib.Nat.{mul-le-mul, mul-le-mul_left, add-le-add, le_trans, lt_of_le_of_lt, le_of_lt, le_of_mul-le-mul_right}
use lib.Dec.{lit<, lit≤}
use Rattle.exact.proofs.Polynomial.{num, ◌⊕◌, ◌⊗◌}
use Rattle.exact.proofs.Certificate.{x0, x1, x2, done, times, cert}
use Rattle.wide.specs.Value.{value_of, limit}
use Rattle.step_braking.proofs.Bounds.{s-small, gain-small, beta-small, speed-small}
use Rattle.step_curve.specs.declared.Curve.{Curve}
use Rattle.step_curve.specs.declared.Curve.TheVariants.{Ebi, Sbi, W, P}
use Rattle.step_braking.specs.declared.Course.{Course}
use Rattle.step_curve.specs.declared.Terms.{Terms}
use Rattle.step_braking.specs.Plan.{v9, s_of, beta_of, Enough, Small, Near, a_most, beta_most, speed_most}
use Rattle.step_curve.specs.Plan.{square_of, service_of, warning_of, run_of, sum_of, IsTerms, Bounded}

pub square-small : (b b0 : ℕ) → b ≤ beta_most → b0 ≤ speed_most → square_of b b0 ≤ beta_most * (beta_most + speed_most)
unfolding square_of
square-small b b0 h k = mul-le-mul {n₂ = beta_most} {m₂ = beta_most + speed_most} (omega arith) (omega arith)

pub part-fits : (b b0 s : ℕ) → b ≤ beta_most → b0 ≤ speed_most → s ≤ 330 → square_of b b0 * (50000 * s) < limit
unfolding limit
part-fits b b0 s h k i = lt_of_le_of_lt (mul-le-mul {n₂ = beta_most * (beta_most + speed_most)} {m₂ = 16500000} (square-small b b0 h k) (omega arith)) (lit< tt)

curve-small : (k : Curve) → (service_of k ≤ 1) × (warning_of k ≤ 2)
curve-small Ebi = omega arith
curve-small Sbi = omega arith
curve-small W = omega arith
curve-small P = omega arith

-- the factors of a curve's run
pub steady-small : (k : Curve) (c : Course) → Small c → (service_of k * c.r8 ≤ 3800000000) × ((c.t8 + service_of k * c.r8 ≤ 8000000000) × (warning_of k * 150000000 ≤ 300000000))
steady-small k c sm =
    let s = curve-small k in
    let i : service_of k * c.r8 ≤ 3800000000 = mul-le-mul {n₂ = 1} {m₂ = 3800000000} s.0 sm.r8 in
    let j = sm.t8 in
    (i, (omega arith, omega (arith, s.1)))

-- the sum of an accepted motion
module _ (k : Curve) (c : Course) (m : Terms) (sm : Small c) (h : Bounded m) where
  pub run_small : run_of k c m.beta m.speed ≤ 8000000000 * beta_most + 300000000 * speed_most
  unfolding run_of
  run_small = let s = steady-small k c sm in add-le-add (mul-le-mul s.1.0 h.beta) (mul-le-mul s.1.1 h.speed)

  pub run_fits : run_of k c m.beta m.speed < limit
  unfolding limit
  run_fits = lt_of_le_of_lt run_small (lit< tt)

  -- a sum is at most a times 1.9·10³⁰
  sum-small : sum_of k c m ≤ m.a * (19 * 10 ^ 29)
  unfolding sum_of
  sum-small =
      le_of_mul-le-mul_right {k = 10 ^ 6}
      (cert (m.a ∷ run_of k c m.beta m.speed ∷ value_of m.part ∷ [])
      (times (num (9 * 10 ^ 6) ⊗ x0) x1 (num (8000000000 * beta_most + 300000000 * speed_most)) run_small (times (num 1) (x2 ⊗ num (10 ^ 6)) (x0 ⊗ num (beta_most * (beta_most + speed_most))) h.part done))
      ((num 9 ⊗ x0 ⊗ x1 ⊕ x2) ⊗ num (10 ^ 6)) (x0 ⊗ num (19 * 10 ^ 29) ⊗ num (10 ^ 6)) refl)
      (lit< tt)

  pub sum_fits : sum_of k c m < limit
  unfolding limit
  sum_fits = lt_of_le_of_lt sum-small (lt_of_le_of_lt (mul-le-mul {n₂ = a_most} {m₂ = 19 * 10 ^ 29} h.a (lit≤ tt)) (lit< tt))

  -- and has a quotient of 32 bits
  pub quotient_fits : sum_of k c m ≤ 4294967295 * value_of m.scale
  quotient_fits = rw h.scale (le_trans sum-small (cert (m.a ∷ []) done (x0 ⊗ num (19 * 10 ^ 29)) (num 4294967295 ⊗ (num (81 * 10 ^ 20) ⊗ x0)) refl))

pub bounded : (c : Course) (v v0 : ℕ) (m : Terms) → Small c → Near v v0 → Enough c v v0 → IsTerms c v v0 m → Bounded m
bounded c v v0 m sm n h i =
    let g = (gain-small c v v0 sm n).0 in
    let e = i.a in
    let z = s-small v n.high in
    let b = beta-small c v v0 sm n in
    let q = square-small (beta_of c v v0) (v9 v0) b.1 (speed-small v0 (le_trans n.ahead n.high)) in
    record {
      some = omega arith;
      a = omega arith;
      beta = rw i.beta b.1;
      speed = rw i.speed (speed-small v n.high);
      scale = i.scale;
      part =
          rw i.part
          (cert (s_of v ∷ square_of (beta_of c v v0) (v9 v0) ∷ m.a ∷ [])
          (times x1 (num 50000000000 ⊗ x0) x2 (omega arith) (times x2 x1 (num (beta_most * (beta_most + speed_most))) q done))
          (num 50000 ⊗ x0 ⊗ x1 ⊗ num (10 ^ 6)) (x2 ⊗ num (beta_most * (beta_most + speed_most))) refl);
    }

-- n millimetres over the same number fit
pub room_fits : (a n : ℕ) → a ≤ a_most → n < 2 ^ 44 → 81 * 10 ^ 20 * a * n < limit
unfolding limit
room_fits a n h k = lt_of_le_of_lt (mul-le-mul {n₂ = 81 * 10 ^ 20 * a_most} {m₂ = 2 ^ 44} (mul-le-mul_left (81 * 10 ^ 20) h) (le_of_lt k)) (lit< tt)
