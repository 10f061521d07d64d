-- The plan's whole numbers give document 002's deceleration and Vβ.
use mathlib.Core.Path.{◌≡◌, refl, ap, ◌∙◌}
use mathlib.Core.Bool.{not}
use mathlib.Core.List.{[], ◌∷◌}
use Prim.Native.Nat.{ℕ, zero, suc, ◌+◌, ◌*◌, ◌-◌, ◌^◌, ◌≤◌, ◌<◌, max}
use native.Mathlib.Omega.{arith}
use native.Mathlib.Nat.{mul-le-mul, mul-zero, zero-lt-suc, max-eq_left, sub-eq-zero_of_le, le_trans}
use lib.Dec.{T as So, leb, leb→le, nleb→lt, eqb, eqb→eq, lit<, lit≤}
use Rattle.exact.specs.Fraction.{whole, signed, ◌over◌, ◌+q◌, ◌≤q◌, ◌<q◌, ◌≈q◌}
use Rattle.exact.proofs.Polynomial.{num, ◌⊕◌, ◌⊗◌}
use Rattle.exact.proofs.Certificate.{x0, x1, x2, x3, x4, x5, x6, done}
use Rattle.exact.proofs.Shape.{shape, whole_e, over_e, ◌+e◌, ◌-e◌, ◌*e◌}
use Rattle.exact.proofs.Order.{leb-agree}
use Rattle.exact.proofs.Substitution.{≈q-refl, ≈q-sym, ≈q-trans, becomes, cond-is, net, +q-cong, -q-cong, *q-cong, maxq-cong, maxq-over, ≤q-cong, <q-cong}
use Rattle.train.specs.declared.Kmh.{Kmh}
use Rattle.train.specs.declared.Train.{Train}
use Rattle.train.specs.declared.Gradient.{Gradient}
use Rattle.train.specs.declared.Coefficients.{Coefficients}
use Rattle.train.specs.Units.{speed}
use Rattle.train_slope.specs.Slope.{di}
use Rattle.step_braking.specs.declared.Course.{Course}
use Rattle.step_braking.specs.Braking.{K0, KC, dp, Vβ, strong}
use Rattle.step_braking.specs.Plan.{v9, s_of, beta_of, brake_of, gain_of, loss_of, Enough, strong_of}
use Rattle.step_braking.specs.Agreement.{IsCourse}

positive : (n : ℕ) → So (not (eqb n 0)) → 0 < n
positive zero h = absurd h
positive (suc n) h = zero-lt-suc n

pub s-pos : (v : ℕ) → 0 < s_of v
unfolding s_of
s-pos v = omega arith

pub speed-is : (v : Kmh) → speed v ≈q v9 v.0 over (9 * 10 ^ 15)
unfolding speed v9
speed-is v = becomes (v.0 ∷ []) done (whole_e x0 *e over_e (num 5) 18) (over_e (x0 ⊗ num (25 * 10 ^ 14)) (9 * 10 ^ 15)) (≈q-refl (lit< tt)) (lit< tt) refl

module _ (k : Coefficients) (v : Kmh) where
  pub KC-is : KC k v ≈q signed (1000 + k.nc.plus * (v.0 - k.vc.0)) (k.nc.minus * (v.0 - k.vc.0)) 1000
  unfolding KC
  KC-is =
      cond-is (leb v.0 k.vc.0)
      (λ h.
      let e : v.0 - k.vc.0 ≡ 0 = sub-eq-zero_of_le (leb→le v.0 k.vc.0 h) in
      rw e (becomes (k.nc.plus ∷ k.nc.minus ∷ []) done (whole_e (num 1)) (shape (num 1000 ⊕ x0 ⊗ num 0) (x1 ⊗ num 0) (num 1000)) (≈q-refl (lit< tt)) (lit< tt) refl))
      (λ h.
      becomes (k.nc.plus ∷ k.nc.minus ∷ (v.0 - k.vc.0) ∷ []) done (whole_e (num 1) +e shape x0 x1 (num 1000) *e whole_e x2) (shape (num 1000 ⊕ x0 ⊗ x2) (x1 ⊗ x2) (num 1000))
      (+q-cong (≈q-refl {a = whole 1} (lit< tt)) (*q-cong (≈q-refl {a = signed k.nc.plus k.nc.minus 1000} (lit< tt))
      (≈q-trans (becomes (v.0 ∷ k.vc.0 ∷ []) done (whole_e x0 -e whole_e x1) (shape x0 x1 (num 1)) (≈q-refl (lit< tt)) (lit< tt) refl)
      (net v.0 k.vc.0 1 (omega (arith, nleb→lt v.0 k.vc.0 h)) (lit< tt))))) (lit< tt) refl)

  module _ (v0 : Kmh) (ahead : v0.0 ≤ v.0) (part : k.cr ≤ 100) where
    pub K0-is : K0 k v v0 ≈q (100 * s_of v.0 - k.cr * v0.0) over (100 * s_of v.0)
    unfolding K0 s_of
    K0-is =
        cond-is (eqb v.0 0)
        (λ h.
        let i : v.0 ≡ 0 = eqb→eq v.0 0 h in
        let z : k.cr * v0.0 ≡ 0 = ap (λ x. k.cr * x) (omega arith) ∙ mul-zero k.cr in
        record { left = lit< tt; right = omega arith; equal = omega arith })
        (λ h.
        let i : max v.0 1 ≡ v.0 = max-eq_left (positive v.0 h) in
        rw i
        (≈q-trans
        (becomes (k.cr ∷ v0.0 ∷ v.0 ∷ []) done (whole_e (num 1) -e over_e x0 100 *e shape x1 (num 0) x2) (shape (num 100 ⊗ x2) (x0 ⊗ x1) (num 100 ⊗ x2))
        (≈q-refl (omega (arith, positive v.0 h))) (omega (arith, positive v.0 h)) refl)
        (net (100 * v.0) (k.cr * v0.0) (100 * v.0) (mul-le-mul part ahead) (omega (arith, positive v.0 h)))))

module _ (k : Coefficients) (t : Train) (g : Gradient) (c : Course) (is : IsCourse k t g c) (v v0 : Kmh) (ahead : v0.0 ≤ v.0) where
  abbrev gain : ℕ
  gain = gain_of c v.0 v0.0

  abbrev loss : ℕ
  loss = loss_of c v.0 v0.0

  abbrev s : ℕ
  s = s_of v.0

  -- dp + di
  pub A-is : dp k t g v v0 +q di k.inertia g ≈q signed gain loss (10 ^ 12 * s)
  unfolding dp gain_of loss_of brake_of
  A-is =
      becomes (c.power ∷ (100 * s - c.cr * v0.0) ∷ (1000 + c.plus * (v.0 - c.vc.0)) ∷ (c.minus * (v.0 - c.vc.0)) ∷ c.up7 ∷ c.dn7 ∷ s ∷ []) done
      (shape x1 (num 0) (num 100 ⊗ x6) *e shape x2 x3 (num 1000) *e over_e x0 (10 ^ 7) +e shape x4 x5 (num (10 ^ 7)))
      (shape (x0 ⊗ x1 ⊗ x2 ⊕ x4 ⊗ (num 100000 ⊗ x6)) (x0 ⊗ x1 ⊗ x3 ⊕ x5 ⊗ (num 100000 ⊗ x6)) (num (10 ^ 12) ⊗ x6))
      (+q-cong (*q-cong (rw (is.cr, is.plus, is.minus, is.vc) (*q-cong (K0-is k v v0 ahead part) (KC-is k v))) is.power) is.di) (omega (arith, s-pos v.0)) refl
    where
      part : k.cr ≤ 100
      part = le_trans (rw is.cr at is.small.cr) (lit≤ tt)

  -- the test of refusal 10
  enough : Enough c v.0 v0.0 → (5 over 100) ≤q dp k t g v v0 +q di k.inertia g
  enough h = ≤q-cong (≈q-refl {a = 5 over 100} (lit< tt)) (≈q-sym A-is) (omega arith)

  weak : gain < loss + 50000000000 * s → dp k t g v v0 +q di k.inertia g <q (5 over 100)
  weak h = <q-cong (≈q-sym A-is) (≈q-refl {a = 5 over 100} (lit< tt)) (omega arith)

  pub strong-is : strong_of c v.0 v0.0 ≡ strong k t g v v0
  unfolding strong
  strong-is = leb-agree _ _ _ _ enough weak

  pub Vβ-is : Vβ k t g v v0 ≈q beta_of c v.0 v0.0 over (9 * 10 ^ 15)
  unfolding Vβ beta_of
  Vβ-is =
      ≈q-trans
      (maxq-cong
      (becomes (v9 v.0 ∷ c.up7 ∷ c.dn7 ∷ c.t8 ∷ []) done (over_e x0 (9 * 10 ^ 15) -e shape x1 x2 (num (10 ^ 7)) *e over_e x3 (10 ^ 8))
      (shape (x0 ⊕ num 9 ⊗ x2 ⊗ x3) (num 9 ⊗ x1 ⊗ x3) (num (9 * 10 ^ 15))) (-q-cong (speed-is v) (*q-cong is.di is.T)) (lit< tt) refl)
      (speed-is v0))
      (maxq-over (v9 v.0 + 9 * c.dn7 * c.t8) (9 * c.up7 * c.t8) (v9 v0.0) (9 * 10 ^ 15) (lit< tt))
