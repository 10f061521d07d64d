-- A train at V has 1.5 s from P to W, and 1.5 s from W to SBI, to the millimetre to which both are raised; with any coefficients.
use mathlib.Core.Path.{◌≡◌, refl}
use mathlib.Core.List.{List, [], ◌∷◌}
use Prim.Native.Nat.{ℕ, ◌+◌, ◌*◌, ◌≤◌}
use native.Mathlib.Omega.{arith}
use native.Mathlib.Nat.{lt_of_mul-lt-mul_left}
use native.Mathlib.Numerals.{add-one}
use Rattle.exact.specs.Fraction.{Fraction, whole, ◌over◌, ◌+q◌, ◌-q◌, ◌*q◌, ◌/q◌, ◌≤q◌, ◌<q◌, Least}
use Rattle.exact.proofs.Polynomial.{num, ◌⊕◌, ◌⊗◌}
use Rattle.exact.proofs.Certificate.{x2, x3, x4, x5, done, times, cert}
use Rattle.exact.proofs.Shape.{Shape, whole_e, over_e, ◌+e◌, ◌*e◌, cross_e, A}
use Rattle.exact.proofs.FromZero.{over-from-0, +q-from-0, -q-from-0, *q-from-0, /q-from-0, squares}
use Rattle.exact.proofs.Raised.{least-near}
use Rattle.train.specs.declared.Kmh.{Kmh}
use Rattle.train.specs.declared.Train.{Train}
use Rattle.train.specs.declared.Gradient.{Gradient}
use Rattle.train.specs.declared.Coefficients.{Coefficients}
use Rattle.train.specs.Units.{speed}
use Rattle.train_delay.specs.Delay.{tf}
use Rattle.train_delay.proofs.FromZero.{tf-from-0}
use Rattle.train_slope.specs.Slope.{di}
use Rattle.step_braking.specs.Braking.{t_r, T, dp, Vβ}
use Rattle.step_curve.specs.declared.Curve.TheVariants as curve
use Rattle.step_curve.specs.Step.{EBI, SBI, W, P, formula}
use Rattle.step_curve.specs.Order.{Apart, InTime}
use Rattle.step_curve.proofs.Ordered.{speed-from-0, run-from-0, target-β, β-from-0, service-from-0}

-- 1.5 s at V more, and both raised
module _ (a : Fraction) (v : Kmh) {near far : ℕ} (z : whole 0 ≤q a) (n : Least (whole 1000 *q a) near) (f : Least (whole 1000 *q (a +q (15 over 10) *q speed v)) far) where
  abbrev b : Fraction
  b = a +q (15 over 10) *q speed v

  near_next : whole near <q whole 1000 *q a +q whole 1
  near_next = least-near (*q-from-0 (whole 1000) a (over-from-0 1000 1) z) n

  far-next : whole far <q whole 1000 *q b +q whole 1
  far-next = least-near (*q-from-0 (whole 1000) b (over-from-0 1000 1) (+q-from-0 a ((15 over 10) *q speed v) z (run-from-0 v 15 10))) f

  -- a is A at ρ, and b is more
  abbrev ρ : List ℕ
  ρ = a.plus ∷ a.minus ∷ a.over ∷ v.0 ∷ near ∷ far ∷ []

  abbrev mm : Shape
  mm = whole_e (num 1000) *e A

  abbrev more : Shape
  more = whole_e (num 1000) *e (A +e over_e (num 15) 10 *e (whole_e x3 *e over_e (num 5) 18))

  abbrev one : Shape
  one = whole_e (num 1)

  apart : Apart v.0 near far
  unfolding speed
  apart =
      record {
        least = lt_of_mul-lt-mul_left (60 * a.over) (
            let c : 60 * a.over * (3 * near + 1250 * v.0) + 1 ≤ 60 * a.over * (3 * far + 3) =
            cert ρ
            (times (num 180) (cross_e (whole_e x4) (mm +e one) ⊕ num 1) (cross_e (mm +e one) (whole_e x4)) (rw add-one near_next)
            (times (num 1) (cross_e more (whole_e x5)) (cross_e (whole_e x5) more) f.enough done))
            (num 60 ⊗ x2 ⊗ (num 3 ⊗ x4 ⊕ num 1250 ⊗ x3) ⊕ num 1) (num 60 ⊗ x2 ⊗ (num 3 ⊗ x5 ⊕ num 3)) refl in
            omega arith);
        most = lt_of_mul-lt-mul_left (60 * a.over) (
            let c : 60 * a.over * (3 * far) + 1 ≤ 60 * a.over * (3 * near + 1250 * v.0 + 3) =
            cert ρ
            (times (num 1) (cross_e (whole_e x5) (more +e one) ⊕ num 1) (cross_e (more +e one) (whole_e x5)) (rw add-one far-next)
            (times (num 180) (cross_e mm (whole_e x4)) (cross_e (whole_e x4) mm) n.enough done))
            (num 60 ⊗ x2 ⊗ (num 3 ⊗ x5) ⊕ num 1) (num 60 ⊗ x2 ⊗ (num 3 ⊗ x4 ⊕ num 1250 ⊗ x3 ⊕ num 3)) refl in
            omega arith);
      }

module _ (k : Coefficients) (t : Train) (g : Gradient) (v v0 : Kmh) where
  abbrev β : Fraction
  β = Vβ k t g v v0

  -- no distance is below 0
  T-from-0 : whole 0 ≤q T k t
  unfolding T
  T-from-0 = +q-from-0 (k.h over 10) (tf k t) (over-from-0 k.h 10) (tf-from-0 k t)

  ebi-from-0 : whole 0 ≤q EBI k t g v v0
  unfolding EBI
  ebi-from-0 =
      let s = squares (speed v0) β (speed-from-0 v0) (β-from-0 k t g v v0) (target-β k t g v v0) in
      let lost = β *q β -q speed v0 *q speed v0 in
      let by = whole 2 *q (dp k t g v v0 +q di k.inertia g) in
      +q-from-0 (T k t *q β) (lost /q by) (*q-from-0 (T k t) β T-from-0 (β-from-0 k t g v v0)) (/q-from-0 lost by (-q-from-0 (speed v0 *q speed v0) (β *q β) s))

  sbi-from-0 : whole 0 ≤q SBI k t g v v0
  unfolding SBI
  sbi-from-0 = +q-from-0 (EBI k t g v v0) ((t_r +q tf k t) *q β) ebi-from-0 (service-from-0 k t g v v0)

  -- W and P have 1.5 s at V more
  w-is : W k t g v v0 ≡ SBI k t g v v0 +q (15 over 10) *q speed v
  unfolding W
  w-is = refl

  p-is : P k t g v v0 ≡ W k t g v v0 +q (15 over 10) *q speed v
  unfolding P
  p-is = refl

  w-from-0 : whole 0 ≤q W k t g v v0
  w-from-0 = rw w-is (+q-from-0 (SBI k t g v v0) ((15 over 10) *q speed v) sbi-from-0 (run-from-0 v 15 10))

  -- whichever numbers the second demand gives
  pub in-time : {sbi w p : ℕ} → Least (whole 1000 *q formula k t g v v0 curve.Sbi) sbi → Least (whole 1000 *q formula k t g v v0 curve.W) w → Least (whole 1000 *q formula k t g v v0 curve.P) p → InTime v.0 sbi w p
  in-time s h i = record { warned = apart (SBI k t g v v0) v sbi-from-0 s (rw w-is at h); permitted = apart (W k t g v v0) v w-from-0 h (rw p-is at i) }
