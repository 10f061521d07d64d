-- EBI is at most SBI, SBI at most W, W at most P, with any coefficients: of the formulas, and so of what the second demand gives.
use Prim.Native.Nat.{ℕ, ◌<◌}
use lib.Dec.{lit<}
use Rattle.exact.specs.Fraction.{Fraction, whole, ◌over◌, ◌+q◌, ◌-q◌, ◌*q◌, ◌≤q◌, Least}
use Rattle.exact.proofs.Order.{≤q-trans, *q-mono-left, maxq-right}
use Rattle.exact.proofs.FromZero.{over-from-0, adds, +q-from-0, *q-from-0}
use Rattle.exact.proofs.Raised.{least-mono}
use Rattle.train.specs.declared.Kmh.{Kmh}
use Rattle.train.specs.declared.Train.{Train}
use Rattle.train.specs.declared.Gradient.{Gradient}
use Rattle.train.specs.declared.Coefficients.{Coefficients}
use Rattle.train.specs.Units.{speed}
use Rattle.train_delay.specs.Delay.{tf}
use Rattle.train_delay.proofs.FromZero.{tf-from-0}
use Rattle.train_slope.specs.Slope.{di}
use Rattle.step_braking.specs.Braking.{t_r, T, Vβ}
use Rattle.step_curve.specs.declared.Curve.{Curve}
use Rattle.step_curve.specs.declared.Curve.TheVariants as curve
use Rattle.step_curve.specs.Step.{t_w, t_p, EBI, SBI, W, P, formula}
use Rattle.step_curve.specs.Order.{InOrder}

module _ (v : Kmh) where
  pub speed-from-0 : whole 0 ≤q speed v
  unfolding speed
  speed-from-0 = *q-from-0 (whole v.0) (5 over 18) (over-from-0 v.0 1) (over-from-0 5 18)

  speed-number : 0 < (speed v).over
  unfolding speed
  speed-number = lit< tt

  pub run-from-0 : (n d : ℕ) → whole 0 ≤q (n over d) *q speed v
  run-from-0 n d = *q-from-0 (n over d) (speed v) (over-from-0 n d) speed-from-0

module _ (k : Coefficients) (t : Train) (g : Gradient) (v v0 : Kmh) where
  abbrev β : Fraction
  β = Vβ k t g v v0

  pub target-β : speed v0 ≤q β
  unfolding Vβ
  target-β = maxq-right (speed v -q di k.inertia g *q T k t) (speed v0)

  pub β-from-0 : whole 0 ≤q β
  β-from-0 = ≤q-trans (whole 0) (speed v0) β (speed-number v0) (speed-from-0 v0) target-β

  pub service-from-0 : whole 0 ≤q (t_r +q tf k t) *q β
  service-from-0 = *q-from-0 (t_r +q tf k t) β (+q-from-0 t_r (tf k t) (over-from-0 10 10) (tf-from-0 k t)) β-from-0

  -- the exact values
  pub ebi-sbi : EBI k t g v v0 ≤q SBI k t g v v0
  unfolding SBI
  ebi-sbi = adds (EBI k t g v v0) ((t_r +q tf k t) *q β) service-from-0

  pub sbi-w : SBI k t g v v0 ≤q W k t g v v0
  unfolding W
  sbi-w = adds (SBI k t g v v0) (t_w *q speed v) (run-from-0 v _ 10)

  pub w-p : W k t g v v0 ≤q P k t g v v0
  unfolding P
  w-p = adds (W k t g v v0) (t_p *q speed v) (run-from-0 v _ 10)

  abbrev mm : Curve → Fraction
  mm x = whole 1000 *q formula k t g v v0 x

  mm-mono : (x y : Curve) → formula k t g v v0 x ≤q formula k t g v v0 y → mm x ≤q mm y
  mm-mono x y = *q-mono-left (formula k t g v v0 x) (formula k t g v v0 y) (whole 1000) (over-from-0 1000 1)

  -- and the least whole millimetres not below them
  pub in_order_lem : {ebi sbi w p : ℕ} → Least (mm curve.Ebi) ebi → Least (mm curve.Sbi) sbi → Least (mm curve.W) w → Least (mm curve.P) p → InOrder ebi sbi w p
  in_order_lem e s h i =
      record {
        ebi-sbi = least-mono e s (mm-mono curve.Ebi curve.Sbi ebi-sbi);
        sbi-w = least-mono s h (mm-mono curve.Sbi curve.W sbi-w);
        w-p = least-mono h i (mm-mono curve.W curve.P w-p);
      }
