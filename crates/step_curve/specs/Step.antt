-- Document 01, "Step distances"; document 002, sections 7 and 8 as they are printed. Times in s, speeds in m/s, distances in m.
use Rattle.exact.specs.Fraction.{Fraction, whole, ◌over◌, ◌+q◌, ◌-q◌, ◌*q◌, ◌/q◌}
use Rattle.train.specs.declared.Kmh.{Kmh}
use Rattle.train.specs.declared.Millimetre.{Millimetre}
use Rattle.train.specs.declared.Train.{Train}
use Rattle.train.specs.declared.Gradient.{Gradient}
use Rattle.train.specs.declared.Coefficients.{Coefficients}
use Rattle.train.specs.Units.{speed, in_millimetres}
use Rattle.train_delay.specs.Delay.{tf}
use Rattle.train_slope.specs.Slope.{di}
use Rattle.step_braking.specs.Braking as braking
use Rattle.step_braking.specs.Braking.{t_r, T, dp}
use Rattle.step_curve.specs.declared.Curve.{Curve}
use Rattle.step_curve.specs.declared.Curve.TheVariants as curve

-- sections 8.2 and 8.3
abbrev pub t_w : Fraction
t_w = 15 over 10

abbrev pub t_p : Fraction
t_p = 15 over 10

module _ (k : Coefficients) (t : Train) (g : Gradient) (v v0 : Kmh) where
  abbrev Vβ : Fraction
  Vβ = braking.Vβ k t g v v0

  unfoldable pub EBI : Fraction
  EBI = T k t *q Vβ +q (Vβ *q Vβ -q speed v0 *q speed v0) /q (whole 2 *q (dp k t g v v0 +q di k.inertia g))

  unfoldable pub SBI : Fraction
  SBI = EBI +q (t_r +q tf k t) *q Vβ

  unfoldable pub W : Fraction
  W = SBI +q t_w *q speed v

  unfoldable pub P : Fraction
  P = W +q t_p *q speed v

  abbrev pub formula : Curve → Fraction
  formula curve.Ebi = EBI
  formula curve.Sbi = SBI
  formula curve.W = W
  formula curve.P = P

  -- worked out exactly and then raised, once
  unfoldable pub distance : Curve → Millimetre
  distance c = in_millimetres (formula c)
