-- Document 01, "Step distances"; document 002, sections 7 to 7.4, and 8.1 for tR, as they are printed, with the train's own
-- coefficients (document 02, Card 5). Times in s, speeds in m/s.
use Rattle.std.specs.Prelude.{Bool, cond, leb, eqb}
use Rattle.exact.specs.Fraction.{Fraction, whole, signed, ◌over◌, ◌+q◌, ◌-q◌, ◌*q◌, maxq}
use Rattle.train.specs.declared.Kmh.{Kmh}
use Rattle.train.specs.declared.Train.{Train}
use Rattle.train.specs.declared.Gradient.{Gradient}
use Rattle.train.specs.declared.Coefficients.{Coefficients}
use Rattle.train.specs.Units.{speed}
use Rattle.train_delay.specs.Delay.{tf}
use Rattle.train_slope.specs.Slope.{di, dr}
use Rattle.train.specs.Refusal.{strong_enough}

-- section 8.1: not h, though its first value is the same
abbrev pub t_r : Fraction
t_r = 10 over 10

-- section 7: h + tf
unfoldable pub T : Coefficients → Train → Fraction
T k t = (k.h over 10) +q tf k t

-- section 7.3.1; document 01: 1 where V is 0
unfoldable pub K0 : Coefficients → Kmh → Kmh → Fraction
K0 k v v0 = cond (eqb v.0 0) (whole 1) (whole 1 -q (k.cr over 100) *q (v0.0 over v.0))

-- section 7.3.2
unfoldable pub KC : Coefficients → Kmh → Fraction
KC k v = cond (leb v.0 k.vc.0) (whole 1) (whole 1 +q signed k.nc.plus k.nc.minus 1000 *q (whole v.0 -q whole k.vc.0))

module _ (k : Coefficients) (t : Train) (g : Gradient) (v v0 : Kmh) where
  -- section 7.3
  unfoldable pub dp : Fraction
  dp = K0 k v v0 *q KC k v *q ((k.kr over 100) *q dr t.weight)

  -- section 7.4
  unfoldable pub Vβ : Fraction
  Vβ = maxq (speed v -q di k.inertia g *q T k t) (speed v0)

  unfoldable pub strong : Bool
  strong = strong_enough (dp +q di k.inertia g)
