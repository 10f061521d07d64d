-- Document 01, "Ramp"; document 000, sections 5.1 and 5.2. Times in s, decelerations in m/s², speeds in m/s, places in m.
use Rattle.std.specs.Prelude.{cond}
use Rattle.exact.specs.Fraction.{Fraction, whole, ◌over◌, ◌+q◌, ◌-q◌, ◌*q◌, ◌/q◌, leq}
use Rattle.train.specs.declared.Inertia.{Inertia}
use Rattle.train.specs.Units.{speed}
use Rattle.train_slope.specs.Slope as slope
use Rattle.train_slope.specs.Slope.{dr}
use Rattle.ramp_motion.specs.declared.Overrun.{Overrun}

-- 0.9 dr: document 000, section 5.2.1, by its product rule
unfoldable pub dp : Overrun → Fraction
dp o = (9 over 10) *q dr o.weight

module _ (k : Inertia) (o : Overrun) where
  abbrev pub di : Fraction
  di = slope.di k o.gradient

  -- the dead time and the rise time
  abbrev pub TM : Fraction
  TM = o.tm over 100

  abbrev pub TR : Fraction
  TR = o.tr over 100

  -- the time since TM, and since TM + TR
  abbrev pub u : Fraction → Fraction
  u t = t -q TM

  abbrev pub w : Fraction → Fraction
  w t = t -q TM -q TR

  -- what the brake adds: nothing up to TM, r up to TM + TR, c from there on
  abbrev pub braked : Fraction → Fraction → Fraction → Fraction
  braked t r c = cond (leq t TM) (whole 0) (cond (leq t (TM +q TR)) r c)

  -- di up to TM, di + dp (t - TM) / TR up to TM + TR, di + dp for ever, also past standstill
  unfoldable pub deceleration_at : Fraction → Fraction
  deceleration_at t = di +q braked t (dp o *q u t /q TR) (dp o)

  -- what that makes of the speed and of the place (theorems `speed-loses` and `place-gains` of proofs/Calculus.antt)
  unfoldable pub speed_at : Fraction → Fraction
  speed_at t = speed o.v -q di *q t -q braked t (dp o *q (u t *q u t) /q (whole 2 *q TR)) (dp o *q (TR /q whole 2 +q w t))

  unfoldable pub place_at : Fraction → Fraction
  place_at t =
      speed o.v *q t -q di *q (t *q t) /q whole 2
      -q braked t (dp o *q (u t *q u t *q u t) /q (whole 6 *q TR)) (dp o *q (TR *q TR /q whole 6 +q TR *q w t /q whole 2 +q w t *q w t /q whole 2))
