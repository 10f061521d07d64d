-- The motion in whole numbers, one form for all three phases: what the code works with.
use Rattle.std.specs.Prelude.{◌≡◌, ℕ, ◌+◌, ◌*◌, ◌-◌, ◌^◌}
use Rattle.exact.specs.Fraction.{signed, ◌over◌, ◌≈q◌}
use Rattle.train.specs.declared.Inertia.{Inertia}
use Rattle.train.specs.Units.{speed}
use Rattle.ramp_motion.specs.declared.Overrun.{Overrun}
use Rattle.ramp_motion.specs.declared.Plan.{Plan}
use Rattle.ramp_motion.specs.Motion.{di, dp}

pub record IsPlan (k : Inertia) (o : Overrun) (m : Plan) : Type 0 where
  pub start : speed o.v ≈q m.start over (18 * 10 ^ 10 * m.tr)
  pub slope : di k o ≈q signed m.up m.down (18 * 10 ^ 7 * m.tr)
  pub brake : dp o ≈q m.brake over (9 * 10 ^ 7)
  pub tm : m.tm ≡ 10 * o.tm
  pub tr : m.tr ≡ 10 * o.tr

module _ (tm tr : ℕ) where
  -- how long the brake has acted at t, and how long in full
  abbrev pub acted : ℕ → ℕ
  acted t = t - tm

  abbrev pub full : ℕ → ℕ
  full t = t - (tm + tr)

  -- the brake takes dp · squares / (2 tr) off the speed, and dp · cubes / (6 tr) off the place
  unfoldable pub squares : ℕ → ℕ
  squares t = acted t * acted t - full t * full t

  unfoldable pub cubes : ℕ → ℕ
  cubes t = acted t * acted t * acted t - full t * full t * full t

-- the speed at t is fast - slow, the place gain - loss
module _ (m : Plan) where
  abbrev pub fast : ℕ → ℕ
  fast t = m.start + m.down * t

  abbrev pub slow : ℕ → ℕ
  slow t = m.up * t + m.brake * squares m.tm m.tr t

  abbrev pub gain : ℕ → ℕ
  gain t = 3 * t * (2 * m.start + m.down * t)

  abbrev pub loss : ℕ → ℕ
  loss t = 3 * t * (m.up * t) + 2 * m.brake * cubes m.tm m.tr t
