-- One plan serves every speed: its stop from a speed is the definition's, and a slower train stops no later and no further.
use mathlib.Core.Path.{◌≡◌, refl, ◌∙◌}
use Prim.Native.Nat.{ℕ, ◌+◌, ◌*◌, ◌≤◌}
use native.Mathlib.Omega.{arith}
use native.Mathlib.Nat.{mul-le-mul_left}
use Rattle.train.specs.declared.Inertia.{Inertia}
use Rattle.ramp_motion.specs.declared.Overrun.{Overrun}
use Rattle.ramp_motion.specs.declared.Plan.{Plan}
use Rattle.ramp_motion.specs.Motion.{dp}
use Rattle.ramp_motion.specs.Plan.{IsPlan}
use Rattle.ramp_motion.proofs.Planned.{plan_of-is}
use Rattle.ramp_plan.specs.Fair.{Small, Enough}
use Rattle.ramp_plan.proofs.Whole.{by-rise}
use Rattle.ramp_stop.specs.Stop.{Turns, place_up}
use Rattle.ramp_stop.proofs.Rolling.{turns}
use Rattle.ramp_stop.proofs.Slower.{no-later, stops-sooner}
use Rattle.ramp.specs.declared.Stop.{Stop}
use Rattle.ramp.specs.Answer.{at_speed, moment, distance}
use Rattle.ramp.specs.Begin.{Stops, from_speed}
use Rattle.ramp.proofs.Moment.{moment-is}
use Rattle.ramp.proofs.Kept.{distance_is}

pub from-small : (m : Plan) (v : ℕ) → Small m → v ≤ 100 → Small (from_speed m v)
from-small m v s h =
    let c = s.counted in
    record {
      start = by-rise (50000000000 * v) 5000000000000 m.tr (omega arith);
      up = s.up;
      down = s.down;
      brake = s.brake;
      tm = s.tm;
      some = s.some;
      tr = s.tr;
      counted = record {
        speed = 50000000000 * v;
        rise = c.rise;
        fall = c.fall;
        power = c.power;
        start_is = refl;
        up_is = c.up_is;
        down_is = c.down_is;
        brake-is = c.brake-is;
      };
    }

module _ (k : Inertia) (o : Overrun) (m : Plan) (is : IsPlan k o m) (s : Small m) where
  pub from-plan : (v : ℕ) → IsPlan k (at_speed o v) (from_speed m v)
  unfolding dp
  from-plan v = record {
    start = rw is.tr (plan_of-is k (at_speed o v) (omega (arith, s.some, is.tr))).start;
    slope = is.slope;
    brake = is.brake;
    tm = is.tm;
    tr = is.tr;
  }

  reaches : (v t : ℕ) → v ≤ 100 → Turns (from_speed m v) t → place_up (from_speed m v) t + 1 ≡ distance k (at_speed o v)
  reaches v t b h = distance_is k (at_speed o v) (from_speed m v) (from-plan v) (from-small m v s b) t h

  pub from-distance : (v : ℕ) (r : Stop) → v ≤ 100 → Stops (from_speed m v) r → r.distance.0 ≡ distance k (at_speed o v)
  from-distance v r b h = h.distance ∙ reaches v r.moment b h.turns

  -- the moment is no earlier at a higher speed, and the distance no less
  pub slower : Enough m → (v w : ℕ) → v ≤ w → w ≤ 100 → (moment k (at_speed o v) ≤ moment k (at_speed o w)) × (distance k (at_speed o v) ≤ distance k (at_speed o w))
  slower e v w h b =
      let a : v ≤ 100 = omega arith in
      let (t, p) = turns (from_speed m v) (from-small m v s a) e in
      let (t', q) = turns (from_speed m w) (from-small m w s b) e in
      let i = by-rise _ _ m.tr (mul-le-mul_left 50000000000 h) in (
        omega (arith, moment-is k (at_speed o v) (from_speed m v) (from-plan v) s.some t p, moment-is k (at_speed o w) (from_speed m w) (from-plan w) s.some t' q, no-later m _ _ i t t' p q),
        omega (arith, reaches v t a p, reaches w t' b q, stops-sooner m _ _ i t t' p q s.some),
      )
