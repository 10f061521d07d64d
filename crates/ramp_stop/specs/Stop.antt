-- What the code finds: the last millisecond before the train rolls back, and the place then.
use Rattle.std.specs.Prelude.{ℕ, ◌+◌, ◌*◌, ◌-◌, ◌^◌, ◌≤◌, ◌<◌}
use Rattle.exact.specs.Fraction.{◌over◌, raised}
use Rattle.ramp_motion.specs.declared.Plan.{Plan}
use Rattle.ramp_motion.specs.Plan.{fast, slow, gain, loss}

-- longer than any stop takes, in ms
abbrev pub longest : ℕ
longest = 1048576

-- up to here every number of the place is one word long
abbrev pub word_long : ℕ
word_long = 524288

-- the speed is not below 0 at t ms, and is at the next
pub record Turns (m : Plan) (t : ℕ) : Type 0 where
  pub still : slow m t ≤ fast m t
  pub back : fast m (t + 1) < slow m (t + 1)
  pub early : t < longest

-- the place at t in millimetres, raised
unfoldable pub place_up : Plan → ℕ → ℕ
place_up m t = raised ((gain m t - loss m t) over (108 * 10 ^ 10 * m.tr))

-- the same motion from another speed
abbrev pub from : Plan → ℕ → Plan
from m v = record { start = v; up = m.up; down = m.down; brake = m.brake; tm = m.tm; tr = m.tr }
