-- What the code knows of a plan: how large its numbers are, and that its brake is strong enough.
use Rattle.std.specs.Prelude.{◌≡◌, ℕ, ◌+◌, ◌*◌, ◌≤◌, ◌<◌}
use Rattle.train.specs.Gradient.{Moderate}
use Rattle.ramp_motion.specs.declared.Overrun.{Overrun}
use Rattle.ramp_motion.specs.declared.Plan.{Plan}

-- inputs within their spans
pub record Fair (o : Overrun) : Type 0 where
  pub weight : o.weight ≤ 160
  pub gradient : Moderate o.gradient
  pub v : o.v.0 ≤ 100
  pub tm : o.tm ≤ 2000
  pub some : 0 < o.tr
  pub tr : o.tr ≤ 3000

-- V and the slope are whole numbers of tr, the brake one of 3
pub record Counted (m : Plan) : Type 0 where
  pub speed : ℕ
  pub rise : ℕ
  pub fall : ℕ
  pub power : ℕ
  pub start_is : m.start ≡ speed * m.tr
  pub up_is : m.up ≡ 2 * rise * m.tr
  pub down_is : m.down ≡ 2 * fall * m.tr
  pub brake-is : m.brake ≡ 3 * power

-- they make numbers no larger than these
pub record Small (m : Plan) : Type 0 where
  pub start : m.start ≤ 5000000000000 * m.tr
  pub up : m.up ≤ 74163600 * m.tr
  pub down : m.down ≤ 74163600 * m.tr
  pub brake : m.brake ≤ 96390000
  pub tm : m.tm ≤ 20000
  pub some : 0 < m.tr
  pub tr : m.tr ≤ 30000
  pub counted : Counted m

-- dp + di is 0.05 m/s² or more
abbrev pub Enough : Plan → Type 0
Enough m = m.down + 9000000 * m.tr ≤ 2 * m.brake * m.tr + m.up
