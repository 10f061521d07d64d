-- The whole numbers that the code works with: how strongly the train brakes, and the speed that is left when it begins to.
use Rattle.std.specs.Prelude.{Bool, ℕ, ◌+◌, ◌*◌, ◌-◌, ◌^◌, ◌≤◌, ◌<◌, max, leb}
use Rattle.step_braking.specs.declared.Course.{Course}

-- v km/h in m/s / (9·10¹⁵)
unfoldable pub v9 : ℕ → ℕ
v9 v = v * (25 * 10 ^ 14)

-- V, and 1 at standstill: what V0 is over
unfoldable pub s_of : ℕ → ℕ
s_of v = max v 1

-- the most that the deceleration, Vβ and V come to
abbrev pub a_most : ℕ
a_most = 2668881600000000

abbrev pub beta_most : ℕ
beta_most = 980743560000000000

abbrev pub speed_most : ℕ
speed_most = 825000000000000000

module _ (c : Course) where
  -- Vβ, as fine as v9
  unfoldable pub beta_of : ℕ → ℕ → ℕ
  beta_of v v0 = max (v9 v + 9 * c.dn7 * c.t8 - 9 * c.up7 * c.t8) (v9 v0)

  -- the brake's part of the deceleration, but for KC
  unfoldable pub brake_of : ℕ → ℕ → ℕ
  brake_of v v0 = c.power * (100 * s_of v - c.cr * v0)

  -- the deceleration in m/s² / (10¹² s) is gain - loss
  unfoldable pub gain_of : ℕ → ℕ → ℕ
  gain_of v v0 = brake_of v v0 * (1000 + c.plus * (v - c.vc.0)) + c.up7 * (100000 * s_of v)

  unfoldable pub loss_of : ℕ → ℕ → ℕ
  loss_of v v0 = brake_of v v0 * (c.minus * (v - c.vc.0)) + c.dn7 * (100000 * s_of v)

  -- 0.05 m/s² or more
  abbrev pub Enough : ℕ → ℕ → Type 0
  Enough v v0 = loss_of v v0 + 50000000000 * s_of v ≤ gain_of v v0

  abbrev pub strong_of : ℕ → ℕ → Bool
  strong_of v v0 = leb (loss_of v v0 + 50000000000 * s_of v) (gain_of v v0)

-- (g - l) / s is what the train brakes by at the least, from one speed to another, where it is enough
pub record Weakest (c : Course) (from to v0 s g l : ℕ) : Type 0 where
  pub some : 0 < s
  pub unit : s ≤ 330
  pub gain : g ≤ a_most
  pub loss : l ≤ a_most
  pub each : l + 50000000000 * s ≤ g → (v : ℕ) → from ≤ v → v ≤ to → Enough c v v0 × ((g - l) * s_of v ≤ (gain_of c v v0 - loss_of c v v0) * s)

-- what is accepted makes numbers no larger than these
pub record Small (c : Course) : Type 0 where
  pub t8 : c.t8 ≤ 4200000000
  pub r8 : c.r8 ≤ 3800000000
  pub up7 : c.up7 ≤ 4120200
  pub dn7 : c.dn7 ≤ 4120200
  pub power : c.power ≤ 17850000
  pub cr : c.cr ≤ 10
  pub plus : c.plus ≤ 10
  pub minus : c.minus ≤ 10

pub record Near (v v0 : ℕ) : Type 0 where
  pub high : v ≤ 330
  pub ahead : v0 ≤ v
