-- Every number of the plan fits its type.
use Prim.Native.Nat.{ℕ, ◌+◌, ◌*◌, ◌-◌, ◌≤◌, ◌<◌}
use native.Mathlib.Omega.{arith}
use native.Mathlib.Nat.{mul-le-mul}
use Rattle.step_braking.specs.declared.Course.{Course}
use Rattle.step_braking.specs.Plan.{v9, s_of, beta_of, brake_of, gain_of, loss_of, Small, Near, a_most, beta_most, speed_most}

-- the speed that a slope takes or gives
pub slope-way : (n t : ℕ) → n ≤ 4120200 → t ≤ 4200000000 → 9 * n * t ≤ 155743560000000000
slope-way n t h k = mul-le-mul {n₂ = 37081800} {m₂ = 4200000000} (omega arith) k

pub s-small : (v : ℕ) → v ≤ 330 → (s_of v ≤ 330) × ((v ≤ s_of v) × (0 < s_of v))
unfolding s_of
s-small v h = omega arith

module _ (c : Course) (v v0 : ℕ) (sm : Small c) (n : Near v v0) where
  brake-small : c.power * (100 * s_of v - c.cr * v0) ≤ 589050000000
  brake-small = mul-le-mul {n₂ = 17850000} {m₂ = 33000} sm.power (let i = s-small v n.high in omega arith)

  fast-small : (x : ℕ) → x ≤ 10 → x * (v - c.vc.0) ≤ 3300
  fast-small x h = mul-le-mul {n₂ = 10} {m₂ = 330} h (let i = n.high in omega arith)

  pub slope-small : (x : ℕ) → x ≤ 4120200 → x * (100000 * s_of v) ≤ 135966600000000
  slope-small x h = mul-le-mul {n₂ = 4120200} {m₂ = 33000000} h (let i = s-small v n.high in omega arith)

  pub gain-small : (gain_of c v v0 ≤ a_most) × (brake_of c v v0 * (1000 + c.plus * (v - c.vc.0)) ≤ 2532915000000000)
  unfolding gain_of brake_of
  gain-small =
      let i = slope-small c.up7 sm.up7 in
      let f = fast-small c.plus sm.plus in
      let j : brake_of c v v0 * (1000 + c.plus * (v - c.vc.0)) ≤ 2532915000000000 = mul-le-mul {n₂ = 589050000000} {m₂ = 4300} brake-small (omega arith) in
      (omega arith, j)

  pub loss-small : (loss_of c v v0 ≤ a_most) × (brake_of c v v0 * (c.minus * (v - c.vc.0)) ≤ 2532915000000000)
  unfolding loss_of brake_of
  loss-small =
      let i = slope-small c.dn7 sm.dn7 in
      let j : brake_of c v v0 * (c.minus * (v - c.vc.0)) ≤ 1943865000000000 = mul-le-mul {n₂ = 589050000000} {m₂ = 3300} brake-small (fast-small c.minus sm.minus) in
      (omega arith, omega arith)

  pub beta-small : (v9 v0 ≤ beta_of c v v0) × (beta_of c v v0 ≤ beta_most)
  unfolding beta_of v9
  beta-small =
      let i = slope-way c.dn7 c.t8 sm.dn7 sm.t8 in
      let h = n.high in
      let k = n.ahead in
      omega arith

pub speed-small : (v : ℕ) → v ≤ 330 → v9 v ≤ speed_most
unfolding v9
speed-small v h = omega arith
