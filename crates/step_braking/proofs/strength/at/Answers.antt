-- `at`: the bounds on a course and its speeds keep every product small, and the sums are the plan's.
use mathlib.Core.Path.{refl}
use Prim.Native.Nat.{ℕ, ◌+◌, ◌*◌, ◌-◌, ◌≤◌}
use native.Mathlib.Omega.{arith}
use Rattle.step_braking.specs.declared.Course.{Course}
use Rattle.step_braking.specs.Plan.{s_of, brake_of, gain_of, loss_of, Small, Near}
use Rattle.step_braking.proofs.Bounds.{s-small, slope-small, gain-small, loss-small}
use Rattle.step_braking.proofs.strength.at.Goals as goal
use Rattle.step_braking.proofs.strength.at.Goals.{After-from}

-- what keeps each term small, u the unit and x the speed above VC
record Sizes (c : Course) (u x v0 : ℕ) : Type 0 where
  grown : c.power * (100 * u - c.cr * v0) * (1000 + c.plus * x) ≤ 2532915000000000
  shrunk : c.power * (100 * u - c.cr * v0) * (c.minus * x) ≤ 2532915000000000
  up : c.up7 * (100000 * u) ≤ 135966600000000
  down : c.dn7 * (100000 * u) ≤ 135966600000000

sizes : (c : Course) (v v0 : ℕ) → Small c → Near v v0 → Sizes c (s_of v) (v - c.vc.0) v0
unfolding brake_of
sizes c v v0 s n = record {
  grown = (gain-small c v v0 s n).1;
  shrunk = (loss-small c v v0 s n).1;
  up = slope-small c v v0 s n c.up7 s.up7;
  down = slope-small c v v0 s n c.dn7 s.dn7;
}

known : (c : After-from) → Sizes c.args.c c.from-unit.result c.from-fast.result c.from.result
unfolding s_of
known c =
    rw (c.from-unit.ensures, c.max.ensures, c.from-fast.ensures, c.saturating_sub.ensures, c.from.ensures) (sizes c.args.c c.args.v.0 c.args.v0.0 c.requires.0 c.requires.1)

pub overflow_mul-gain-2 : goal.overflow_mul-gain-2
overflow_mul-gain-2 c = omega (arith, known (goal.at.overflow_mul-gain-2 c).After-from)

pub overflow_add-gain-2 : goal.overflow_add-gain-2
overflow_add-gain-2 c = omega (arith, known (goal.at.overflow_add-gain-2 c).After-from)

pub overflow_mul-loss-2 : goal.overflow_mul-loss-2
overflow_mul-loss-2 c = omega (arith, known (goal.at.overflow_mul-loss-2 c).After-from)

pub overflow_add-loss : goal.overflow_add-loss
overflow_add-loss c = omega (arith, known (goal.at.overflow_add-loss c).After-from)

pub returns : goal.returns
unfolding s_of gain_of loss_of brake_of
returns c =
    let v = c.args.v.0 in
    let v0 = c.args.v0.0 in
    let m = c.args.c in
    let s = c.requires.0 in
    let n = c.requires.1 in
    rw (c.from-unit.ensures, c.max.ensures, c.from-fast.ensures, c.saturating_sub.ensures, c.from.ensures) (refl, refl, refl, (s-small v n.high).0, (gain-small m v v0 s n).0, (loss-small m v v0 s n).0)
