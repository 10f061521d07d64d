-- `beta`: the speed less what the climb takes, or the target if that is more.
use native.Mathlib.Omega.{arith}
use Rattle.step_braking.specs.Plan.{beta_of}
use Rattle.step_braking.proofs.Bounds.{slope-way, speed-small}
use Rattle.step_braking.proofs.strength.beta.Goals as goal

pub overflow_add-speed : goal.overflow_add-speed
overflow_add-speed c =
    let d = slope-way c.args.c.dn7 c.args.c.t8 c.requires.0.dn7 c.requires.0.t8 in
    let s = speed-small c.args.v.0 c.requires.1.high in
    omega (arith, c.fine.ensures)

pub returns : goal.returns
unfolding beta_of
returns c = omega (arith, c.fine.ensures, c.fine-2.ensures, c.saturating_sub.ensures, c.max.ensures)
