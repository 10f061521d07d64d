-- `step`: a refusal is the definition's, and so are the four distances.
use mir.Syntax.{w32}
use mir.ValLaws.{to_z-of_z}
use Rattle.train.specs.Gradient.{gradient_of}
use Rattle.step.specs.Begin.{IsReady}
use Rattle.step.proofs.Answers.{step-refused, step_given}
use Rattle.train.proofs.Numbered.{numbered}
use Rattle.step.proofs.step.Goals as goal

pub returns-in-Ok : goal.returns-in-Ok
returns-in-Ok c =
    let a = c.args in
    let s : IsReady a.k a.train (gradient_of a.gradient) a.v a.v0 a.v c.in-Ok.c = rw (to_z-of_z w32 a.gradient c.ranges.gradient) at c.in-Ok.ensures in
    rw c.distances_at.ensures (step_given a.k a.train (gradient_of a.gradient) a.v a.v0 _ s.accepted s.speeds.ahead s.course s.enough)

pub returns-in-Err : goal.returns-in-Err
returns-in-Err c =
    let a = c.args in
    rw c.from.ensures (step-refused a.k a.train (gradient_of a.gradient) a.v a.v0 _ (numbered c.in-Err.r) (rw (to_z-of_z w32 a.gradient c.ranges.gradient) at c.in-Err.ensures))
