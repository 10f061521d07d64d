-- `ramp`: a refusal is the definition's, and so is the stop, of the gradient that came in.
use mir.Syntax.{w32}
use mir.ValLaws.{to_z-of_z}
use Rattle.std.proofs.Common.{Err}
use Rattle.train.specs.Gradient.{gradient_of}
use Rattle.ramp_motion.specs.declared.Overrun.{Overrun}
use Rattle.ramp.specs.Answer.{overrun}
use Rattle.ramp.specs.Begin.{Starts, IsReady}
use Rattle.ramp.proofs.Answers.{ramp-refused, ramp-given}
use Rattle.ramp.proofs.ramp.Goals as goal
use Rattle.ramp.proofs.ramp.Goals.{After-start}

-- the run that was asked for, with its gradient as a rise and a fall
started : (c : After-start) → let a = c.args in Starts a.k (overrun a.weight (gradient_of a.gradient) a.v a.tm a.tr) c.start.result
started c = rw (rw (to_z-of_z w32 c.args.gradient c.ranges.gradient) at c.gradient_of.ensures) at c.start.ensures

pub returns-in-Ok : goal.returns-in-Ok
returns-in-Ok c =
    let a = c.args in
    let run : Overrun = overrun a.weight (gradient_of a.gradient) a.v a.tm a.tr in
    let ready : IsReady a.k run c.in-Ok.m = rw c.in-Ok.is at (started (goal.at.returns-in-Ok c).After-start) in
    ramp-given a.k run _ _ ready c.stop_at.ensures

pub returns-in-Err : goal.returns-in-Err
returns-in-Err c =
    let a = c.args in
    let run : Overrun = overrun a.weight (gradient_of a.gradient) a.v a.tm a.tr in
    let h : Starts a.k run (Err c.in-Err.r) = rw c.in-Err.is at (started (goal.at.returns-in-Err c).After-start) in
    rw c.from.ensures (ramp-refused a.k run _ h.0 h.1)
