-- `plan_of`: every product fits, and each number is the paper's.
use Rattle.ramp_motion.proofs.Planned.{is-plan}
use Rattle.ramp_plan.proofs.Whole.{is-small}
use Rattle.ramp_plan.proofs.plan_of.Goals as goal

pub returns : goal.returns
returns c =
    let p = c.pull_of-pull in
    let f = c.requires.1 in
    rw (c.from-tr.ensures, c.from.ensures, c.from-2.ensures)
    (is-plan c.args.o _ _ _ f.some c.args.k p.ensures.0 c.nominal-dp7.ensures.0, is-small c.args.o _ _ _ f p.ensures.1 p.ensures.2 c.nominal-dp7.ensures.1)
