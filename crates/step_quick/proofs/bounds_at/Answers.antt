-- `bounds_at`: with the strength at the speed itself.
use Rattle.step_curve.specs.Plan.{a_of}
use Rattle.step_quick.proofs.bounds_at.Goals as goal

pub bounds_with-requires : goal.bounds_with-requires
bounds_with-requires c = let e = c.at.ensures in (c.requires.0, c.requires.1, e.3, e.4, rw (e.0, e.1, e.2) c.requires.2)

pub returns : goal.returns
unfolding a_of
returns c = let e = c.at.ensures in rw (e.0, e.1, e.2) at c.bounds_with.ensures
