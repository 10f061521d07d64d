-- `of_weight`: each test is one entry of the list.
use borrow.Author.Tests.{le-ltb}
use Rattle.train.proofs.Judging.{weight-judges, told}
use Rattle.train.proofs.refusal.of_weight.Goals as goal

pub returns : goal.returns
returns c = told (weight-judges _) (simp (le-ltb _ _ c.if-weight-lt45.false, le-ltb _ _ c.if-weight-gt160.false, le-ltb _ _ c.if-weight-gt0.false))
