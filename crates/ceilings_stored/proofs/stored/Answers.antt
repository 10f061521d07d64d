-- `stored`: the table keeps its rule by one computed test.
use mathlib.Core.Path.{refl}
use native.Mathlib.Omega.{arith}
use Rattle.ceilings.specs.Ceilings.{grown_to, ceiling_of}
use Rattle.ceilings.proofs.Answers.{ceilings-given}
use Rattle.ceilings_stored.specs.Table.{entry_at}
use Rattle.ceilings_stored.proofs.Tested.{ruled}
use Rattle.ceilings_stored.proofs.stored.Goals as goal

pub row-requires : goal.row-requires
unfolding entry_at ceiling_of grown_to
row-requires c = (ruled _ refl, omega arith)

pub returns : goal.returns
returns c = rw c.row.ensures (ceilings-given c.args.permitted (omega arith))
