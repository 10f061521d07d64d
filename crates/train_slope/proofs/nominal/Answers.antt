-- `nominal`: the sum fits, and is the paper's.
use native.Mathlib.Omega.{arith}
use Rattle.train_slope.proofs.Decelerations.{dr-is}
use Rattle.train_slope.proofs.nominal.Goals as goal

pub returns : goal.returns
returns c = (rw c.from.ensures (dr-is c.args.weight), omega arith)
