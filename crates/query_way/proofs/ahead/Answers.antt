-- `ahead`: the walk from the signal's own point to the tail.
use Rattle.sheet.proofs.Kept.{headed-of}
use Rattle.query_way.proofs.Ways.{grade-over}
use Rattle.query_way.proofs.ahead.Goals as goal

pub returns : goal.returns
returns c = grade-over _ _ _ _ (headed-of _ c.args.s.accepted).1 (rw c.tail.ensures at c.least.ensures)
