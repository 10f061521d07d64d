-- `find`: the signal's refusal, else the way.
use Rattle.query_way.proofs.Found.{found}
use Rattle.query_way.proofs.find.Goals as goal

pub returns : goal.returns
returns c = let i = c.in_ok-sheet.ensures in rw (← i.sheet) (found _ _ _ _ _ _ (rw (← i.sheet) at i) c.ahead-grade_ahead.ensures c.past-grade_past.ensures)
