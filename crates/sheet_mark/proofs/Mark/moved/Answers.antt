-- `Mark::moved`: the step along a sheet, else refusal 7.
use Rattle.sheet_mark.proofs.Answers.{no-sheet, along}
use Rattle.sheet_mark.proofs.Mark.moved.Goals as goal

pub returns-in-Ok : goal.returns-in-Ok
returns-in-Ok c = rw (← c.in-Ok.ensures.ok.0) (along _ _ _ c.in-Ok.sheet.accepted (rw c.in-Ok.ensures.ok.0 c.in-Ok.ensures.ok.1) c.step.ensures)

pub returns-in-Err : goal.returns-in-Err
returns-in-Err c = rw (c.from.ensures, c.in-Err.ensures.err.0) (no-sheet _ _ c.in-Err.ensures.err.1)
