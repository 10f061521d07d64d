-- `step_back`: so many steps, or the end where the stretch that holds the first point comes sooner.
use Rattle.sheet.specs.Sheet.{line_of}
use Rattle.sheet_span.specs.Least.{stretch_at}
use Rattle.sheet_walk.proofs.Steps.{Underway}
use Rattle.sheet_walk.proofs.step_back.Given as goal

-- as many steps as were counted from the stretch at the span's last point
abbrev pub invariant-loop : goal.invariant-loop
invariant-loop l = let line = line_of l.s.bytes.now in Underway line l.fn.first.0 (stretch_at line l.fn.last.0) l.walk l.counter
