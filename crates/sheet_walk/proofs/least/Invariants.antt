-- `least`: steps until the stretch holds the span's first point.
use Prim.Native.Nat.{ℕ}
use Rattle.sheet.specs.Sheet.{line_of}
use Rattle.sheet_span.specs.Least.{stretch_at}
use Rattle.sheet_walk.proofs.Steps.{Underway}
use Rattle.sheet_walk.proofs.least.Given as goal

-- after some steps from the stretch at the span's last point
abbrev pub invariant-loop-first : goal.invariant-loop-first
invariant-loop-first l = let line = line_of l.s.bytes.now in (n : ℕ) × Underway line l.fn.first.0 (stretch_at line l.fn.last.0) l.walk n

abbrev pub decreases-loop-first : goal.decreases-loop-first
decreases-loop-first l = l.walk.stretch
