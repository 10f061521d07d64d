-- `fill`: after k turns the first k places are the plan's.
use Prim.Native.Nat.{◌+◌}
use mathlib.Core.Path.{◌≡◌}
use lib.ListN.{length, take}
use Rattle.step_curve.specs.Plan.{place_of}
use Rattle.lists.specs.Counted.{up_to}
use Rattle.step_row.proofs.fill.Given as goal

abbrev pub invariant-loop-k : goal.invariant-loop-k
invariant-loop-k l = (length l.place-items ≡ l.n) × (take l.k l.place-items ≡ up_to (λ i. place_of l.curve l.c (l.v0.0 + i) l.v0.0) l.k)
