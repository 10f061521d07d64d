-- `surely_fitting`: every speed up to low is sure, and each turn raises low or lowers the stride.
use Prim.Native.Nat.{◌+◌, ◌-◌, ◌≤◌}
use Rattle.query_climb.specs.Sure.{Sure}
use Rattle.query_permitted.specs.Find.{fits_by}
use Rattle.query_permitted.proofs.surely_fitting.Given as goal

abbrev pub invariant-loop-stride : goal.invariant-loop-stride
invariant-loop-stride l = (l.v0.0 ≤ l.low) × (l.low ≤ l.top.0) × Sure (fits_by l.c l.v0.0 l.d.0) l.v0.0 l.low

abbrev pub decreases-loop-stride : goal.decreases-loop-stride
decreases-loop-stride l = (l.top.0 - l.low) + l.stride
