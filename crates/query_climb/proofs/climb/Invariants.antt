-- `climb`: each speed up to the one reached has been asked for, and fits.
use Rattle.std.proofs.Common.{ℕ, ◌-◌, ◌<◌, ◌≤◌, true}
use Rattle.train.specs.Units.{kmh}
use Rattle.query_climb.proofs.climb.Given as goal

abbrev pub invariant-loop-v : goal.invariant-loop-v
invariant-loop-v g l = (l.fn.from.0 ≤ l.v) × (l.v ≤ l.fn.end.0) × ((k : ℕ) → l.fn.from.0 < k → k ≤ l.v → goal.F-post g l.fits (kmh k) true)

abbrev pub decreases-loop-v : goal.decreases-loop-v
decreases-loop-v g l = l.fn.end.0 - l.v
