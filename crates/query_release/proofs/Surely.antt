-- A speed is surely within the overlap where a faster one is.
use mathlib.Core.Path.{◌≡◌}
use mathlib.Core.Bool.{true}
use Prim.Native.Nat.{ℕ, ◌≤◌}
use native.Mathlib.Nat.{le_trans}
use borrow.Author.Tests.{le-leb, leb-true}
use Rattle.train.specs.declared.Metre.{Metre}
use Rattle.train.specs.declared.Inertia.{Inertia}
use Rattle.ramp_motion.specs.declared.Overrun.{Overrun}
use Rattle.ramp_motion.specs.declared.Plan.{Plan}
use Rattle.ramp_motion.specs.Plan.{IsPlan}
use Rattle.ramp_plan.specs.Fair.{Small, Enough}
use Rattle.ramp.proofs.Speeds.{slower}
use Rattle.query_climb.specs.Sure.{Sure}
use Rattle.query_release.specs.Release.{stops_within}

module _ (k : Inertia) (o : Overrun) (m : Plan) (is : IsPlan k o m) (s : Small m) (e : Enough m) where
  pub sure-of : (overlap : Metre) (w : ℕ) → w ≤ 100 → stops_within k o overlap w ≡ true → Sure (stops_within k o overlap) 0 w
  sure-of overlap w b h = record { each = λ v l i. le-leb _ _ (le_trans (slower k o m is s e v w i b).1 (leb-true _ _ h)) }
