-- The third demand holds of the definition, for every accepted query.
use mathlib.Core.Path.{◌≡◌}
use mathlib.Core.Bool.{true, false}
use Prim.Native.Nat.{ℕ}
use native.Mathlib.Omega.{arith}
use borrow.Author.Tests.{ltb-false}
use Rattle.train.specs.declared.Train.{Train}
use Rattle.train.specs.declared.Coefficients.{Coefficients}
use Rattle.train.specs.Units.{kmh}
use Rattle.train.specs.Refusal.{train_refusals}
use Rattle.train.proofs.Refusals.{train-rising, none-holds}
use Rattle.step_braking.specs.Braking.{strong}
use Rattle.step_braking.proofs.Coursed.{course}
use Rattle.query_way.specs.declared.Way.{Way}
use Rattle.query_release.specs.Release.{weak_past}
use Rattle.query_permitted.specs.Permitted.{permitted_of, mark_of}
use Rattle.query.specs.Demand.{past_at, Demand}
use Rattle.query.specs.Answer.{release}
use Rattle.query.specs.Begin.{Fit, FitAhead}
use Rattle.query.proofs.Creep.{places, low}
use Rattle.query.proofs.Marks.{distances, is-marked}
use Rattle.query.proofs.Brake.{both-strong}
pub use Rattle.query.proofs.Released.{creeps}

module _ (k : Coefficients) (t : Train) (tm tr : ℕ) (w : Way) (f : Fit k t tm tr w) where
  -- what the climb to the permitted speed asks for
  pub fit-ahead : FitAhead t w.ahead (release k t tm tr w)
  fit-ahead =
      let n = none-holds 0 (train_refusals t) (train-rising t) f.train in
      let l = low k t tm tr w f in
      record {
        weight = ltb-false _ _ n.1.0;
        length = ltb-false _ _ n.1.1.1.0;
        gradient = f.ahead;
        speeds = omega arith;
        top = ltb-false _ _ n.1.1.1.1.1.0;
      }

  module _ (past : weak_past k.inertia (past_at t tm tr w 1) w.overlap ≡ false) (ahead : strong k t w.ahead (release k t tm tr w) (release k t tm tr w) ≡ true) where
    abbrev R : ℕ
    R = (release k t tm tr w).0

    -- the third demand
    pub kept : Demand k t tm tr w R (permitted_of k t w.ahead (kmh R) w.distance) (mark_of k t w.ahead (kmh R) w.distance)
    kept =
        let a = fit-ahead in
        let (c, is) = course k t w.ahead f.within a.weight a.length a.gradient in
        record {
          numbers = record { places = places k t tm tr w f; distances = distances k t tm tr w R c is };
          creeps = creeps k t tm tr w f past;
          enough = both-strong k t tm tr w past ahead;
          marked = is-marked k t tm tr w R c is ahead a.speeds;
        }
