-- The third demand on the release speed. In a file of its own, since the whole demand rests on it.
use mathlib.Core.Path.{◌≡◌}
use mathlib.Core.Bool.{false}
use Prim.Native.Nat.{ℕ}
use native.Mathlib.Omega.{arith}
use Rattle.train.specs.declared.Train.{Train}
use Rattle.train.specs.declared.Coefficients.{Coefficients}
use Rattle.query_way.specs.declared.Way.{Way}
use Rattle.query_release.specs.Release.{weak_past}
use Rattle.query.specs.Demand.{past_at, Creeps}
use Rattle.query.specs.Answer.{release}
use Rattle.query.specs.Begin.{Fit}
use Rattle.query.proofs.Creep.{low, is-safe, is-tight}

module _ (k : Coefficients) (t : Train) (tm tr : ℕ) (w : Way) (f : Fit k t tm tr w) where
  -- the release speed
  pub creeps : weak_past k.inertia (past_at t tm tr w 1) w.overlap ≡ false → Creeps k t tm tr w (release k t tm tr w).0
  creeps past =
      let l = low k t tm tr w f in
      record {
        safe = is-safe k t tm tr w f past;
        tight = is-tight k t tm tr w f past;
        most = omega arith;
        top = omega arith;
      }
