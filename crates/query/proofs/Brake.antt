-- Refusal 10 is given just where dp + di is less than 0.05 m/s² in a model that is consulted.
use mathlib.Core.Path.{◌≡◌}
use mathlib.Core.Bool.{Bool, true, false}
use mathlib.Core.Logic.{inl, inr}
use Prim.Native.Nat.{ℕ}
use borrow.Author.Tests.{lt-ltb, ltb-true, leb-true, leb-false, not-true, not-false}
use lib.Dec.{ltb}
use Rattle.lists.proofs.Holding.{and_left, and_right}
use Rattle.train.specs.declared.Train.{Train}
use Rattle.train.specs.declared.Coefficients.{Coefficients}
use Rattle.step_braking.specs.Braking.{strong}
use Rattle.ramp.specs.Answer as ramp
use Rattle.query_way.specs.declared.Way.{Way}
use Rattle.query_release.specs.Release.{weak_past}
use Rattle.query.specs.Demand.{past_at, Creeps, Enough}
use Rattle.query.specs.Answer.{release}
use Rattle.query.specs.Rules.{TooWeak}

module _ (k : Coefficients) (t : Train) (tm tr : ℕ) (w : Way) where
  abbrev weak : Bool
  weak = weak_past k.inertia (past_at t tm tr w 1) w.overlap

  abbrev R : ℕ
  R = (release k t tm tr w).0

  abbrev enough : Bool
  enough = strong k t w.ahead (release k t tm tr w) (release k t tm tr w)

  abbrev some : Bool
  some = ltb 0 w.overlap.0

  pub weak-past : weak ≡ true → TooWeak k t tm tr w
  unfolding weak_past ramp.strong
  weak-past e = inl (ltb-true _ _ (and_left some _ e), leb-false _ _ (not-true _ (and_right some _ e)))

  pub weak-ahead : Creeps k t tm tr w R → enough ≡ false → TooWeak k t tm tr w
  unfolding strong
  weak-ahead c b = inr (R, (c, leb-false _ _ b))

  pub both-strong : weak ≡ false → enough ≡ true → Enough k t tm tr w R
  unfolding weak_past ramp.strong strong
  both-strong a b = record { past = λ l. leb-true _ _ (not-false _ (rw (lt-ltb _ _ l) at a)); ahead = leb-true _ _ b }
