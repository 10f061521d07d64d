-- What the climbs have found, case by case, makes the answer of the definition.
use Rattle.std.proofs.Common.{Result}
use mathlib.Core.Path.{◌≡◌, ap}
use mathlib.Core.Bool.{Bool, true, false, cond}
use Prim.Native.Nat.{ℕ}
use native.Mathlib.Omega.{arith}
use borrow.Author.Tests.{ne_eqb}
use lib.Dec.{eqb}
use Rattle.train.specs.declared.Kmh.{Kmh}
use Rattle.train.specs.declared.Metre.{Metre}
use Rattle.train.specs.declared.Train.{Train}
use Rattle.train.specs.declared.Gradient.{Gradient}
use Rattle.train.specs.declared.Coefficients.{Coefficients}
use Rattle.train.specs.declared.refusal.Refusal.{Refusal}
use Rattle.train.specs.Number.{number}
use Rattle.train.specs.Units.{kmh}
use Rattle.train.proofs.Numbered.{numbered}
use Rattle.step_braking.specs.Braking.{strong}
use Rattle.query_way.specs.declared.Way.{Way}
use Rattle.query_way.specs.declared.Governing.{Governing}
use Rattle.query_release.specs.Release.{weak_past, says_of, Releases}
use Rattle.query_permitted.specs.declared.Permitted.{Permitted}
use Rattle.query_permitted.specs.Permitted as permitted
use Rattle.query_permitted.specs.Permitted.{permitted_of, mark_of, Permits}
use Rattle.query.specs.declared.Answer.{Answer}
use Rattle.query.specs.Demand.{past_at}
use Rattle.query.specs.Answer.{refused, answered, release}
use Rattle.query.specs.Begin.{answer_at, answer_on}

-- what is made of one of two is one of what is made of both
of_either : {A B : Type 0} (f : A → B) (b : Bool) (x y s : A) → s ≡ cond b x y → f s ≡ cond b (f x) (f y)
of_either f true x y s e = ap f e
of_either f false x y s e = ap f e

-- a refusal's number is none of an answer
pub refuses : (r : Refusal) → eqb (number r) 0 ≡ false
refuses r = let l = numbered r in ne_eqb (number r) 0 (λ e. omega arith)

-- the steps of the code: the paper's numbers for each case make the answer
module _ (k : Coefficients) (t : Train) (g : Gradient) (d : Metre) (n : Governing) (v0 : Kmh) where
  abbrev permitting : ℕ × ℕ × ℕ → Answer
  permitting s = cond (eqb s.0 0) (answered n v0 (kmh s.1) s.2) (refused s.0)

  pub as-permitted : (r : Result Permitted Refusal) → Permits k t g v0 d r → permitting (permitted.says_of v0 r) ≡ answer_at k t g d n v0
  unfolding answer_at
  as-permitted r e = of_either permitting (strong k t g v0 v0) (0, permitted_of k t g v0 d, mark_of k t g v0 d) (10, 0, 0) _ e

module _ (k : Coefficients) (t : Train) (tm tr : ℕ) (w : Way) (n : Governing) where
  abbrev releasing : ℕ × ℕ → Answer
  releasing s = cond (eqb s.0 0) (answer_at k t w.ahead w.distance n (kmh s.1)) (refused s.0)

  pub as-released : (r : Result Kmh Refusal) → Releases k.inertia (past_at t tm tr w 1) w.overlap t.top r → releasing (says_of r) ≡ answer_on k t tm tr w n
  unfolding answer_on
  as-released r h = of_either releasing (weak_past k.inertia (past_at t tm tr w 1) w.overlap) (10, 0) (0, (release k t tm tr w).0) _ h.says
