-- What the inputs do not turn away, and that the refusals decide by the rules in words of their own.
use mathlib.Core.Path.{◌≡◌, sym, ◌∙◌}
use mathlib.Core.List.{List, ◌++◌}
use Prim.Native.Nat.{◌≤◌, ◌<◌}
use native.Mathlib.Omega.{arith}
use Rattle.exact.specs.Fraction.{◌+q◌}
use Rattle.train.specs.declared.Kmh.{Kmh}
use Rattle.train.specs.declared.Train.{Train}
use Rattle.train.specs.declared.Gradient.{Gradient}
use Rattle.train.specs.declared.Coefficients.{Coefficients}
use Rattle.train.specs.Coefficients.{Within}
use Rattle.train.specs.Gradient.{Moderate}
use Rattle.train.specs.declared.refusal.Refusal as refusal
use Rattle.train.specs.Number.{number}
use Rattle.train.specs.Refusal.{Refusal, first_of}
use Rattle.train.specs.Judged.{Rule}
use Rattle.train.proofs.Numbered.{numbered}
use Rattle.train.proofs.Refusals.{Rising, rising-before, first-before}
use Rattle.train.proofs.Judging.{Judges, ◌then◌, ◌and◌, no_more, at_least, weight-settles, length-settles, top-settles, gradient-settles, coefficients-settle, brake-settles}
use Rattle.train_slope.specs.Slope.{di}
use Rattle.step_braking.specs.Braking.{dp, strong}
use Rattle.step_braking.specs.Plan.{Near}
use Rattle.step.specs.Answer.{inputs, input_rules, weak, step_refusals, step_rules}

-- what the inputs do not turn away
pub record Accepted (k : Coefficients) (t : Train) (g : Gradient) (v v0 : Kmh) : Type 0 where
  pub coefficients : Within k
  pub weight : t.weight ≤ 160
  pub length : t.length.0 ≤ 1000
  pub gradient : Moderate g
  pub speeds : Near v.0 v0.0

-- what the first of two lists turns away, both do
pub before_others : (r : refusal.Refusal) (a b : List Refusal) → number r ≡ first_of a → number r ≡ first_of (a ++ b)
before_others r a b e = e ∙ sym (first-before a b (λ z. let l = numbered r in omega arith))

-- the refusals go by the one order, so the first that applies is the answer (the train's `soonest` and `applies`)
pub step-rising : (k : Coefficients) (t : Train) (g : Gradient) (v v0 : Kmh) → Rising 1 (step_refusals k t g v v0)
step-rising k t g v v0 = (tt, (tt, (tt, (tt, (tt, (tt, (tt, (tt, (tt, (tt, (tt, (tt, (tt, (tt, (tt, (tt, (tt, (tt, (tt, (tt, (tt, (tt, (tt, (tt, (tt, (tt, tt))))))))))))))))))))))))))

module _ (k : Coefficients) (t : Train) (g : Gradient) (v v0 : Kmh) where
  pub inputs-rising : Rising 1 (inputs k t g v v0)
  inputs-rising = rising-before 1 (inputs k t g v v0) (weak k t g v v0) (step-rising k t g v v0)

  -- the conditions decide by the rules in words of their own: those of the inputs, then the others
  pub inputs-then : {rs : List Rule} {cs : List Refusal} → Judges rs cs → Judges (input_rules k t g v v0 ++ rs) (inputs k t g v v0 ++ cs)
  inputs-then j =
      weight-settles t.weight
      then length-settles t.length.0
      then (top-settles t and at_least 3 tt v.0 330 and at_least 3 tt v0.0 330)
      then at_least 4 tt v0.0 v.0
      then gradient-settles g
      then coefficients-settle k
      then j

  pub inputs-fit : first_of (inputs k t g v v0) ≡ 0 → Accepted k t g v v0
  inputs-fit h =
      let (w, (l, (s, (o, (m, (c, u)))))) = (inputs-then no_more).judged.accepted h in
      record { coefficients = c; weight = w.1.0; length = l; gradient = m; speeds = record { high = s.1.0; ahead = o } }

  pub step-judges : Judges (step_rules k t g v v0) (step_refusals k t g v v0)
  unfolding strong
  step-judges = inputs-then (brake-settles (dp k t g v v0 +q di k.inertia g) then no_more)
