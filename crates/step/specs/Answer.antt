-- Document 01, "Step distances" and "What is turned away", and document 02, Card 5: what a single distance answers.
use Rattle.std.specs.Prelude.{◌≡◌, not, cond, List, [], ◌∷◌, ◌++◌, ℕ, ◌≤◌, ltb, eqb}
use Rattle.exact.specs.Fraction.{whole, ◌+q◌, ◌*q◌, Least}
use Rattle.train.specs.declared.Kmh.{Kmh}
use Rattle.train.specs.declared.Train.{Train}
use Rattle.train.specs.declared.Gradient.{Gradient}
use Rattle.train.specs.declared.Coefficients.{Coefficients}
use Rattle.train.specs.Refusal.{Refusal, ◌gives◌, first_of, train_refusals, gradient_refusals, coefficient_refusals}
use Rattle.train.specs.Judged.{Rule, ◌keeps◌, Judged, weight_rule, length_rule, TopSpeed, gradient_rule, coefficient_rule, brake_rule}
use Rattle.train.specs.Lent.{NoneLent}
use Rattle.train_slope.specs.Slope.{di}
use Rattle.step_curve.specs.declared.Curve.TheVariants.{Ebi, Sbi, W, P}
use Rattle.step_braking.specs.Braking.{dp, strong}
use Rattle.step_curve.specs.Step.{formula, distance}
use Rattle.step_curve.specs.Order.{InOrder, InTime}
use Rattle.step.specs.declared.Distances.{Distances}

-- V and V0 of 0 to 330, V0 at most V
abbrev pub speed_refusals : Kmh → Kmh → List Refusal
speed_refusals v v0 = ltb 330 v.0 gives 3 ∷ ltb 330 v0.0 gives 3 ∷ ltb v.0 v0.0 gives 4 ∷ []

-- what the inputs alone turn away
abbrev pub inputs : Coefficients → Train → Gradient → Kmh → Kmh → List Refusal
inputs k t g v v0 = train_refusals t ++ (speed_refusals v v0 ++ (gradient_refusals g ++ coefficient_refusals k))

-- the same in words of its own
abbrev pub input_rules : Coefficients → Train → Gradient → Kmh → Kmh → List Rule
input_rules k t g v v0 =
    weight_rule t.weight
    ∷ length_rule t.length.0
    ∷ 3 keeps (TopSpeed t × ((v.0 ≤ 330) × (v0.0 ≤ 330)))
    ∷ 4 keeps (v0.0 ≤ v.0)
    ∷ gradient_rule g
    ∷ coefficient_rule k
    ∷ []

-- a refusal, with zeros
abbrev pub refused : ℕ → Distances
refused n = record { refusal = n; ebi = record { 0 = 0 }; sbi = record { 0 = 0 }; w = record { 0 = 0 }; p = record { 0 = 0 } }

module _ (k : Coefficients) (t : Train) (g : Gradient) where
  -- refusal 10
  abbrev pub weak : Kmh → Kmh → List Refusal
  weak v v0 = not (strong k t g v v0) gives 10 ∷ []

  -- a single distance
  abbrev pub step_refusals : Kmh → Kmh → List Refusal
  step_refusals v v0 = inputs k t g v v0 ++ weak v v0

  -- in words of its own; 10 goes by dp + di itself
  abbrev pub step_rules : Kmh → Kmh → List Rule
  step_rules v v0 = input_rules k t g v v0 ++ (brake_rule (dp k t g v v0 +q di k.inertia g) ∷ [])

  abbrev pub distances : Kmh → Kmh → Distances
  distances v v0 =
      record {
        refusal = 0;
        ebi = distance k t g v v0 Ebi;
        sbi = distance k t g v v0 Sbi;
        w = distance k t g v v0 W;
        p = distance k t g v v0 P;
      }

  unfoldable pub step_of : Kmh → Kmh → Distances
  step_of v v0 = cond (eqb (first_of (step_refusals v v0)) 0) (distances v v0) (refused (first_of (step_refusals v v0)))

  -- the second demand: each is the least whole number of millimetres not below the exact value
  pub record Exact (v v0 : Kmh) (d : Distances) : Type 0 where
    pub ebi : Least (whole 1000 *q formula k t g v v0 Ebi) d.ebi.0
    pub sbi : Least (whole 1000 *q formula k t g v v0 Sbi) d.sbi.0
    pub w : Least (whole 1000 *q formula k t g v v0 W) d.w.0
    pub p : Least (whole 1000 *q formula k t g v v0 P) d.p.0

  -- what a single distance promises: its answer, the second demand, Card 13's order (also of a refusal's zeros) and the time from curve to
  -- curve, the first demand, and what is turned away
  pub record StepAnswers (v v0 : Kmh) (d : Distances) : Type 0 where
    pub answer : d ≡ step_of v v0
    pub least : d.refusal ≡ 0 → Exact v v0 d
    pub in_order : InOrder d.ebi.0 d.sbi.0 d.w.0 d.p.0
    pub in_time : d.refusal ≡ 0 → InTime v.0 d.sbi.0 d.w.0 d.p.0
    pub lent : NoneLent d.refusal (d.ebi.0 ∷ d.sbi.0 ∷ d.w.0 ∷ d.p.0 ∷ [])
    pub spans : Judged (step_rules v v0) d.refusal
