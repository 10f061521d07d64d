-- Document 01, "Step distances" and "What is turned away", and document 02, Card 5: what a row answers.
use Rattle.std.specs.Prelude.{◌≡◌, Bool, not, cond, List, [], ◌∷◌, ◌++◌, ℕ, ◌+◌, ◌-◌, ◌≤◌, ◌<◌, ltb, eqb, length, drop, get_or, Result, Ok, Err}
use Rattle.lists.specs.Counted.{up_to, every}
use Rattle.exact.specs.Fraction.{Fraction, whole, ◌over◌, ◌+q◌, ◌*q◌, ◌≤q◌, ◌<q◌, Least}
use Rattle.train.specs.declared.Kmh.{Kmh}
use Rattle.train.specs.declared.Train.{Train}
use Rattle.train.specs.declared.Written.{Written}
use Rattle.train.specs.declared.Gradient.{Gradient}
use Rattle.train.specs.declared.Coefficients.{Coefficients}
use Rattle.train.specs.Units.{kmh}
use Rattle.train.specs.declared.refusal.Refusal as refusal
use Rattle.train.specs.Number.{number}
use Rattle.train.specs.Refusal.{Refusal, ◌gives◌, first_of}
use Rattle.train.specs.Judged.{Rule, ◌keeps◌, Judged}
use Rattle.train.specs.Lent.{FirstDemand}
use Rattle.train_slope.specs.Slope.{di}
use Rattle.step_braking.specs.Braking.{dp, strong}
use Rattle.step_curve.specs.declared.Curve.{Curve}
use Rattle.step_curve.specs.Step.{formula, distance}
use Rattle.step.specs.Answer.{inputs, input_rules}

-- what is answered of a row's places, or of a refusal
abbrev pub answer_of : Result ℕ refusal.Refusal → Written
answer_of (Ok n) = record { refusal = 0; length = n }
answer_of (Err r) = record { refusal = number r; length = 0 }

-- how many speeds from V0 to the top speed
abbrev pub speeds : Train → Kmh → ℕ
speeds t v0 = t.top.0 + 1 - v0.0

module _ (k : Coefficients) (t : Train) (g : Gradient) where
  -- Card 5: strong enough at each of its speeds
  unfoldable pub strong_row : Kmh → Bool
  strong_row v0 = every (speeds t v0) (λ i. strong k t g (kmh (v0.0 + i)) v0)

  -- a row in `room` places
  abbrev pub row_refusals : Kmh → ℕ → List Refusal
  row_refusals v0 room = (inputs k t g t.top v0 ++ (not (strong_row v0) gives 10 ∷ [])) ++ (ltb room (speeds t v0) gives 11 ∷ [])

  -- dp + di at a speed
  abbrev pub braking : Kmh → ℕ → Fraction
  braking v0 v = dp k t g (kmh v) v0 +q di k.inertia g

  -- 0.05 m/s² or more at every speed from V0 to the top speed; less at one of them is refusal 10
  abbrev pub row_brake_rule : Kmh → Rule
  row_brake_rule v0 =
      record {
        number = 10;
        kept = (v : ℕ) → v0.0 ≤ v → v ≤ t.top.0 → (5 over 100) ≤q braking v0 v;
        broken = (v : ℕ) × ((v0.0 ≤ v) × ((v ≤ t.top.0) × (braking v0 v <q (5 over 100))));
      }

  -- in words of its own: V is the top speed, and every speed up to it has a place
  abbrev pub row_rules : Kmh → ℕ → List Rule
  row_rules v0 room = input_rules k t g t.top v0 ++ (row_brake_rule v0 ∷ 11 keeps (t.top.0 + 1 ≤ v0.0 + room) ∷ [])

  -- one curve's distances, V0 first
  abbrev pub row_of : Curve → Kmh → List ℕ
  row_of c v0 = up_to (λ i. (distance k t g (kmh (v0.0 + i)) v0 c).0) (speeds t v0)

  unfoldable pub row_answer : Kmh → ℕ → Written
  row_answer v0 room =
      cond (eqb (first_of (row_refusals v0 room)) 0) (record { refusal = 0; length = speeds t v0 }) (record { refusal = first_of (row_refusals v0 room); length = 0 })

  -- the lent list afterwards: the row and the rest as it was, or unchanged
  unfoldable pub row_after : Curve → Kmh → List ℕ → List ℕ
  row_after c v0 lent = cond (eqb (first_of (row_refusals v0 (length lent))) 0) (row_of c v0 ++ drop (speeds t v0) lent) lent

  -- what a row promises: its answer, the lent list afterwards, the second demand for each place written, that these reach to the top
  -- speed, the first demand, and what is turned away
  pub record RowAnswers (c : Curve) (v0 : Kmh) (before : List ℕ) (w : Written) (after : List ℕ) : Type 0 where
    pub answer : w ≡ row_answer v0 (length before)
    pub memory : after ≡ row_after c v0 before
    pub least : (i : ℕ) → i < w.length → Least (whole 1000 *q formula k t g (kmh (v0.0 + i)) v0 c) (get_or after i 0)
    pub reaches : w.refusal ≡ 0 → v0.0 + w.length ≡ t.top.0 + 1
    pub lent : FirstDemand w.refusal (w.length ∷ []) before after w.length
    pub spans : Judged (row_rules v0 (length before)) w.refusal
