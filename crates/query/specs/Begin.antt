-- What the code knows before it climbs, and what it answers step by step.
use Rattle.std.specs.Prelude.{◌≡◌, cond, List, ℕ, ◌≤◌, ◌<◌, Result, Ok, Err}
use Rattle.train.specs.declared.Kmh.{Kmh}
use Rattle.train.specs.declared.Metre.{Metre}
use Rattle.train.specs.declared.Train.{Train}
use Rattle.train.specs.declared.Gradient.{Gradient}
use Rattle.train.specs.declared.Coefficients.{Coefficients}
use Rattle.train.specs.Units.{kmh}
use Rattle.train.specs.Gradient.{Moderate}
use Rattle.train.specs.Coefficients.{Within}
use Rattle.train.specs.declared.refusal.Refusal.{Refusal}
use Rattle.train.specs.Number.{number}
use Rattle.train.specs.Refusal.{first_of, train_refusals, coefficient_refusals}
use Rattle.step_braking.specs.Braking.{strong}
use Rattle.ramp.specs.Answer.{time_refusals}
use Rattle.sheet.specs.Sheet.{line_of}
use Rattle.query_way.specs.declared.Way.{Way}
use Rattle.query_way.specs.declared.Governing.{Governing}
use Rattle.query_way.specs.Way.{Leads}
use Rattle.query_release.specs.Release.{weak_past}
use Rattle.query_permitted.specs.Permitted.{on_curve, on_release, permitted_of, mark_of}
use Rattle.query.specs.declared.Answer.{Answer}
use Rattle.query.specs.declared.Mark.{Mark}
use Rattle.query.specs.declared.Mark.TheVariants.{Curve, Release}
use Rattle.query.specs.Demand.{past_at}
use Rattle.query.specs.Answer.{refused, answered, release, inputs, way_to, governing_to}

-- the mark as the paper's number
abbrev pub number_of : Mark → ℕ
number_of Curve = on_curve
number_of Release = on_release

-- the record that C reads: the answer, or a refusal and zeros
abbrev pub record_of : Result Answer Refusal → Answer
record_of (Ok a) = a
record_of (Err r) = refused (number r)

-- the train, the times, the coefficients and the way's gradients are accepted
pub record Fit (k : Coefficients) (t : Train) (tm tr : ℕ) (w : Way) : Type 0 where
  pub train : first_of (train_refusals t) ≡ 0
  pub times : first_of (time_refusals tm tr) ≡ 0
  pub coefficients : first_of (coefficient_refusals k) ≡ 0
  pub within : Within k
  pub ahead : Moderate w.ahead
  pub past : Moderate w.past

pub record FitAhead (t : Train) (g : Gradient) (release : Kmh) : Type 0 where
  pub weight : t.weight ≤ 160
  pub length : t.length.0 ≤ 1000
  pub gradient : Moderate g
  pub speeds : release.0 ≤ t.top.0
  pub top : t.top.0 ≤ 330

module _ (k : Coefficients) (t : Train) (tm tr : ℕ) (s : List ℕ) (signal head : ℕ) where
  pub record IsReady (w : Way) (n : Governing) : Type 0 where
    pub accepted : first_of (inputs k t tm tr s signal head) ≡ 0
    pub way : w ≡ way_to t s signal head
    pub governing : n ≡ governing_to t s signal head
    pub leads : Leads (line_of s) signal head t.length.0 w n
    pub fit : Fit k t tm tr w

  abbrev pub Starts : Result (Way × Governing) Refusal → Type 0
  Starts (Ok (w, n)) = IsReady w n
  Starts (Err r) = (0 < number r) × (first_of (inputs k t tm tr s signal head) ≡ number r)

-- the answer with a release speed, and on a way
module _ (k : Coefficients) (t : Train) where
  unfoldable pub answer_at : Gradient → Metre → Governing → Kmh → Answer
  answer_at g d n v0 = cond (strong k t g v0 v0) (answered n v0 (kmh (permitted_of k t g v0 d)) (mark_of k t g v0 d)) (refused 10)

  unfoldable pub answer_on : ℕ → ℕ → Way → Governing → Answer
  answer_on tm tr w n = cond (weak_past k.inertia (past_at t tm tr w 1) w.overlap) (refused 10) (answer_at w.ahead w.distance n (release k t tm tr w))
