-- Document 01, "Approach" and "What is turned away"; document 02, Cards 2, 4 and 5: what the query answers, and what it promises.
use Rattle.std.specs.Prelude.{◌≡◌, not, cond, List, [], ◌∷◌, ◌++◌, ℕ, eqb}
use Rattle.train.specs.declared.Kmh.{Kmh}
use Rattle.train.specs.declared.Train.{Train}
use Rattle.train.specs.declared.Coefficients.{Coefficients}
use Rattle.train.specs.Units.{kmh}
use Rattle.train.specs.Refusal.{Refusal, ◌gives◌, first_of, train_refusals, coefficient_refusals}
use Rattle.train.specs.Judged.{Judged}
use Rattle.train.specs.Lent.{FirstDemand}
use Rattle.step_braking.specs.Braking.{strong}
use Rattle.ceilings.specs.Ceilings.{limits_of}
use Rattle.ceilings.specs.Paper.{AsPrinted}
use Rattle.ramp.specs.Answer.{time_refusals}
use Rattle.sheet.specs.Sheet.{line_of}
use Rattle.query_way.specs.declared.Way.{Way}
use Rattle.query_way.specs.declared.Governing.{Governing}
use Rattle.query_way.specs.Way.{way_refusals, way_of, governing_on}
use Rattle.query_release.specs.Release.{release_of, weak_past}
use Rattle.query_permitted.specs.Permitted.{permitted_of, mark_of}
use Rattle.query.specs.declared.Answer.{Answer}
use Rattle.query.specs.Demand.{past_at, Demand}
use Rattle.query.specs.Rules.{On, query_rules}

-- a refusal, with zeros
abbrev pub refused : ℕ → Answer
refused n = record { refusal = n; release = kmh 0; permitted = kmh 0; mark = 0; w = record { 0 = 0 }; sbi = record { 0 = 0 }; ebi = record { 0 = 0 }; overlap_stretch = 0; ahead_stretch = 0 }

-- the ceilings of the permitted speed follow, and the stretches that govern (Card 4)
abbrev pub answered : Governing → Kmh → Kmh → ℕ → Answer
answered n release permitted mark =
    let l = limits_of permitted in
    record {
      refusal = 0;
      release = release;
      permitted = permitted;
      mark = mark;
      w = l.w;
      sbi = l.sbi;
      ebi = l.ebi;
      overlap_stretch = n.overlap;
      ahead_stretch = n.ahead;
    }

module _ (k : Coefficients) (t : Train) (tm tr : ℕ) (w : Way) where
  abbrev pub release : Kmh
  release = kmh (release_of k.inertia (past_at t tm tr w 1) w.overlap t.top)

  -- refusal 10: in the ramp where it is consulted, and in the step model at V0, the release speed
  abbrev pub brake_refusals : List Refusal
  brake_refusals = weak_past k.inertia (past_at t tm tr w 1) w.overlap gives 10 ∷ not (strong k t w.ahead release release) gives 10 ∷ []

  abbrev pub accepted : Governing → Answer
  accepted n = answered n release (kmh (permitted_of k t w.ahead release w.distance)) (mark_of k t w.ahead release w.distance)

-- 1, 2, 3, 6, 12, 7, 8, 9
abbrev pub inputs : Coefficients → Train → ℕ → ℕ → List ℕ → ℕ → ℕ → List Refusal
inputs k t tm tr s signal head = train_refusals t ++ (time_refusals tm tr ++ (coefficient_refusals k ++ way_refusals s signal head))

-- what the sheet says of the train's way
abbrev pub way_to : Train → List ℕ → ℕ → ℕ → Way
way_to t s signal head = way_of (line_of s) signal head t.length.0

abbrev pub governing_to : Train → List ℕ → ℕ → ℕ → Governing
governing_to t s signal head = governing_on (line_of s) signal head t.length.0

-- Card 4: the stretches that an answer names
abbrev pub governing : Answer → Governing
governing r = record { overlap = r.overlap_stretch; ahead = r.ahead_stretch }

-- two answers that may differ in these alone
pub record AllButTheStretches (r q : Answer) : Type 0 where
  pub refusal : r.refusal ≡ q.refusal
  pub release : r.release ≡ q.release
  pub permitted : r.permitted ≡ q.permitted
  pub mark : r.mark ≡ q.mark
  pub w : r.w ≡ q.w
  pub sbi : r.sbi ≡ q.sbi
  pub ebi : r.ebi ≡ q.ebi

module _ (k : Coefficients) (t : Train) (tm tr : ℕ) (s : List ℕ) (signal head : ℕ) where
  abbrev pub query_refusals : List Refusal
  query_refusals = inputs k t tm tr s signal head ++ brake_refusals k t tm tr (way_to t s signal head)

  unfoldable pub answer_of : Answer
  answer_of = cond (eqb (first_of query_refusals) 0) (accepted k t tm tr (way_to t s signal head) (governing_to t s signal head)) (refused (first_of query_refusals))

  -- what the query promises: the answer by definition; the first demand; what is turned away; of every accepted answer the third
  -- demand on the way that the sheet says, which the answer's stretches govern, and the paper's ceilings
  pub record QueryAnswers (r : Answer) (after : List ℕ) : Type 0 where
    pub answer : r ≡ answer_of
    pub lent : FirstDemand r.refusal (r.release.0 ∷ r.permitted.0 ∷ r.mark ∷ r.w.0 ∷ r.sbi.0 ∷ r.ebi.0 ∷ r.overlap_stretch ∷ r.ahead_stretch ∷ []) s after 0
    pub spans : Judged (query_rules k t tm tr s signal head) r.refusal
    pub demand : r.refusal ≡ 0 → On t s signal head (governing r) (λ w. Demand k t tm tr w r.release.0 r.permitted.0 r.mark)
    pub ceilings : r.refusal ≡ 0 → AsPrinted r.permitted (record { refusal = 0; w = r.w; sbi = r.sbi; ebi = r.ebi })
