-- Document 01, "Line sheet" and "What is turned away": what a stretch or a signal by number answers.
use Rattle.std.specs.Prelude.{◌≡◌, not, cond, List, [], ◌∷◌, ℕ, ◌<◌, leb, eqb, pos, length}
use Rattle.train.specs.Units.{metres}
use Rattle.train.specs.Gradient.{gradient_of}
use Rattle.train.specs.Refusal.{Refusal, ◌gives◌, first_of}
use Rattle.train.specs.Judged.{◌keeps◌, Judged}
use Rattle.train.specs.Lent.{FirstDemand}
use Rattle.sheet.specs.Sheet.{line_of, accepted}
use Rattle.sheet.specs.Fields.{fields_of, KthStretch, KthSignal}
use Rattle.sheet.specs.Kept.{sheet_rule}
use Rattle.sheet_mark.specs.Answer.{Again}
use Rattle.sheet_lookup.specs.declared.Stretch.{Stretch}
use Rattle.sheet_lookup.specs.declared.Signal.{Signal}

-- 7 for bytes that are no sheet, 8 for a number that is not below the count
abbrev pub read_refusals : List ℕ → ℕ → ℕ → List Refusal
read_refusals s count number = not (accepted s) gives 7 ∷ leb count number gives 8 ∷ []

-- the stretch of that number, from 0; or a refusal, with zeros
unfoldable pub stretch_of : List ℕ → ℕ → Stretch
stretch_of s k =
    let l = line_of s in
    let refusal = first_of (read_refusals s l.stretches k) in
    cond (eqb refusal 0) (record { refusal = 0; start = metres (l.start k); gradient = l.gradient k }) (record { refusal = refusal; start = metres 0; gradient = pos 0 })

unfoldable pub signal_of : List ℕ → ℕ → Signal
signal_of s k =
    let l = line_of s in
    let refusal = first_of (read_refusals s l.signals k) in
    cond (eqb refusal 0) (record { refusal = 0; place = metres (l.place k); overlap = metres (l.overlap k) }) (record { refusal = refusal; place = metres 0; overlap = metres 0 })

-- what a read promises: its answer, the first demand, what is turned away, that the sheet's fields write its bytes, and that it gives
-- the places of its number
pub record StretchAnswers (s : List ℕ) (k : ℕ) (r : Stretch) (after : List ℕ) : Type 0 where
  pub answer : r ≡ stretch_of s k
  pub lent : FirstDemand r.refusal (r.start.0 ∷ (gradient_of r.gradient).rise ∷ (gradient_of r.gradient).fall ∷ []) s after 0
  pub spans : Judged (sheet_rule s ∷ 8 keeps (k < length (fields_of s).starts) ∷ []) r.refusal
  pub again : Again s r.refusal
  pub read : r.refusal ≡ 0 → KthStretch s k r.start.0 r.gradient

pub record SignalAnswers (s : List ℕ) (k : ℕ) (r : Signal) (after : List ℕ) : Type 0 where
  pub answer : r ≡ signal_of s k
  pub lent : FirstDemand r.refusal (r.place.0 ∷ r.overlap.0 ∷ []) s after 0
  pub spans : Judged (sheet_rule s ∷ 8 keeps (k < length (fields_of s).places) ∷ []) r.refusal
  pub again : Again s r.refusal
  pub read : r.refusal ≡ 0 → KthSignal s k r.place.0 r.overlap.0
