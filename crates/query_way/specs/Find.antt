-- What the code finds: a refusal, or the way, whose gradients are of the sheet's span, and the stretches that govern it.
use Rattle.std.specs.Prelude.{◌≡◌, List, ℕ, ◌+◌, ◌≤◌, ◌<◌, Result, IfOk}
use Rattle.train.specs.Gradient.{Moderate}
use Rattle.train.specs.Refusal.{first_of}
use Rattle.train.specs.Judged.{Judged}
use Rattle.train.specs.Number.{refusal_of}
use Rattle.train.specs.declared.refusal.Refusal.{Refusal}
use Rattle.sheet_line.specs.Line.{Line}
use Rattle.sheet.specs.Sheet.{line_of}
use Rattle.sheet_lookup.specs.Counts.{IsSignal}
use Rattle.sheet_span.specs.Least.{LeastOver}
use Rattle.sheet_walk.specs.declared.Grade.{Grade}
use Rattle.query_way.specs.declared.Way.{Way}
use Rattle.query_way.specs.declared.Governing.{Governing}
use Rattle.query_way.specs.declared.Located.{Located}
use Rattle.query_way.specs.Way.{way_refusals, way_rules, tail_of, past_of, way_of, governing_past, governing_on, Leads}

-- the governing grade of a span
pub record GradeOver (l : Line) (from to : ℕ) (r : Grade) : Type 0 where
  pub least : LeastOver l from to r.gradient r.stretch
  pub moderate : Moderate r.gradient

-- the governing grade of an overlap
pub record Past (l : Line) (place overlap length : ℕ) (r : Grade) : Type 0 where
  pub value : r.gradient ≡ past_of l place overlap length
  pub number : r.stretch ≡ governing_past l place overlap length
  pub moderate : Moderate r.gradient
  pub least : 0 < overlap → LeastOver l (tail_of place length) (place + overlap) r.gradient r.stretch
  pub none : overlap ≡ 0 → r.stretch ≡ 65535

abbrev pub refusal : List ℕ → ℕ → ℕ → ℕ
refusal s signal head = first_of (way_refusals s signal head)

-- a signal of the sheet that the head is not beyond, or a refusal
pub record Ahead (s : List ℕ) (signal head : ℕ) (r : Result Located Refusal) : Type 0 where
  pub refused : refusal s signal head ≡ refusal_of r
  pub spans : Judged (way_rules s signal head) (refusal_of r)
  pub sheet : IfOk r (λ l. l.sheet.bytes.now ≡ s)
  pub read : IfOk r (λ l. IsSignal s signal (record { refusal = 0; place = l.place; overlap = l.overlap }))
  pub reached : IfOk r (λ l. head ≤ (line_of s).place signal)

module _ (s : List ℕ) (signal head length : ℕ) where
  pub record IsWay (w : Way) (n : Governing) : Type 0 where
    pub way : w ≡ way_of (line_of s) signal head length
    pub governing : n ≡ governing_on (line_of s) signal head length
    pub leads : Leads (line_of s) signal head length w n
    pub ahead : Moderate w.ahead
    pub past : Moderate w.past

  pub record Finds (r : Result (Way × Governing) Refusal) : Type 0 where
    pub refused : refusal s signal head ≡ refusal_of r
    pub spans : Judged (way_rules s signal head) (refusal_of r)
    pub says : IfOk r (λ (w, n). IsWay w n)
