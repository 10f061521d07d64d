-- Document 01, "Line sheet" and "What is turned away": what a move of the reading mark answers.
use Rattle.std.specs.Prelude.{◌≡◌, cond, List, [], ◌∷◌, ℕ, zero, suc, ◌+◌, ◌≤◌, ◌<◌, ltb, pos, length}
use Rattle.train.specs.Units.{metres}
use Rattle.train.specs.Gradient.{gradient_of}
use Rattle.train.specs.Judged.{Judged}
use Rattle.train.specs.Lent.{Zeros, FirstDemand}
use Rattle.sheet_line.specs.Line.{Line}
use Rattle.sheet.specs.Sheet.{line_of, accepted}
use Rattle.sheet.specs.Fields.{sheet_of, fields_of, KthStretch}
use Rattle.sheet.specs.Kept.{sheet_rule}
use Rattle.sheet_mark.specs.declared.Mark.{Mark}
use Rattle.sheet_mark.specs.declared.Move.{Move}

-- a fresh mark stands before stretch 0
abbrev pub fresh : Mark
fresh = record { next = 0 }

-- a move along a line: the next stretch's fields and the advanced mark; past the last it answers "end", 1, and the mark stays
abbrev pub step_on : Line → Mark → Move
step_on l m = record { refusal = 0; end = 0; start = metres (l.start m.next); gradient = l.gradient m.next; mark = record { next = m.next + 1 } }

abbrev pub step_off : Mark → Move
step_off m = record { refusal = 0; end = 1; start = metres 0; gradient = pos 0; mark = m }

abbrev pub step_of : Line → Mark → Move
step_of l m = cond (ltb m.next l.stretches) (step_on l m) (step_off m)

-- a refusal, with zeros
abbrev pub refused : ℕ → Move
refused n = record { refusal = n; end = 0; start = metres 0; gradient = pos 0; mark = fresh }

unfoldable pub move_of : List ℕ → Mark → Move
move_of s m = cond (accepted s) (step_of (line_of s) m) (refused 7)

-- what a read promises beside its answer: the fields of a sheet that is read write its bytes
pub record Again (s : List ℕ) (refusal : ℕ) : Type 0 where
  pub again : refusal ≡ 0 → sheet_of (fields_of s) ≡ s

-- the mark after that many moves from a fresh one
unfoldable pub after_moves : List ℕ → ℕ → Mark
after_moves s zero = fresh
after_moves s (suc k) = (move_of s (after_moves s k)).mark

-- the k-th stretch's fields, and the mark behind it
pub record OneOn (s : List ℕ) (k : ℕ) (r : Move) : Type 0 where
  pub more : r.end ≡ 0
  pub fields : KthStretch s k r.start.0 r.gradient
  pub behind : r.mark.next ≡ k + 1

-- "end", zeros beside it, and the mark stays
pub record Ended (m : Mark) (r : Move) : Type 0 where
  pub told : r.end ≡ 1
  pub zeros : Zeros (r.start.0 ∷ (gradient_of r.gradient).rise ∷ (gradient_of r.gradient).fall ∷ [])
  pub same : r.mark ≡ m

-- a move where k stretches lie behind the mark
pub record Moves (s : List ℕ) (k : ℕ) (m : Mark) (r : Move) : Type 0 where
  pub on : k < length (fields_of s).starts → OneOn s k r
  pub off : length (fields_of s).starts ≤ k → Ended m r

-- what a move promises: its answer, the first demand, what is turned away, that the sheet's fields write its bytes, the stretch that the
-- mark stands before, and stretch k after k moves from a fresh one
pub record MoveAnswers (s : List ℕ) (m : Mark) (r : Move) (after : List ℕ) : Type 0 where
  pub answer : r ≡ move_of s m
  pub lent : FirstDemand r.refusal (r.end ∷ r.start.0 ∷ (gradient_of r.gradient).rise ∷ (gradient_of r.gradient).fall ∷ r.mark.next ∷ []) s after 0
  pub spans : Judged (sheet_rule s ∷ []) r.refusal
  pub again : Again s r.refusal
  pub next : r.refusal ≡ 0 → Moves s m.next m r
  pub in_order : r.refusal ≡ 0 → (k : ℕ) → m ≡ after_moves s k → Moves s k m r
