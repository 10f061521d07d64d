-- Document 01, "Approach" and "What is turned away"; document 02, Card 2, the tail on the hill: the way to a signal and past it, and when
-- two lines agree on it; Card 4: the stretches that govern it.
use Rattle.std.specs.Prelude.{◌≡◌, not, cond, List, [], ◌∷◌, ◌⊎◌, ℕ, ◌+◌, ◌-◌, ◌≤◌, ◌<◌, leb, ltb, eqb}
use Rattle.train.specs.declared.Gradient.{Gradient}
use Rattle.train.specs.Units.{metres}
use Rattle.train.specs.Refusal.{Refusal, ◌gives◌}
use Rattle.train.specs.Judged.{Rule, ◌keeps◌}
use Rattle.sheet_line.specs.Line.{Line}
use Rattle.sheet.specs.Sheet.{line_of, accepted}
use Rattle.sheet.specs.Kept.{sheet_rule}
use Rattle.sheet_span.specs.Least.{slope_at, least_over, governing_over, LeastOver}
use Rattle.query_way.specs.declared.Way.{Way}
use Rattle.query_way.specs.declared.Governing.{Governing}

-- 7 for bytes that are no sheet, 8 for no such signal, 9 for a head beyond the signal
abbrev pub way_refusals : List ℕ → ℕ → ℕ → List Refusal
way_refusals s k head = let l = line_of s in not (accepted s) gives 7 ∷ leb l.signals k gives 8 ∷ ltb (l.place k) head gives 9 ∷ []

-- the same in words of its own
abbrev pub way_rules : List ℕ → ℕ → ℕ → List Rule
way_rules s k head = let l = line_of s in sheet_rule s ∷ 8 keeps (k < l.signals) ∷ 9 keeps (head ≤ l.place k) ∷ []

-- Card 2: where the tail is of a train with its head at a place: at that place less the train's length, L, or at 0 if that is lower.
-- (A difference of natural numbers is 0 where it would be lower.)
abbrev pub tail_of : ℕ → ℕ → ℕ
tail_of place length = place - length

-- the gradient of the overlap: the least over the points from signal less L up to but not including the overlap's end.
-- An overlap of no length has none; nothing asks for it then.
unfoldable pub past_of : Line → ℕ → ℕ → ℕ → Gradient
past_of l place overlap length = cond (eqb overlap 0) (record { rise = 0; fall = 0 }) (least_over l (tail_of place length) (place + overlap))

-- the k-th signal, from 0; the gradient ahead is the least over the points from head less L to signal, both included
unfoldable pub way_of : Line → ℕ → ℕ → ℕ → Way
way_of l k head length =
    record {
      distance = metres (l.place k - head);
      ahead = least_over l (tail_of head length) (l.place k + 1);
      overlap = metres (l.overlap k);
      past = past_of l (l.place k) (l.overlap k) length;
    }

-- Card 4: the stretch that governs the overlap, which is the lowest number with its gradient; 65,535 where the overlap has no length
unfoldable pub governing_past : Line → ℕ → ℕ → ℕ → ℕ
governing_past l place overlap length = cond (eqb overlap 0) 65535 (governing_over l (tail_of place length) (place + overlap))

-- that one and the one that governs the way ahead, beside the way: lines may agree on a way and number their stretches each in its own way
unfoldable pub governing_on : Line → ℕ → ℕ → ℕ → Governing
governing_on l k head length =
    record {
      overlap = governing_past l (l.place k) (l.overlap k) length;
      ahead = governing_over l (tail_of head length) (l.place k + 1);
    }

-- In words of its own, where the tail is: the train reaches from there to the place of its head, or from 0 where it is longer than the
-- line is up to that place.
abbrev pub Behind : ℕ → ℕ → ℕ → Type 0
Behind place length tail = (tail + length ≡ place) ⊎ ((place < length) × (tail ≡ 0))

-- And what the way is and which stretches govern it, whatever stands for them: the signal is the distance ahead of the head, the overlap
-- is the line's, the gradient ahead is the least over the points from the tail to the signal, both included, and that of an overlap
-- which has a length the least over the points from where the tail is with the head at the signal, up to but not including its end; each
-- has the number of its stretch beside it, and an overlap of no length 65,535 (Card 4).
pub record Leads (l : Line) (k head length : ℕ) (w : Way) (n : Governing) : Type 0 where
  pub signal : head + w.distance.0 ≡ l.place k
  pub overlap : w.overlap.0 ≡ l.overlap k
  pub ahead : (tail : ℕ) × (Behind head length tail × LeastOver l tail (l.place k + 1) w.ahead n.ahead)
  pub past : 0 < w.overlap.0 → (tail : ℕ) × (Behind (l.place k) length tail × LeastOver l tail (l.place k + l.overlap k) w.past n.overlap)
  pub none : w.overlap.0 ≡ 0 → n.overlap ≡ 65535

-- Card 2: two lines agree on a signal each, and on the gradient at each point p from the start of the gradient ahead, which is at most L
-- behind the head, up to but not including the overlap's end, the signal's own point always included
pub record Agree (l m : Line) (i j head length : ℕ) : Type 0 where
  pub place : l.place i ≡ m.place j
  pub overlap : l.overlap i ≡ m.overlap j
  pub gradient : (p : ℕ) → head ≤ p + length → p < l.place i + l.overlap i → slope_at l p ≡ slope_at m p
  pub own : slope_at l (l.place i) ≡ slope_at m (l.place i)
