-- Document 02, Cards 3 and 4: what a step of the walk from the signal towards the tail answers, and what it promises.
use Rattle.std.specs.Prelude.{◌≡◌, cond, List, [], ◌∷◌, ℕ, ◌+◌, ◌≤◌, ◌<◌, leb, pos, get_or}
use Rattle.train.specs.declared.Gradient.{Gradient}
use Rattle.train.specs.Gradient.{gradient_of}
use Rattle.train.specs.Lent.{Zeros}
use Rattle.sheet_line.specs.Line.{Line}
use Rattle.sheet.specs.Sheet.{line_of}
use Rattle.sheet.specs.Fields.{fields_of}
use Rattle.sheet_span.specs.Least.{slope, Holds, stretch_at, LeastOver}
use Rattle.sheet_walk.specs.declared.Walk.{Walk}
use Rattle.sheet_walk.specs.declared.Back.{Back}
use Rattle.sheet_walk.specs.Walk.{walk_at}

-- where the walk stands, as an answer
abbrev pub shown : Walk → Back
shown w = record { refusal = 0; end = 0; stretch = w.stretch; gradient = w.gradient; least = w.least; least_stretch = w.least_stretch }

-- "end", 1, with zeros beside it
abbrev pub ended : Back
ended = record { refusal = 0; end = 1; stretch = 0; gradient = pos 0; least = pos 0; least_stretch = 0 }

-- Step n from 0: the walk begins at the stretch that holds the signal's point; past the one that holds the tail's it is "end".
unfoldable pub back_on : Line → ℕ → ℕ → ℕ → Back
back_on l tail signal n = let k = stretch_at l signal in cond (leb (stretch_at l tail + n) k) (shown (walk_at l k n)) ended

-- In words of its own: of the stretches a to b, both included, k has the gradient g, none has less, by rise less fall, and k is the
-- lowest number that has it
pub record LeastOf (l : Line) (a b : ℕ) (g : Gradient) (k : ℕ) : Type 0 where
  pub from : a ≤ k
  pub to : k ≤ b
  pub own : slope l k ≡ g
  pub none : (j : ℕ) → a ≤ j → j ≤ b → g.rise + (slope l j).fall ≤ (slope l j).rise + g.fall
  pub lowest : (j : ℕ) → a ≤ j → j ≤ b → slope l j ≡ g → k ≤ j

-- "end", zeros beside it
pub record Over (r : Back) : Type 0 where
  pub told : r.end ≡ 1
  pub zeros : Zeros (r.stretch ∷ (gradient_of r.gradient).rise ∷ (gradient_of r.gradient).fall ∷ (gradient_of r.least).rise ∷ (gradient_of r.least).fall ∷ r.least_stretch ∷ [])

module _ (s : List ℕ) where
  -- the stretch that is n before another, its gradient from the sheet's list, and the least of the two and those between, with the
  -- lowest number that has it
  pub record OneBack (last n : ℕ) (r : Back) : Type 0 where
    pub more : r.end ≡ 0
    pub number : r.stretch + n ≡ last
    pub field : r.gradient ≡ get_or (fields_of s).gradients r.stretch (pos 0)
    pub lowest : LeastOf (line_of s) r.stretch last (gradient_of r.least) r.least_stretch

  -- What a step promises: it is on the way from the stretch that holds the signal's point to the one that holds the tail's, or over;
  -- the last one's least is the least gradient over all points from the tail to the signal, both included, with its stretch.
  pub record Steps (tail signal n : ℕ) (r : Back) : Type 0 where
    pub first : ℕ
    pub last : ℕ
    pub behind : Holds (line_of s) first tail
    pub ahead : Holds (line_of s) last signal
    pub on : first + n ≤ last → OneBack last n r
    pub off : last < first + n → Over r
    pub whole : first + n ≡ last → LeastOver (line_of s) tail (signal + 1) (gradient_of r.least) r.least_stretch
