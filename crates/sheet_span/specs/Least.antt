-- Document 01, "Line sheet" and "Approach": which stretch holds a point, and the least gradient over a span of points; document 02, Card 4:
-- which stretch has it.
use Rattle.std.specs.Prelude.{◌≡◌, cond, ℕ, zero, suc, ◌+◌, ◌-◌, ◌≤◌, ◌<◌, leb, ltb}
use Rattle.train.specs.declared.Gradient.{Gradient}
use Rattle.train.specs.Gradient.{gradient_of}
use Rattle.sheet_line.specs.Line.{Line}

-- rise - fall of g is at most that of h
infix 60 ◌≼◌
abbrev pub ◌≼◌ : Gradient → Gradient → Type 0
g ≼ h = g.rise + h.fall ≤ h.rise + g.fall

abbrev pub lesser : Gradient → Gradient → Gradient
lesser g h = cond (leb (g.rise + h.fall) (h.rise + g.fall)) g h

module _ (l : Line) where
  -- the gradient of a stretch
  abbrev pub slope : ℕ → Gradient
  slope k = gradient_of (l.gradient k)

  -- a stretch reaches to the next start or the line end, that point excluded
  abbrev pub reach : ℕ → ℕ
  reach k = cond (ltb (suc k) l.stretches) (l.start (suc k)) l.end

  pub record Holds (k p : ℕ) : Type 0 where
    pub number : k < l.stretches
    pub from : l.start k ≤ p
    pub before : p < reach k

  -- the number of the stretch at a point of the line: the last that starts at or before it; the first starts at 0
  unfoldable pub stretch_up_to : ℕ → ℕ → ℕ
  stretch_up_to zero p = 0
  stretch_up_to (suc k) p = cond (leb (l.start (suc k)) p) (suc k) (stretch_up_to k p)

  abbrev pub stretch_at : ℕ → ℕ
  stretch_at p = stretch_up_to (l.stretches - 1) p

  -- the gradient at a point
  abbrev pub slope_at : ℕ → Gradient
  slope_at p = slope (stretch_at p)

  -- the least gradient at `from` and the n points behind it
  unfoldable pub least_of : ℕ → ℕ → Gradient
  least_of from zero = slope_at from
  least_of from (suc n) = lesser (least_of from n) (slope_at (from + suc n))

  -- at the points from `from` up to but not including `to`, of which there is at least one
  abbrev pub least_over : ℕ → ℕ → Gradient
  least_over from to = least_of from (to - from - 1)

  -- Card 4: of two stretches the one that governs, the lesser in gradient, the first where they are equal
  abbrev pub governor : ℕ → ℕ → ℕ
  governor j k = cond (leb ((slope j).rise + (slope k).fall) ((slope k).rise + (slope j).fall)) j k

  -- the number of the stretch that governs `from` and the n points behind it: along the line numbers rise, so the first is the lowest
  unfoldable pub governing_of : ℕ → ℕ → ℕ
  governing_of from zero = stretch_at from
  governing_of from (suc n) = governor (governing_of from n) (stretch_at (from + suc n))

  abbrev pub governing_over : ℕ → ℕ → ℕ
  governing_over from to = governing_of from (to - from - 1)

  module _ (from to : ℕ) where
    -- a stretch that holds a point of the span
    pub record Meets (k : ℕ) : Type 0 where
      pub point : ℕ
      pub first : from ≤ point
      pub last : point < to
      pub held : Holds k point

    -- the promise: the definition's gradient, which no stretch that holds a point is below, by rise less fall; the definition's stretch
    -- (Card 4), which holds a point and has that gradient, the lowest number of those that do; and the gradient point by point
    pub record LeastOver (g : Gradient) (n : ℕ) : Type 0 where
      pub value : g ≡ least_over from to
      pub stretches : (k : ℕ) → Meets k → g.rise + (slope k).fall ≤ (slope k).rise + g.fall
      pub number : n ≡ governing_over from to
      pub holds : Meets n
      pub own : slope n ≡ g
      pub lowest : (k : ℕ) → Meets k → slope k ≡ g → n ≤ k
      pub point : (p : ℕ) × ((from ≤ p) × ((p < to) × (slope_at p ≡ g)))
      pub points : (p : ℕ) → from ≤ p → p < to → g.rise + (slope_at p).fall ≤ (slope_at p).rise + g.fall
