-- The walk from the signal to the tail: where it is, when a step is left, and when it is over.
use mathlib.Core.Path.{◌≡◌, refl, sym, ap, subst, ◌∙◌}
use mathlib.Core.Logic.{⊎_elim}
use Prim.Native.Nat.{ℕ, suc, ◌+◌, ◌≤◌, ◌<◌}
use native.Mathlib.Omega.{arith}
use Rattle.lists.proofs.Split.{below}
use Rattle.sheet_line.specs.Line.{Line}
use Rattle.sheet.specs.Kept.{Kept}
use Rattle.sheet_span.specs.Least.{Holds, stretch_at}
use Rattle.sheet_span.proofs.Stretches.{starts-ordered, none-later, at-point, held}
use Rattle.sheet_span.proofs.Ends.{Ends, ends-ordered}
use Rattle.sheet_walk.specs.declared.Walk.{Walk}
use Rattle.sheet_walk.specs.Walk.{begun, further, walk_at}
use Rattle.sheet_walk.proofs.Walks.{walk-stretch}

-- two points of a line that keeps its rules, the tail not beyond the signal
pub record Spans (l : Line) (tail signal : ℕ) : Type 0 where
  pub kept : Kept l
  pub order : tail ≤ signal
  pub on : signal < l.end

-- n steps are taken from a stretch, not past the one that holds the tail
pub record Underway (l : Line) (tail last : ℕ) (w : Walk) (n : ℕ) : Type 0 where
  pub state : w ≡ walk_at l last n
  pub within : stretch_at l tail + n ≤ last

module _ {l : Line} {tail signal : ℕ} (a : Spans l tail signal) where
  abbrev first : ℕ
  first = stretch_at l tail

  abbrev last : ℕ
  last = stretch_at l signal

  holds : (p : ℕ) → p < l.end → Holds l (stretch_at l p) p
  holds p i = let (k, e) = held l a.kept p i in subst (λ (j : ℕ). Holds l j p) (sym (at-point l a.kept k p e)) e

  pub ends : Ends l tail signal first last
  ends = let o = a.order in let i = a.on in record { ordered = o; first = holds tail (omega arith); end = holds signal i }

  pub begins : Underway l tail last (begun l last) 0
  unfolding walk_at
  begins = let o = ends-ordered l a.kept tail signal first last ends in record { state = refl; within = omega arith }

  module _ {w : Walk} {n : ℕ} (u : Underway l tail last w n) where
    pub stands : w.stretch + n ≡ last
    stands = let e = ap (λ (w : Walk). w.stretch) u.state ∙ walk-stretch l last n in let i = u.within in omega arith

    pub numbered : w.stretch < l.stretches
    numbered = let e = stands in let i = ends.end.number in omega arith

    -- its stretch starts behind the tail: a step is left
    pub more : tail < l.start w.stretch → first < w.stretch
    more i =
        ⊎_elim
        (λ j. j)
        (λ j. absurd (let f = ends.first.from in let q = starts-ordered l a.kept w.stretch first j ends.first.number in omega arith))
        (below first w.stretch)

    pub goes_on : tail < l.start w.stretch → Underway l tail last (further l w) (suc n)
    unfolding walk_at
    goes_on i = let e = stands in let m = more i in record { state = ap (further l) u.state; within = omega arith }

    -- it does not: it holds the tail
    pub arrived : l.start w.stretch ≤ tail → first + n ≡ last
    arrived i = let e = stands in let j = u.within in let k = none-later l a.kept w.stretch first tail ends.first numbered i in omega arith
