-- What each step promises: it is on the way, or over.
use mathlib.Core.Path.{◌≡◌, refl}
use mathlib.Core.List.{List}
use mathlib.Core.Logic.{⊎_elim}
use Prim.Native.Nat.{ℕ, ◌+◌}
use borrow.Author.Tests.{le-leb, lt-leb}
use Rattle.lists.proofs.Split.{below}
use Rattle.sheet_line.specs.Line.{Line}
use Rattle.sheet.specs.Sheet.{line_of}
use Rattle.sheet_span.specs.Least.{stretch_at}
use Rattle.sheet_walk.specs.declared.Back.{Back}
use Rattle.sheet_walk.specs.Walk.{walk_at}
use Rattle.sheet_walk.specs.Back.{back_on, Steps}
pub use Rattle.sheet_walk.proofs.Underway.{Spans, Underway, begins, stands, numbered, more, goes_on, arrived}
pub use Rattle.sheet_walk.proofs.Promises.{all-steps, answered, past_all}
use Rattle.sheet_walk.proofs.Promises.{on-the-way, over-there}

module _ (s : List ℕ) {tail signal : ℕ} (a : Spans (line_of s) tail signal) (n : ℕ) where
  abbrev line : Line
  line = line_of s

  abbrev from : ℕ
  from = stretch_at line tail

  abbrev to : ℕ
  to = stretch_at line signal

  pub steps-hold : (r : Back) → r ≡ back_on line tail signal n → Steps s tail signal n r
  unfolding back_on
  steps-hold r e =
      rw e
      (⊎_elim
      (λ i. rw (lt-leb (from + n) to i) (over-there s a n i))
      (λ i. rw (le-leb (from + n) to i) (on-the-way s a n (walk_at line to n) (record { state = refl; within = i })))
      (below to (from + n)))
