-- The definition's governing stretch is at a point, none at a point has less, and it is the lowest of those with its gradient.
use mathlib.Core.Path.{refl}
use Prim.Native.Nat.{ℕ, zero, suc, ◌+◌, ◌<◌}
use native.Mathlib.Omega.{arith}
use Rattle.sheet_line.specs.Line.{Line}
use Rattle.sheet.specs.Kept.{Kept}
use Rattle.sheet_span.specs.Least.{stretch_at, governing_of}
pub use Rattle.sheet_span.proofs.OneMore.{Governs}
use Rattle.sheet_span.proofs.OneMore.{alone, one_more}
pub use Rattle.sheet_span.proofs.Slopes.{governing-slope}

module _ (l : Line) (h : Kept l) (from : ℕ) where
  pub governs : (n : ℕ) → from + n < l.end → Governs l from n (governing_of l from n)
  unfolding governing_of
  governs zero on = alone l h from
  governs (suc n) on = one_more l h from n (governing_of l from n) (stretch_at l (from + suc n)) on refl (governs n (omega arith))
