-- The stretch that holds a point is the last that starts at or before it.
use mathlib.Core.Logic.{◌⊎◌, ⊎_elim}
use mathlib.Core.Path.{◌≡◌}
use Prim.Native.Nat.{ℕ, suc, ◌+◌, ◌≤◌, ◌<◌}
use native.Mathlib.Omega.{arith}
use native.Mathlib.Numerals.{add-one}
use Rattle.lists.proofs.Split.{below}
use Rattle.sheet_line.specs.Line.{Line}
use Rattle.sheet.specs.Kept.{Kept}
use Rattle.sheet_span.specs.Least.{Holds}
use Rattle.sheet_span.proofs.Stretches.{reach-next, reach-last}

module _ (l : Line) (h : Kept l) (p : ℕ) (on : p < l.end) where
  -- the first starts at 0, and behind the last the line ends
  pub last-holds : (k : ℕ) → k < l.stretches → (k ≡ 0) ⊎ (l.start k ≤ p) → (k + 1 ≡ l.stretches) ⊎ (p < l.start (k + 1)) → Holds l k p
  last-holds k n from past =
      record {
        number = n;
        from = ⊎_elim (λ e. rw e (let o = h.origin in omega arith)) (λ i. i) from;
        before = ⊎_elim (λ e. rw (reach-last l k (omega arith)) on) (λ i. ⊎_elim (λ m. rw (reach-next l k m, ← add-one k) i) (λ m. rw (reach-last l k m) on) (below (suc k) l.stretches)) past;
      }
