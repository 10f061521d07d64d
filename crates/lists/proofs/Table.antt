-- A table's rule holds at each entry where one test, computed over all of them, says so.
use mathlib.Core.Path.{◌≡◌}
use mathlib.Core.Bool.{Bool, true, ◌&&◌}
use mathlib.Core.List.{List, [], ◌∷◌}
use Prim.Native.Nat.{ℕ, zero, suc, ◌+◌, ◌<◌}
use native.Mathlib.Nat.{add-zero, zero-add, add-suc, suc-add, le_of_suc-le-suc, not-suc-le-zero}
use lib.ListN.{length, get_or}
use Rattle.lists.proofs.Holding.{and_left, and_right}

module _ (rule : ℕ → ℕ → Bool) where
  -- the rule holds of each place and its entry, where the first place is i
  abbrev pub all_from : ℕ → List ℕ → Bool
  all_from i [] = true
  all_from i (x ∷ xs) = rule i x && all_from (suc i) xs

  from : (xs : List ℕ) (i : ℕ) → all_from i xs ≡ true → (k : ℕ) → k < length xs → rule (i + k) (get_or xs k 0) ≡ true
  from [] i e k h = absurd (not-suc-le-zero h)
  from (x ∷ xs) i e zero h = rw (add-zero i) (and_left _ _ e)
  from (x ∷ xs) i e (suc k) h = rw (add-suc i k, ← suc-add i k) (from xs (suc i) (and_right (rule i x) _ e) k (le_of_suc-le-suc h))

  pub holds_at : (xs : List ℕ) → all_from 0 xs ≡ true → (k : ℕ) → k < length xs → rule k (get_or xs k 0) ≡ true
  holds_at xs e k h = rw (zero-add k) at (from xs 0 e k h)
