-- A table's records one by one: on the line, one more, and what a record of the whole table keeps.
use mathlib.Core.Path.{sym, subst}
use mathlib.Core.Logic.{⊎_elim}
use Prim.Native.Nat.{ℕ, zero, suc, ◌≤◌, ◌<◌}
use native.Mathlib.Omega.{arith}
use Rattle.lists.proofs.Split.{earlier}
use Rattle.sheet_line.specs.declared.Table.{Table}
use Rattle.sheet_line.specs.declared.Table.TheVariants.{Stretches, Signals}
use Rattle.sheet_line.specs.Records.{KeepsItself, Along, lowest}

not-below : (k : ℕ) → k < 0 → ⊥
not-below k h = omega arith

-- a record of either table lies on the line
pub on_line : (t : Table) (end x y : ℕ) → KeepsItself t end x y → x < end
on_line Stretches end x y k = k.0
on_line Signals end x y k = k.0

-- one record more, and what a record of the whole table keeps
module _ (x : ℕ → ℕ) (Rule : ℕ → Type 0) where
  pub none_yet : Along x Rule 0
  none_yet = record { rising = λ k h. absurd (not-below _ h); each = λ k h. absurd (not-below _ h) }

  pub one_more : (k : ℕ) → Along x Rule k → lowest x k ≤ x k → Rule k → Along x Rule (suc k)
  unfolding lowest
  one_more k a low here =
      record {
        rising = λ i h. ⊎_elim (a.rising i) (λ j. subst (λ (m : ℕ). lowest x m ≤ x m) (sym j) low) (earlier (suc i) k h);
        each = λ i h. ⊎_elim (a.each i) (λ j. rw j here) (earlier i k h);
      }

  pub at_each : (n : ℕ) → Along x Rule n → (k : ℕ) → k < n → (lowest x k ≤ x k) × Rule k
  unfolding lowest
  at_each n a zero h = (omega arith, a.each 0 h)
  at_each n a (suc k) h = (a.rising k h, a.each (suc k) h)
