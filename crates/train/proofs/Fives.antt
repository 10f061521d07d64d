-- A number by fives: the condition that decides by that rule.
use mathlib.Core.Path.{◌≡◌}
use mathlib.Core.List.{[], ◌∷◌}
use Prim.Native.Nat.{ℕ, ◌*◌, ◌/◌, ◌%◌}
use native.Mathlib.Omega.{arith}
use borrow.Author.Tests.{ltb-true, ltb-false}
use lib.Dec.{T, ltb, leb}
use Rattle.train.specs.Refusal.{◌gives◌}
use Rattle.train.specs.Judged.{◌keeps◌}
use Rattle.train.proofs.Settling.{Settles, settled}

module _ (n : ℕ) (above : T (leb 1 n)) where
  pub fives : (a : ℕ) → Settles (n keeps ((m : ℕ) × (a ≡ 5 * m))) (ltb 0 (a % 5) gives n ∷ [])
  fives a =
      settled (n keeps ((m : ℕ) × (a ≡ 5 * m))) above _ (λ e. let l = ltb-false _ (a % 5) e in (a / 5, omega arith)) (λ e (m, i). let l = ltb-true _ (a % 5) e in omega arith)
