-- A table keeps the rule where one test, computed over all its entries, says so.
use mathlib.Core.Path.{◌≡◌}
use mathlib.Core.Bool.{Bool, true}
use mathlib.Core.List.{List}
use Prim.Native.Nat.{ℕ}
use borrow.Author.Tests.{eqb-true}
use lib.Dec.{eqb}
use Rattle.lists.proofs.Table.{all_from, holds_at}
use Rattle.ceilings_stored.specs.Table.{entry_at, Ruled}

abbrev pub right : ℕ → ℕ → Bool
right place number = eqb number (entry_at place).0

pub ruled : (table : List ℕ) → all_from right 0 table ≡ true → Ruled table
ruled table e = record { entry = λ place h. eqb-true _ _ (holds_at right table e place h) }
