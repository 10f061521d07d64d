-- What is asked of a record of an accepted sheet and promised of it, whatever the record is: of the covered function that reads it, of the method of an opened sheet, and of the function with plain parameters above them.
use mathlib.Core.Path.{◌≡◌}
use mathlib.Core.Bool.{true}
use mathlib.Core.List.{List, [], ◌∷◌}
use Prim.Native.Nat.{ℕ}
use seplogic.Ra.Ura.{Ura}
use types.Logic.{Logic}
use contract.Lifetimes.{Lfts}
use contract.Monad.{fact}
use denote.RattleType.{RattleType}
use denote.Builtin.{SliceRefOf, u8, u32}
use denote.Exit.{yes}
use denote.Signature.{Slot, plain, named_lft}
use denote.Triple.Statement.{Contract}
use denote.Triple.Spec.{triple_of}
use denote.Triple.Clauses.{Ended, Clauses, closing}
use Rattle.sheet.specs.Sheet.{accepted}
use Rattle.sheet_lookup.specs.Counts.{IsCounts}
use Rattle.sheet_lookup.specs.contracts.opened.Counts as counts
use Rattle.sheet_lookup.specs.contracts.opened.Sheet as T

-- an opened sheet's type, over the signature's lifetimes
abbrev pub Opened : Lfts 1 → RattleType
Opened κs = T.the_row (named_lft 1 0 tt κs)

-- the bytes, a number and an opened sheet as parameters
abbrev pub bytes : Slot 1
bytes = SliceRefOf (0 ∷ []) tt (plain (λ κs. u8)) (λ κs. tt)

abbrev pub number : Slot 1
number = plain (λ κs. u32)

abbrev pub sheet : Slot 1
sheet = plain Opened

module _ (R : RattleType) (found : List ℕ → ℕ → R.Denot) where
  abbrev pub covered : Ended
  covered = record { signature = record { lifetimes = 1; outlives = []; params = bytes ∷ plain (λ κs. counts.the_row) ∷ number ∷ []; result = plain (λ κs. R) }; kept = (yes, (yes, (yes, tt))) }

  abbrev pub method : Ended
  method = record { signature = record { lifetimes = 1; outlives = []; params = sheet ∷ number ∷ []; result = plain (λ κs. R) }; kept = (yes, (yes, tt)) }

  abbrev pub above : Ended
  above = record { signature = record { lifetimes = 1; outlives = []; params = bytes ∷ number ∷ []; result = plain (λ κs. R) }; kept = (yes, (yes, tt)) }

  module _ {M : Type 1} (𝓤 : Ura M) where
    abbrev pub covered-clauses : Clauses 𝓤 covered
    covered-clauses κs a = record { ghost = Unit {0}; requires = λ g. fact 𝓤 (IsCounts a.0.now a.1.0); ensures = λ g r e. fact 𝓤 (r ≡ found a.0.now a.1.1.0) }

    abbrev pub method-clauses : Clauses 𝓤 method
    method-clauses κs a = record { ghost = Unit {0}; requires = λ g. fact 𝓤 (IsCounts a.0.bytes.now a.0.counts); ensures = λ g r e. fact 𝓤 (r ≡ found a.0.bytes.now a.1.0) }

    abbrev pub above-clauses : Clauses 𝓤 above
    above-clauses κs a = record { ghost = Unit {0}; requires = λ g. fact 𝓤 (accepted a.0.now ≡ true); ensures = λ g r e. fact 𝓤 (r ≡ found a.0.now a.1.0) }

    module _ (𝓛 : Logic 𝓤) where
      abbrev pub Covered : Contract 𝓤
      Covered = triple_of 𝓛 covered.signature (closing 𝓛 covered covered-clauses)

      abbrev pub Method : Contract 𝓤
      Method = triple_of 𝓛 method.signature (closing 𝓛 method method-clauses)
