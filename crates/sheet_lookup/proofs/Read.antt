-- A signal that is read: its refusal is the first that applies, and one without a refusal is the sheet's.
use mathlib.Core.Path.{◌≡◌, refl, sym, ◌∙◌}
use mathlib.Core.Bool.{cond}
use mathlib.Core.List.{List}
use Prim.Native.Nat.{ℕ, zero, suc}
use borrow.Author.Tests.{leb-false, ne_eqb, not-false}
use lib.Dec.{eqb}
use native.Mathlib.Omega.{arith}
use Rattle.train.specs.Refusal.{first_of}
use Rattle.train.specs.Units.{metres}
use Rattle.train.proofs.Refusals.{none-holds}
use Rattle.sheet.specs.Sheet.{line_of}
use Rattle.sheet_lookup.specs.Answer.{read_refusals, signal_of}
use Rattle.sheet_lookup.specs.Counts.{IsSignal}
use Rattle.sheet_lookup.specs.declared.Signal.{Signal}

module _ (s : List ℕ) (k : ℕ) where
  abbrev first : ℕ
  first = first_of (read_refusals s (line_of s).signals k)

  pub read-refusal : (signal_of s k).refusal ≡ first
  unfolding signal_of
  read-refusal = go first
    where
      go : (n : ℕ) → (cond {A = Signal} (eqb n 0) (record { refusal = 0; place = metres ((line_of s).place k); overlap = metres ((line_of s).overlap k) }) (record { refusal = n; place = metres 0; overlap = metres 0 })).refusal ≡ n
      go zero = refl
      go (suc n) = rw (ne_eqb (suc n) 0 (λ e. omega arith)) refl

  pub read-signal : (signal_of s k).refusal ≡ 0 → IsSignal s k (signal_of s k)
  unfolding signal_of
  read-signal e =
      let z : first ≡ 0 = sym read-refusal ∙ e in
      let (a, (b, _)) = none-holds 0 (read_refusals s (line_of s).signals k) (tt, (tt, tt)) z in
      record { sheet = not-false _ a; number = leb-false _ _ b; place = rw z refl; overlap = rw z refl }
