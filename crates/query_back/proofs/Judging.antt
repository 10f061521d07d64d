-- The conditions decide by the rules, and which refusal it is.
use mathlib.Core.Path.{◌≡◌, sym, ◌∙◌}
use mathlib.Core.List.{List}
use Prim.Native.Nat.{ℕ}
use native.Mathlib.Omega.{arith}
use Rattle.train.specs.declared.refusal.Refusal.{Refusal}
use Rattle.train.specs.Number.{number}
use Rattle.train.specs.Refusal.{first_of, length_refusals}
use Rattle.train.proofs.Numbered.{numbered}
use Rattle.train.proofs.Refusals.{first-before, first-after}
use Rattle.train.proofs.Judging.{Judges, ◌then◌, length-settles}
use Rattle.query_way.specs.Way.{way_refusals}
use Rattle.query_way.specs.Find.{refusal}
use Rattle.query_way.proofs.Ways.{way-judges}
use Rattle.query_back.specs.Answer.{back_refusals, back_rules}

module _ (s : List ℕ) (signal head length : ℕ) where
  abbrev first : ℕ
  first = first_of (back_refusals s signal head length)

  pub back-judges : Judges (back_rules s signal head length) (back_refusals s signal head length)
  back-judges = length-settles length then way-judges s signal head

  -- which it is
  pub by-the-length : (e : Refusal) → number e ≡ first_of (length_refusals length) → first ≡ number e
  by-the-length r e = let h = numbered r in first-before (length_refusals length) (way_refusals s signal head) (λ z. omega (arith, e, z)) ∙ sym e

  pub by-the-sheet : first_of (length_refusals length) ≡ 0 → first ≡ refusal s signal head
  by-the-sheet = first-after 0 (length_refusals length) (way_refusals s signal head) (tt, tt)
