-- Fields that can be written: their lists are paired and the line keeps the rules; and what is written of them reads back.
use mathlib.Core.Path.{◌≡◌, sym, ◌∙◌}
use mathlib.Core.Bool.{true, not, false≢true}
use mathlib.Core.List.{[], ◌∷◌}
use borrow.Author.Tests.{eq-eqb, eqb-true, not-true, not-false}
use lib.Dec.{eqb}
use lib.ListN.{length}
use Rattle.lists.proofs.Holding.{and_left, and_right}
use Rattle.train.specs.Refusal.{◌gives◌}
use Rattle.train.specs.Judged.{◌keeps◌}
use Rattle.train.proofs.Judging.{Settles, settled}
use Rattle.sheet.specs.Sheet.{accepted}
use Rattle.sheet.specs.Fields.{Fields, listed, writable, Writable, sheet_of, fields_of}
use Rattle.sheet.proofs.Kept.{kept_of, keeps-of}
use Rattle.sheet.proofs.RoundTrip.{accepted-again, write_read}

pub writable-at : (f : Fields) → writable f ≡ true → Writable f
unfolding writable
writable-at f h =
    let a = eqb (length f.gradients) (length f.starts) in
    let b = eqb (length f.overlaps) (length f.places) in
    let rest = and_right a _ h in
    record { stretches = eqb-true _ _ (and_left a _ h); signals = eqb-true _ _ (and_left b _ rest); kept = kept_of (listed f) (and_right b _ rest) }

pub writable-of : (f : Fields) → Writable f → writable f ≡ true
unfolding writable
writable-of f w = rw (eq-eqb _ _ w.stretches, eq-eqb _ _ w.signals) (keeps-of (listed f) w.kept)

-- else refusal 7
pub writable-settles : (f : Fields) → Settles (7 keeps Writable f) (not (writable f) gives 7 ∷ [])
writable-settles f = settled (7 keeps Writable f) tt (not (writable f)) (λ e. writable-at f (not-false _ e)) (λ e h. false≢true (sym (not-true _ e) ∙ writable-of f h))

pub written-sheet : (f : Fields) → writable f ≡ true → accepted (sheet_of f) ≡ true
written-sheet f h = accepted-again (listed f) (writable-at f h).kept

pub written_back : (f : Fields) → writable f ≡ true → fields_of (sheet_of f) ≡ f
written_back f h = let w = writable-at f h in write_read f w.stretches w.signals w.kept
