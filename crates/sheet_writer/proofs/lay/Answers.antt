-- `lay`: refusal 7, then 11, else the whole sheet.
use mathlib.Core.Bool.{true}
use mathlib.Core.Path.{◌≡◌, sym, ap, ◌∙◌}
use native.Mathlib.Omega.{arith}
use Rattle.std.proofs.Common.{rules, Err}
use Rattle.lists.specs.Put.{put}
use Rattle.train.specs.declared.refusal.Refusal.TheVariants.{Sheet}
use Rattle.sheet.specs.Fields.{Fields, writable, Writable, sheet_of}
use Rattle.sheet.proofs.Writable.{writable-at}
use Rattle.sheet_writer.proofs.Answers.{broken, no_room, written}
use Rattle.sheet_writer.proofs.lay.Goals as goal
use Rattle.sheet_writer.proofs.lay.Goals.{In_ok-lists}

abbrev given : In_ok-lists → Fields
given c = let a = c.args in record { starts = a.starts.now; gradients = a.gradients.now; places = a.places.now; overlaps = a.overlaps.now; end = a.end }

held : (c : In_ok-lists) → writable (given c) ≡ true
held c = sym (ap writable c.in_ok-lists.ensures) ∙ c.in_ok-lists.lists.kept

right : (c : In_ok-lists) → Writable (given c)
right c = writable-at (given c) (held c)

pub returns-in_err-lists : goal.returns-in_err-lists
returns-in_err-lists c =
    let e : c.from_residual.result ≡ Err Sheet = search (rules, c.in_err-lists.ensures.0) in
    rw e (broken _ _ c.in_err-lists.ensures.1)

pub overflow_add-length-2 : goal.overflow_add-length-2
overflow_add-length-2 c = let k = (right (goal.at.overflow_add-length-2 c).In_ok-lists).kept.counts in omega (arith, k.stretches, k.signals)

pub returns-then-sheet-length : goal.returns-then-sheet-length
returns-then-sheet-length c = no_room (given (goal.at.returns-then-sheet-length c).In_ok-lists) _ (held (goal.at.returns-then-sheet-length c).In_ok-lists) (omega (arith, c.if-sheet-length.true))

pub overflow_cast-result : goal.overflow_cast-result
overflow_cast-result c = let k = (right (goal.at.overflow_cast-result c).In_ok-lists).kept.counts in omega (arith, k.stretches, k.signals)

pub returns : goal.returns
returns c = written _ _ (held (goal.at.returns c).In_ok-lists) c.if-sheet-length.false (c.whole.ensures ∙ ap (λ (f : Fields). put 0 (sheet_of f) c.args.sheet.now) c.in_ok-lists.ensures)
