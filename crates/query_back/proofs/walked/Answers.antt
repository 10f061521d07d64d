-- `walked`: the length's refusal, the sheet's, else a step of the walk to the tail.
use mathlib.Core.Path.{◌≡◌, sym, ap, ◌∙◌}
use Rattle.std.proofs.Common.{rules, Err}
use Rattle.train.specs.declared.Metre.{Metre}
use Rattle.train.proofs.Numbered.{numbered}
use Rattle.query_back.proofs.Answers.{by-the-length, by-the-sheet, back-refused, back-given}
use Rattle.query_back.proofs.walked.Goals as goal

pub returns-in_err-of_length : goal.returns-in_err-of_length
returns-in_err-of_length c =
    let a = c.args in
    let e : c.from_residual.result ≡ Err c.in_err-of_length.field-0.0 = search rules in
    rw e (back-refused _ _ _ _ _ _ (by-the-length a.s.now a.signal a.head.0 a.length.0 _ c.in_err-of_length.ensures.0) (numbered c.in_err-of_length.field-0.0))

pub returns-in_err-sheet : goal.returns-in_err-sheet
returns-in_err-sheet c =
    let a = c.args in
    let e : c.from_residual-in_err-sheet.result ≡ Err c.in_err-sheet.field-0.0 = search rules in
    rw e (back-refused _ _ _ _ _ _ (by-the-sheet a.s.now a.signal a.head.0 a.length.0 (sym c.in_ok-of_length.ensures.0) ∙ c.in_err-sheet.ensures.refused) (numbered c.in_err-sheet.field-0.0))

pub returns : goal.returns
returns c =
    let a = c.args in
    let i = c.in_ok-sheet.ensures in
    let p = ap (λ (m : Metre). m.0) i.read.place in
    let r = rw (i.sheet, c.tail-tail.ensures) at c.step_back.ensures in
    back-given _ _ _ _ _ _ (by-the-sheet a.s.now a.signal a.head.0 a.length.0 (sym c.in_ok-of_length.ensures.0) ∙ i.refused) (rw (← p) r.0) (rw (← p) r.1)
