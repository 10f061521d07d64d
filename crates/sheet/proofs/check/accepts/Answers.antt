-- `accepts`: the header, then the fields.
use mathlib.Core.Path.{sym, ◌∙◌}
use Rattle.sheet.proofs.RoundTrip.{read-write}
use Rattle.lists.proofs.Holding.{no, refuted}
use Rattle.sheet.proofs.Kept.{headed-of, accepted-is, sheet-decides}
use Rattle.sheet.proofs.check.accepts.Goals as goal

pub returns-then-header_keeps : goal.returns-then-header_keeps
returns-then-header_keeps c =
    let h = c.header_keeps.ensures.yes c.if-header_keeps.true in
    let e = c.fields_keep.ensures ∙ sym (accepted-is _ h) in
    record { answer = e; sheet = rw e (sheet-decides _); again = λ t. read-write _ (λ i. (c.type_inv.s i).fits) (sym e ∙ t) }

pub returns-else-header_keeps : goal.returns-else-header_keeps
returns-else-header_keeps c =
    let e = c.if-header_keeps.false ∙ sym (refuted _ (λ k. c.header_keeps.ensures.no c.if-header_keeps.false (headed-of _ k).0)) in
    record { answer = e; sheet = rw e (sheet-decides _); again = λ t. no (sym c.if-header_keeps.false ∙ t) }
