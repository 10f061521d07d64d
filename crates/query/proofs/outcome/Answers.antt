-- `outcome`: a refusal is the definition's, and so is the answer on the way, which keeps the third demand.
use mathlib.Core.Path.{◌≡◌}
use Rattle.std.proofs.Common.{rules, Err}
use Rattle.query.proofs.Answers.{by-inputs, on-way}
use Rattle.query.proofs.outcome.Goals as goal

pub returns-in_err-w : goal.returns-in_err-w
returns-in_err-w c =
    let a = c.args in
    let e : c.from_residual.result ≡ Err c.in_err-w.field-0.0 = search rules in
    let h = c.in_err-w.ensures in
    rw e (by-inputs a.k a.train a.tm a.tr a.s.now a.signal a.head.0 _ h.0 h.1)

pub returns : goal.returns
returns c =
    let a = c.args in
    let i = c.in_ok-w.ensures in
    rw (c.answer_on.ensures, i.way, i.governing) (on-way a.k a.train a.tm a.tr a.s.now a.signal a.head.0 i.accepted (rw i.way at i.fit) (rw (i.way, i.governing) at i.leads))
