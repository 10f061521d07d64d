-- `answer_on`: what the climb to the release speed found makes the answer.
use mathlib.Core.Path.{◌≡◌, ◌∙◌}
use Rattle.std.proofs.Common.{rules, Ok, Err}
use Rattle.query.proofs.Answers.{refuses, as-released}
use Rattle.query.proofs.answer_on.Goals as goal

pub returns-in_err-release : goal.returns-in_err-release
returns-in_err-release c =
    let a = c.args in
    let r = c.in_err-release.field-0.0 in
    let e : c.speed.result ≡ Err r = search rules in
    let f : c.from_residual.result ≡ Err r = search rules in
    rw f (rw (e, refuses r) at (as-released a.k a.train a.tm a.tr a.w a.governing _ c.speed.ensures))

-- a speed was found, and
-- the permitted speed goes with it
pub returns : goal.returns
returns c =
    let a = c.args in
    let e : c.speed.result ≡ Ok c.in_ok-release.release = search rules in
    c.answer_at.ensures ∙ rw e at (as-released a.k a.train a.tm a.tr a.w a.governing _ c.speed.ensures)
