-- `answer_at`: what the climb to the permitted speed found makes the answer.
use mathlib.Core.Path.{◌≡◌, ◌∙◌}
use Rattle.std.proofs.Common.{rules, Ok, Err}
use Rattle.query_permitted.specs.declared.Permitted.TheVariants.{Release, Curve}
use Rattle.query.proofs.Answers.{refuses, as-permitted}
use Rattle.query.proofs.answer_at.Goals as goal

pub returns-in_err-speed : goal.returns-in_err-speed
returns-in_err-speed c =
    let a = c.args in
    let r = c.in_err-speed.field-0.0 in
    let e : c.speed.result ≡ Err r = search rules in
    let f : c.from_residual.result ≡ Err r = search rules in
    rw f (rw (e, refuses r) at (as-permitted a.k a.train a.w.ahead a.w.distance a.governing a.release _ c.speed.ensures))

pub returns-in-Release : goal.returns-in-Release
returns-in-Release c =
    let a = c.args in
    let e : c.speed.result ≡ Ok Release = search rules in
    c.given.ensures ∙ rw e at (as-permitted a.k a.train a.w.ahead a.w.distance a.governing a.release _ c.speed.ensures)

pub returns-in-Curve : goal.returns-in-Curve
returns-in-Curve c =
    let a = c.args in
    let e : c.speed.result ≡ Ok (Curve c.in-Curve.v) = search rules in
    c.given-in-Curve.ensures ∙ rw e at (as-permitted a.k a.train a.w.ahead a.w.distance a.governing a.release _ c.speed.ensures)
