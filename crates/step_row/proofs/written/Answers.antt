-- `written`: a refusal leaves the list; else its first places are the row, and the rest is as it was.
use borrow.Author.Rules.{rules}
use borrow.Author.Tests.{leb-true}
use mathlib.Core.Path.{◌≡◌, sym, ◌∙◌}
use mir.Syntax.{w32}
use mir.ValLaws.{to_z-of_z}
use native.Mathlib.Omega.{arith}
use Rattle.std.specs.Prelude.{Err}
use Rattle.train.specs.Gradient.{gradient_of}
use Rattle.train.specs.Refusal.{first_of}
use Rattle.train.proofs.Refusals.{none_before}
use Rattle.step_braking.specs.Plan.{strong_of, Enough}
use Rattle.step_braking.specs.Braking.{strong}
use Rattle.step_braking.proofs.Exact.{strong-is}
use Rattle.step.specs.Answer.{inputs, weak}
use Rattle.step.specs.Begin.{IsReady}
use Rattle.train.proofs.Numbered.{numbered}
use Rattle.step_row.proofs.Answers.{weak-top, row-refused, row-short, enough-on, row-given}
use Rattle.step_row.proofs.written.Goals as goal
use Rattle.step_row.proofs.written.Goals.{After-is_strong, Else-not-is_strong, In_ok-c}

ready : (c : In_ok-c) → let a = c.args in IsReady a.k a.train (gradient_of a.gradient) a.train.top a.v0 a.v0 c.in_ok-c.c
ready c = rw (to_z-of_z w32 c.args.gradient c.ranges.gradient) at c.in_ok-c.ensures

-- the inputs are accepted
passed : (c : In_ok-c) → let a = c.args in first_of (inputs a.k a.train (gradient_of a.gradient) a.train.top a.v0) ≡ 0
passed c =
    let a = c.args in
    none_before (inputs a.k a.train (gradient_of a.gradient) a.train.top a.v0) (weak a.k a.train (gradient_of a.gradient) a.v0 a.v0) (ready c).accepted

-- the test at the top speed
strong-says : (c : After-is_strong) → let a = c.args in
    IsReady a.k a.train (gradient_of a.gradient) a.train.top a.v0 a.v0 c.in_ok-c.c → c.is_strong.result ≡ strong a.k a.train (gradient_of a.gradient) a.train.top a.v0
strong-says c s =
    let a = c.args in
    let e : c.is_strong.result ≡ strong_of c.in_ok-c.c a.train.top.0 a.v0.0 = c.is_strong.ensures in
    e ∙ strong-is a.k a.train (gradient_of a.gradient) c.in_ok-c.c s.course a.train.top a.v0 s.speeds.ahead

high : (c : Else-not-is_strong) → let a = c.args in Enough c.in_ok-c.c a.train.top.0 a.v0.0
high c = leb-true _ _ (sym c.is_strong.ensures ∙ c.if-not-is_strong.false)

pub returns-in_err-c : goal.returns-in_err-c
returns-in_err-c c =
    let a = c.args in
    let e : c.from_residual.result ≡ Err c.in_err-c.field-0.0 = grind arith in
    rw e (row-refused a.k a.train (gradient_of a.gradient) a.curve a.v0 a.out.now _ (numbered c.in_err-c.field-0.0) (rw (to_z-of_z w32 a.gradient c.ranges.gradient) at c.in_err-c.ensures))

-- Now the answers, in the order of the code:
-- too weak at the top speed is refusal 10,
-- too little room is 11,
-- and else the places are written.
pub returns-then-not-is_strong : goal.returns-then-not-is_strong
returns-then-not-is_strong c =
    let a = c.args in
    let at = goal.at.returns-then-not-is_strong c in
    weak-top a.k a.train (gradient_of a.gradient) a.curve a.v0 a.out.now (passed at.In_ok-c) (ready at.In_ok-c).speeds.ahead (sym (strong-says at.After-is_strong (ready at.In_ok-c)) ∙ c.if-not-is_strong.true)

pub returns-then-places-out : goal.returns-then-places-out
returns-then-places-out c =
    let a = c.args in
    let at = goal.at.returns-then-places-out c in
    let s = ready at.In_ok-c in
    row-short a.k a.train (gradient_of a.gradient) a.curve a.v0 a.out.now (passed at.In_ok-c) s.speeds.ahead c.in_ok-c.c s.course s.enough (high at.Else-not-is_strong) _ (search rules) (omega (arith, c.if-places-out.true))

pub fill-requires : goal.fill-requires
fill-requires c =
    let a = c.args in
    let at = goal.at.fill-requires c in
    let s = ready at.In_ok-c in
    let h = s.speeds.high in
    let o = s.speeds.ahead in
    (s.course.small, enough-on a.k a.train (gradient_of a.gradient) a.curve a.v0 a.out.now (passed at.In_ok-c) o c.in_ok-c.c s.course s.enough (high at.Else-not-is_strong), omega arith, omega (arith, c.if-places-out.false))

pub returns : goal.returns
returns c =
    let a = c.args in
    let at = goal.at.returns c in
    let s = ready at.In_ok-c in
    row-given a.k a.train (gradient_of a.gradient) a.curve a.v0 a.out.now (passed at.In_ok-c) s.speeds.ahead c.in_ok-c.c s.course s.enough (high at.Else-not-is_strong) _ (omega (arith, c.if-places-out.false)) c.fill.ensures
