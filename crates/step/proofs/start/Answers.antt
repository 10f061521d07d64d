-- `start`: the inputs' refusal, or 10, or a course that is the paper's and strong enough.
use mathlib.Core.Path.{◌≡◌, sym, ◌∙◌}
use mathlib.Core.Bool.{true, false}
use mathlib.Core.List.{◌++◌}
use borrow.Author.Tests.{leb-true}
use mir.Syntax.{w32}
use mir.ValLaws.{to_z-of_z}
use native.Mathlib.Nat.{le_trans}
use native.Mathlib.Omega.{arith}
use Rattle.std.specs.Prelude.{Err}
use Rattle.train.specs.Gradient.{gradient_of}
use Rattle.train.specs.Refusal.{first_of}
use Rattle.train.proofs.Refusals.{first-after}
use Rattle.step_braking.specs.Plan.{Near}
use Rattle.step_braking.specs.Agreement.{IsCourse}
use Rattle.step_braking.specs.Braking.{strong}
use Rattle.step_braking.proofs.Exact.{strong-is}
use Rattle.step.specs.Answer.{inputs, weak}
use Rattle.step.proofs.Answers.{Accepted, inputs-rising, inputs-fit}
use Rattle.step.proofs.Judged.{before_others}
use Rattle.step.proofs.start.Goals as goal
use Rattle.step.proofs.start.Goals.{After-gradient_of-g, After-is_strong, In_ok-turned_away}

gradient-is : (c : After-gradient_of-g) → c.gradient_of-g.result ≡ gradient_of c.args.gradient
gradient-is c = rw (to_z-of_z w32 c.args.gradient c.ranges.gradient) at c.gradient_of-g.ensures

-- the inputs are not turned away
passed : (c : In_ok-turned_away) → let a = c.args in first_of (inputs a.k a.train c.gradient_of-g.result a.v a.v0) ≡ 0
passed c = sym c.in_ok-turned_away.ensures

fits : (c : In_ok-turned_away) → let a = c.args in Accepted a.k a.train c.gradient_of-g.result a.v a.v0
fits c = let a = c.args in inputs-fit a.k a.train c.gradient_of-g.result a.v a.v0 (passed c)

near : (c : In_ok-turned_away) → let a = c.args in Near a.at.0 a.v0.0
near c =
    let n = (fits c).speeds in
    let b = c.requires n.ahead in
    record { high = le_trans b.1 n.high; ahead = b.0 }

-- the test says what the definition says
strong-says : (c : After-is_strong) → let a = c.args in
    IsCourse a.k a.train c.gradient_of-g.result c.course_of-c.result → c.is_strong.result ≡ strong a.k a.train c.gradient_of-g.result a.at a.v0
strong-says c i =
    let a = c.args in
    c.is_strong.ensures
    ∙ strong-is a.k a.train c.gradient_of-g.result c.course_of-c.result i a.at a.v0 (near c.before.before).ahead

-- so refusal 10 decides
decides : (c : In_ok-turned_away) → let a = c.args in let w = weak a.k a.train c.gradient_of-g.result a.at a.v0 in
    first_of (inputs a.k a.train c.gradient_of-g.result a.v a.v0 ++ w) ≡ first_of w
decides c =
    let a = c.args in
    first-after 0 (inputs a.k a.train c.gradient_of-g.result a.v a.v0) (weak a.k a.train c.gradient_of-g.result a.at a.v0)
    (inputs-rising a.k a.train c.gradient_of-g.result a.v a.v0) (passed c)

pub returns-in_err-turned_away : goal.returns-in_err-turned_away
returns-in_err-turned_away c =
    let a = c.args in
    let e : c.from_residual.result ≡ Err c.in_err-turned_away.field-0.0 = grind arith in
    rw (← gradient-is (goal.at.returns-in_err-turned_away c).After-gradient_of-g, e) (sym (before_others _ (inputs a.k a.train c.gradient_of-g.result a.v a.v0) (weak a.k a.train c.gradient_of-g.result a.at a.v0) c.in_err-turned_away.ensures))

pub course_of-c-requires : goal.course_of-c-requires
course_of-c-requires c = let f = fits c in (f.coefficients, f.weight, f.length, f.gradient)

pub returns-then-not-is_strong : goal.returns-then-not-is_strong
returns-then-not-is_strong c =
    let a = c.args in
    let e : strong a.k a.train c.gradient_of-g.result a.at a.v0 ≡ false = sym (strong-says (goal.at.returns-then-not-is_strong c).After-is_strong c.course_of-c.ensures) ∙ c.if-not-is_strong.true in
    rw (← gradient-is (goal.at.returns-then-not-is_strong c).After-gradient_of-g) (decides (goal.at.returns-then-not-is_strong c).In_ok-turned_away ∙ rw e)

-- Refusal 10 for the brake is the last of the conditions:
-- where it does not apply, the course is given.
pub returns : goal.returns
returns c =
    let a = c.args in
    let t = c.if-not-is_strong.false in
    let e : strong a.k a.train c.gradient_of-g.result a.at a.v0 ≡ true = sym (strong-says (goal.at.returns c).After-is_strong c.course_of-c.ensures) ∙ t in
    rw (← gradient-is (goal.at.returns c).After-gradient_of-g)
    (record {
      accepted = decides (goal.at.returns c).In_ok-turned_away ∙ rw e;
      speeds = (fits (goal.at.returns c).In_ok-turned_away).speeds;
      course = c.course_of-c.ensures;
      enough = leb-true _ _ (sym c.is_strong.ensures ∙ t);
    })
