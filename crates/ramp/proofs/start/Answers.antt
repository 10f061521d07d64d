-- `start`: the inputs' refusal, or 10, or a plan that is the paper's and strong enough.
use mathlib.Core.Path.{◌≡◌, sym, ◌∙◌}
use borrow.Author.Tests.{leb-true}
use lib.Dec.{lit<}
use Rattle.train.specs.Refusal.{first_of}
use Rattle.ramp.specs.Answer.{inputs, strong}
use Rattle.ramp.proofs.Answers.{inputs-fit, by-weakness, by-none}
use Rattle.ramp.proofs.Kept.{strong-is}
use Rattle.ramp.proofs.start.Goals as goal
use Rattle.ramp.proofs.start.Goals.{In_ok-turned_away}

-- the inputs are not turned away
passed : (c : In_ok-turned_away) → let a = c.args in first_of (inputs a.k a.o) ≡ 0
passed c = sym c.in_ok-turned_away.ensures

pub plan_of-m-requires : goal.plan_of-m-requires
plan_of-m-requires c = let a = c.args in inputs-fit a.k a.o (passed (goal.at.plan_of-m-requires c).In_ok-turned_away)

pub returns-then-not-is_strong : goal.returns-then-not-is_strong
returns-then-not-is_strong c =
    let a = c.args in
    let p = c.plan_of-m.ensures in
    -- the test says what the definition says
    let e : c.is_strong.result ≡ strong a.k a.o = c.is_strong.ensures ∙ strong-is _ _ _ p.0 p.1 in
    (lit< tt, by-weakness a.k a.o (passed (goal.at.returns-then-not-is_strong c).In_ok-turned_away) (sym e ∙ c.if-not-is_strong.true))

pub returns : goal.returns
returns c =
    let a = c.args in
    let p = c.plan_of-m.ensures in
    let s = c.if-not-is_strong.false in
    let e : c.is_strong.result ≡ strong a.k a.o = c.is_strong.ensures ∙ strong-is _ _ _ p.0 p.1 in
    record {
      accepted = by-none a.k a.o (passed (goal.at.returns c).In_ok-turned_away) (sym e ∙ s);
      plan = p.0;
      small = p.1;
      enough = leb-true _ _ (sym c.is_strong.ensures ∙ s);
    }
