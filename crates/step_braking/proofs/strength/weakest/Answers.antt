-- `weakest`: the end that is chosen is the weaker.
use native.Mathlib.Nat.{le_of_lt}
use native.Mathlib.Omega.{arith}
use Rattle.step_braking.proofs.Weakest.{weakest-first, weakest-lower, weakest-higher}
use Rattle.step_braking.proofs.strength.weakest.Goals as goal

pub returns-then-c-lt1 : goal.returns-then-c-lt1
returns-then-c-lt1 c =
    let e = c.at-first.ensures in
    rw (e.0, e.1, e.2) (weakest-first c.args.c c.args.from.0 c.args.to.0 c.args.v0.0 c.requires.0 c.requires.1 c.requires.3 (omega (arith, c.if-c-lt1.true)))

pub returns-then-first-last : goal.returns-then-first-last
returns-then-first-last c =
    let e = c.at-first.ensures in
    let f = c.at-last.ensures in
    rw (e.0, e.1, e.2) (weakest-lower c.args.c c.args.from.0 c.args.to.0 c.args.v0.0 c.requires.0 c.requires.1 c.requires.3 c.requires.2 (rw (e.0, e.1, e.2, f.0, f.1, f.2) at c.if-first-last.true))

pub returns-else-first-last : goal.returns-else-first-last
returns-else-first-last c =
    let e = c.at-first.ensures in
    let f = c.at-last.ensures in
    rw (f.0, f.1, f.2) (weakest-higher c.args.c c.args.from.0 c.args.to.0 c.args.v0.0 c.requires.0 c.requires.1 c.requires.3 c.requires.2 (rw (e.0, e.1, e.2, f.0, f.1, f.2) at (le_of_lt c.if-first-last.false)))
