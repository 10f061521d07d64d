-- `half_keeps`: -35 to 35 are 0 to 35 and 65,501 to 65,535.
use borrow.Author.Tests.{le-leb, leb-true, leb-false}
use Rattle.sheet_line.proofs.Complement.{small-rise, small-fall, too-steep}
use Rattle.sheet_line.proofs.Deciding.{said-yes}
use Rattle.sheet_line.proofs.rules.half_keeps.Goals as goal

pub returns-then-second-le35 : goal.returns-then-second-le35
returns-then-second-le35 c =
    rw (le-leb c.args.second 35 c.if-second-le35.true, c.in-Stretches.is) (said-yes (c.requires, small-rise _ c.if-second-le35.true))

pub returns-else-second-le35 : goal.returns-else-second-le35
returns-else-second-le35 c =
    let y = c.args.second in
    rw c.in-Stretches.is
    (record {
      yes = λ e. (c.requires, small-fall _ (leb-true 65501 y e));
      no = λ e p. too-steep _ c.if-second-le35.false (leb-false 65501 y e) p.1;
    })
