use Rattle.std.proofs.Common.{rules}
use Rattle.wide.specs.Value.{value_of}
use Rattle.wide_quotient.proofs.Division.{least_more}
use Rattle.wide_quotient.proofs.quotient_up.Goals as goal

pub returns-else-eq : goal.returns-else-eq
returns-else-eq c =
    least_more (value_of c.args.n) (value_of c.args.d) c.loop-d.q (value_of c.loop-d.left) c.requires.0 c.requires.1 c.loop-d.invariant (search rules) (search rules)
