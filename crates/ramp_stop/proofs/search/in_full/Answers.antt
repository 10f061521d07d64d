-- `in_full`: the quotient is the moment, and the sums fit a word.
use Rattle.ramp_stop.proofs.Rolling as rolling
use Rattle.ramp_stop.proofs.search.in_full.Goals as goal

pub returns : goal.returns
returns c = rolling.in-full c.args.m c.requires.0 c.requires.1 c.requires.2
