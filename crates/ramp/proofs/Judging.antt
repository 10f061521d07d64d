-- The lists of conditions decide by the rules in words of their own.
use Prim.Native.Nat.{ℕ}
use Rattle.train.specs.declared.Inertia.{Inertia}
use Rattle.train.proofs.Judging.{Settles, Judges, ◌then◌, ◌and◌, no_more, at_least, weight-settles, gradient-settles, inertia-settles, brake-settles}
use Rattle.ramp_motion.specs.declared.Overrun.{Overrun}
use Rattle.ramp.specs.Answer.{time_refusals, times_rule, strong, inputs, input_rules, ramp_refusals, ramp_rules}
use Rattle.ramp.proofs.Spanned.{speed-settles}

pub times-settles : (tm tr : ℕ) → Settles (times_rule tm tr) (time_refusals tm tr)
times-settles tm tr = at_least 6 tt tm 2000 and at_least 6 tt 1 tr and at_least 6 tt tr 3000

pub inputs-judge : (k : Inertia) (o : Overrun) → Judges (input_rules k o) (inputs k o)
inputs-judge k o =
    weight-settles o.weight then speed-settles o.v then gradient-settles o.gradient then times-settles o.tm o.tr then inertia-settles k then no_more

pub ramp-judges : (k : Inertia) (o : Overrun) → Judges (ramp_rules k o) (ramp_refusals k o)
unfolding strong
ramp-judges k o =
    weight-settles o.weight then speed-settles o.v then gradient-settles o.gradient then times-settles o.tm o.tr then inertia-settles k then brake-settles _ then no_more
