-- `stops_within`: the stop of the plan from v is the ramp's, and it is at most the overlap.
use mathlib.Core.Path.{refl}
use Rattle.ramp.proofs.Speeds.{from-distance}
use Rattle.query_release.proofs.stops_within.Goals as goal

pub returns : goal.returns
returns c k o is =
    let a = c.args in
    let p = c.requires in
    rw (c.from.ensures, c.from-2.ensures, from-distance k o a.m is p.0 a.v.0 _ p.2 c.stop_from.ensures) refl
