-- `distance`: the quotient has 32 bits.
use native.Mathlib.Nat.{mul-pos}
use lib.Dec.{lit<}
use Rattle.step_curve.proofs.Bounds.{quotient_fits}
use Rattle.step_curve.proofs.distance.Goals as goal

pub quotient_up-requires : goal.quotient_up-requires
quotient_up-requires c =
    let m = c.requires.1 in
    (rw m.scale (mul-pos (lit< tt) m.some), rw c.sum_of.ensures (quotient_fits c.args.curve c.args.c c.args.m c.requires.0 m))
