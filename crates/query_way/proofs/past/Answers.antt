-- `past`: the walk from the overlap's last point to the tail of a train at the signal.
use native.Mathlib.Omega.{arith}
use Prim.Native.Nat.{◌+◌, ◌-◌}
use Rattle.sheet.proofs.Kept.{headed-of}
use Rattle.query_way.proofs.Ways.{no-overlap, some-overlap}
use Rattle.query_way.proofs.past.Goals as goal

pub returns-then-overlap-lt1 : goal.returns-then-overlap-lt1
returns-then-overlap-lt1 c = no-overlap _ _ _ _ (omega (arith, c.if-overlap-lt1.true))

pub overflow_add-last : goal.overflow_add-last
overflow_add-last c = let e = (headed-of _ c.args.s.accepted).1.counts.ends in omega (arith, c.requires)

pub returns : goal.returns
returns c =
    let a = c.args in
    let last = a.place.0 + a.overlap.0 - 1 in
    some-overlap _ _ _ _ _ last (headed-of _ a.s.accepted).1 c.if-overlap-lt1.false (omega arith) (rw c.tail.ensures at c.least.ensures)
