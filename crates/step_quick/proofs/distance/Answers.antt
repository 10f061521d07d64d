-- `distance`: what the bounds settle is the distance, and so is what the wide numbers give.
use mathlib.Core.Path.{◌∙◌}
use Prim.Native.Nat.{◌+◌}
use native.Mathlib.Omega.{arith}
use Rattle.step_braking.specs.Plan.{v9, s_of, beta_of}
use Rattle.step_braking.proofs.Bounds.{s-small}
use Rattle.step_curve.specs.Plan.{square_of, run_of, a_of, sum_at, place_of}
use Rattle.step_curve.proofs.Bounds.{bounded}
use Rattle.step_curve.proofs.Exact.{place_is}
use Rattle.step_quick.proofs.Settled.{at_least, at_most, settled, room_fits}
use Rattle.step_quick.proofs.distance.Goals as goal

pub overflow_mul-b : goal.overflow_mul-b
overflow_mul-b c =
    let i = c.requires.3 in
    omega (arith, room_fits _ _ _ c.run_at-run.result.high c.div_ceil-n.result c.run_at-run.ensures.low-high (omega (arith, c.div_ceil-n.ensures)) i.part-fits i.a-most)

pub returns-then-b-end : goal.returns-then-b-end
unfolding place_of sum_at a_of
returns-then-b-end c =
    let a = c.args in
    let i = c.requires.3 in
    let run = c.run_at-run.ensures in
    let v = a.v.0 in
    let v0 = a.v0.0 in
    let A = a_of a.c v v0 in
    let M = run_of a.curve a.c (beta_of a.c v v0) (v9 v) in
    let D = square_of (beta_of a.c v v0) (v9 v0) in
    let p = (s-small v c.requires.1.high).1.1 in
    settled A M (s_of v) D (c.run_at-run.result.low + a.b.part) _ (let e = c.requires.2 in omega arith)
    (at_least A M (s_of v) D _ _ _ i.a-below (run.above _ i.beta-above) i.part) (omega arith)
    (at_most A M (s_of v) D _ _ _ _ _ i.a-above (run.below _ i.beta-below) i.most c.if-b-end.true (omega (arith, c.if-run-end.true)))

pub distance-requires : goal.distance-requires
distance-requires c =
    let a = c.args in
    (c.requires.0, bounded a.c a.v.0 a.v0.0 c.terms_at.result c.requires.0 c.requires.1 c.requires.2 c.terms_at.ensures)

pub returns : goal.returns
returns c =
    let a = c.args in
    c.distance.ensures ∙ place_is a.curve a.c a.v.0 a.v0.0 c.terms_at.result c.terms_at.ensures
