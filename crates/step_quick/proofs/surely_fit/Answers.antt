-- `surely_fit`: the products are a word long, and where the room is enough for the last speed with the weakest brake, each fits.
use Prim.Native.Nat.{◌*◌, ◌-◌}
use borrow.Author.Tests.{ltb-true}
use native.Mathlib.Omega.{arith}
use Rattle.step_braking.specs.Plan.{v9, beta_of}
use Rattle.step_curve.specs.declared.Curve.TheVariants.{P}
use Rattle.step_curve.specs.Plan.{square_of, run_of, a_of}
use Rattle.step_quick.proofs.Settled.{at_most, enough}
use Rattle.step_quick.proofs.Slower.{each_fits}
use Rattle.step_quick.proofs.surely_fit.Goals as goal

pub returns : goal.returns
unfolding a_of
returns c = λ e v from to.
    let x = c.weakest-s.result in
    let h = c.weakest-s.ensures in
    let (strong, stronger) = h.each c.if-s.false v from to in
    let top = c.args.to.0 in
    let v0 = c.args.v0.0 in
    let i = c.bounds_with-b.ensures in
    let run = c.run_at-run.ensures in
    let M = run_of P c.args.c (beta_of c.args.c top v0) (v9 top) in
    let D = square_of (beta_of c.args.c top v0) (v9 v0) in (
      strong,
      each_fits c.args.c (x.gain - x.loss) x.unit v top v0 (1000 * c.args.d.0) to (let p = c.if-s.false in let q = h.some in omega arith) h.some stronger
          (at_most (x.gain - x.loss) M x.unit D _ _ _ _ _ i.a-above (run.below _ i.beta-below) i.most (enough _ _ _ (ltb-true _ _ e)) (omega (arith, c.if-room-run.false, c.room_of-room.ensures.0))),
    )
