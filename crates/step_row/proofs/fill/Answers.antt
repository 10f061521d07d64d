-- `fill`: after k turns the first k places are the plan's.
use mathlib.Core.Path.{refl}
use native.Mathlib.Omega.{arith}
use lib.ListN.{length-set}
use Rattle.std.proofs.lemmas.List.{length-take-le}
use Rattle.lists.specs.Counted.{up_to}
use Rattle.lists.proofs.Places.{longer}
use Rattle.step_row.proofs.fill.Goals as goal

pub loop-k-init : goal.loop-k-init
unfolding up_to
loop-k-init c = (length-take-le _ _ c.requires.3, refl)

pub loop-k-preserved : goal.loop-k-preserved
loop-k-preserved c =
    let l = c.loop-k in
    let i = l.invariant in (
      simp length-set i.0,
      longer _ l.place-items l.k _ (omega (arith, i.0)) c.distance.ensures i.1,
    )
