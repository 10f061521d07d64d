-- `loss_at`: both products and their sum fit up to the longest time.
use mathlib.Core.Path.{◌≡◌}
use Prim.Native.Nat.{◌+◌}
use Rattle.wide.specs.Value.{value_of}
use Rattle.ramp_motion.specs.Plan.{loss}
use Rattle.ramp_stop.proofs.Bounds.{loss-fits}
use Rattle.ramp_stop.proofs.place.loss_at.Goals as goal
use Rattle.ramp_stop.proofs.place.loss_at.Goals.{After-product-brake}

loss-is : (c : After-product-brake) → value_of c.product-slope.result + value_of c.product-brake.result ≡ loss c.args.m c.args.t
loss-is c =
    rw (c.product-slope.ensures, c.product-brake.ensures, c.cubes_at.ensures)

pub sum-requires : goal.sum-requires
sum-requires c = rw (loss-is (goal.at.sum-requires c).After-product-brake) (loss-fits _ _ c.requires.0 c.requires.1)
