-- `by_wide`: the quotient fits, and is the place raised.
use mathlib.Core.Path.{◌≡◌}
use Prim.Native.Nat.{◌-◌}
use native.Mathlib.Omega.{arith}
use Rattle.wide.specs.Value.{value_of}
use Rattle.ramp_motion.specs.Plan.{gain, loss}
use Rattle.ramp_stop.proofs.Bounds.{place-from}
use Rattle.ramp_stop.proofs.place.by_wide.Goals as goal
use Rattle.ramp_stop.proofs.place.by_wide.Goals.{After-difference-place}

left : (c : After-difference-place) → value_of c.difference-place.result ≡ gain c.args.m c.args.t - loss c.args.m c.args.t
left c = omega (arith, c.difference-place.ensures, c.loss_at.ensures, c.gain_at.ensures)

pub returns : goal.returns
returns c =
    place-from _ _ c.requires.0 c.requires.1 _ _ _ (left (goal.at.returns c).After-difference-place) c.from.ensures c.quotient_up.ensures
