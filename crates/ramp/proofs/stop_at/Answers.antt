-- `stop_at`: at the moment that the search finds the train has not gone back.
use native.Mathlib.Omega.{arith}
use Rattle.ramp_motion.proofs.Furthest.{ahead}
use Rattle.ramp.proofs.stop_at.Goals as goal

pub place_up-mm-requires : goal.place_up-mm-requires
place_up-mm-requires c =
    let h = c.last_forward-t.ensures in
    (c.requires.0, omega (arith, h.early), ahead _ _ h.still)
