-- `fits`: both sides fit 192 bits.
use native.Mathlib.Omega.{arith}
use Rattle.step_curve.proofs.Bounds.{room_fits}
use Rattle.step_curve.proofs.fits.Goals as goal

pub times-requires : goal.times-requires
times-requires c = rw c.requires.1.scale (room_fits c.args.m.a _ c.requires.1.a (omega arith))
