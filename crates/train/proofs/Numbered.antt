-- Every refusal has a number above 0.
use Prim.Native.Nat.{◌<◌}
use native.Mathlib.Omega.{arith}
use Rattle.train.specs.declared.refusal.Refusal.{Refusal}
use Rattle.train.specs.Number.{number}

pub numbered : (r : Refusal) → 0 < number r
numbered r = grind arith
