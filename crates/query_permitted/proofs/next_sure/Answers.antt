-- `next_sure`: what the test shows is each speed's fit.
use Prim.Native.Nat.{◌+◌}
use native.Mathlib.Omega.{arith}
use Rattle.query_permitted.proofs.Surely.{sure-of}
use Rattle.query_permitted.proofs.next_sure.Goals as goal

pub returns-then-stride-end : goal.returns-then-stride-end
returns-then-stride-end c = λ e. let a = c.args in (sure-of a.c a.v0.0 a.low (a.low + a.stride) a.d.0 (c.surely_fit.ensures e), omega (arith, c.requires.2))
