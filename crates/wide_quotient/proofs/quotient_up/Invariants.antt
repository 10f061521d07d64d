-- `quotient_up`: what is left and q times d stay n together, so where no d is left over, q or one more is the least.
use mathlib.Core.Path.{◌≡◌}
use Prim.Native.Nat.{◌+◌, ◌*◌}
use Rattle.wide.specs.Value.{value_of}
use Rattle.wide_quotient.proofs.quotient_up.Given as goal

abbrev pub invariant-loop-d : goal.invariant-loop-d
invariant-loop-d l = value_of l.left + l.q * value_of l.d ≡ value_of l.fn.n

abbrev pub decreases-loop-d : goal.decreases-loop-d
decreases-loop-d l = value_of l.left
