-- Where the tail is, in the words beside its definition.
use Prim.Native.Nat.{ℕ}
use native.Mathlib.Omega.{arith}
use mathlib.Core.Logic.{inl, inr, ⊎_elim}
use Rattle.lists.proofs.Split.{below}
use Rattle.query_way.specs.Way.{tail_of, Behind}

-- the definition's tail is where the words beside it say
pub tail-behind : (place length : ℕ) → Behind place length (tail_of place length)
tail-behind place length = ⊎_elim (λ h. inr (h, omega arith)) (λ h. inl (omega arith)) (below place length)
