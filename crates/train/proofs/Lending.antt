-- The first demand of a refusal with zeros, and of an answer that writes to nothing.
use mathlib.Core.Path.{refl}
use mathlib.Core.List.{List}
use Prim.Native.Nat.{ℕ, ◌<◌}
use native.Mathlib.Omega.{arith}
use Rattle.train.specs.Lent.{Zeros, FirstDemand}

pub refused-demand : (n : ℕ) (others lent : List ℕ) → Zeros others → FirstDemand n others lent lent 0
refused-demand n others lent z = record { zeros = λ l. z; untouched = λ l. refl; room = omega arith; size = refl; beyond = refl }

pub given-demand : (others lent : List ℕ) → FirstDemand 0 others lent lent 0
given-demand others lent = record { zeros = λ l. absurd (let i : 0 < 0 = l in omega arith); untouched = λ l. refl; room = omega arith; size = refl; beyond = refl }
