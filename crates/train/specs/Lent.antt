-- The desk's first demand, one notion for all calls.
use Rattle.std.specs.Prelude.{◌≡◌, List, [], ◌∷◌, ℕ, ◌≤◌, ◌<◌, length, drop}

abbrev pub Zeros : List ℕ → Type 0
Zeros [] = Unit
Zeros (x ∷ xs) = (x ≡ 0) × Zeros xs

-- An answer's refusal, its other fields, what was lent, the same afterwards, and how much of it the answer names as written:
-- on a refusal every other field is 0 and what was lent is as it was; beyond what is named it is so in any case.
pub record FirstDemand (refusal : ℕ) (others : List ℕ) (lent after : List ℕ) (named : ℕ) : Type 0 where
  pub zeros : 0 < refusal → Zeros others
  pub untouched : 0 < refusal → after ≡ lent
  pub room : named ≤ length lent
  pub size : length after ≡ length lent
  pub beyond : drop named after ≡ drop named lent

-- of a call that is lent nothing
abbrev pub NoneLent : ℕ → List ℕ → Type 0
NoneLent refusal others = FirstDemand refusal others [] [] 0
