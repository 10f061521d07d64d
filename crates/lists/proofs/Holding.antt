-- Rules that all hold, taken apart and put together.
use mathlib.Core.Path.{◌≡◌, refl, sym, subst}
use mathlib.Core.Bool.{Bool, true, false, ◌&&◌}
use mathlib.Core.Logic.{⊎_elim}
use mathlib.Core.List.{List, [], ◌∷◌}
use Prim.Native.Nat.{ℕ, zero, suc, ◌<◌}
use native.Mathlib.Omega.{arith}
use lib.Dec.{T}
use Rattle.lists.proofs.Split.{earlier}
use Rattle.lists.specs.Counted.{every, all_hold}

pub no : {A : Type 0} → false ≡ true → A
no e = absurd (subst T (sym e) tt)

pub and_left : (a b : Bool) → a && b ≡ true → a ≡ true
and_left true b h = refl
and_left false b h = h

pub and_right : (a b : Bool) → a && b ≡ true → b ≡ true
and_right true b h = h
and_right false b h = no h

-- what cannot be true is false
pub refuted : (b : Bool) → (b ≡ true → ⊥) → b ≡ false
refuted true h = absurd (h refl)
refuted false h = refl

pub every-at : (n : ℕ) (rule : ℕ → Bool) → every n rule ≡ true → (k : ℕ) → k < n → rule k ≡ true
unfolding every
every-at zero rule e k h = absurd (let z : k < 0 = h in omega arith)
every-at (suc n) rule e k h = ⊎_elim (λ l. every-at n rule (and_left _ _ e) k l) (λ j. rw j (and_right (every n rule) (rule n) e)) (earlier k n h)

pub every_of : (n : ℕ) (rule : ℕ → Bool) → ((k : ℕ) → k < n → rule k ≡ true) → every n rule ≡ true
unfolding every
every_of zero rule h = refl
every_of (suc n) rule h = rw (every_of n rule (λ k l. h k (omega arith)), h n (omega arith))

-- where not every rule holds, one does not
pub every-not : (n : ℕ) (rule : ℕ → Bool) → every n rule ≡ false → (k : ℕ) × ((k < n) × (rule k ≡ false))
unfolding every
every-not zero rule e = no (sym e)
every-not (suc n) rule e = go (every n rule) (rule n) refl refl e (λ h. every-not n rule h)
  where
    go : (a b : Bool) → every n rule ≡ a → rule n ≡ b → a && b ≡ false → (every n rule ≡ false → (k : ℕ) × ((k < n) × (rule k ≡ false))) → (k : ℕ) × ((k < suc n) × (rule k ≡ false))
    go false b h f e ih = let (k, (l, r)) = ih h in (k, (omega arith, r))
    go true false h f e ih = (n, (omega arith, f))
    go true true h f e ih = no (sym e)

-- each rule of a list is true
abbrev pub EachHolds : List Bool → Type 0
EachHolds [] = Unit
EachHolds (r ∷ rs) = (r ≡ true) × EachHolds rs

pub each_of : (rs : List Bool) → all_hold rs ≡ true → EachHolds rs
unfolding all_hold
each_of [] h = tt
each_of (r ∷ rs) h = (and_left _ _ h, each_of rs (and_right r (all_hold rs) h))

pub all_of : (rs : List Bool) → EachHolds rs → all_hold rs ≡ true
unfolding all_hold
all_of [] h = refl
all_of (r ∷ rs) h = rw (h.0, all_of rs h.1)
