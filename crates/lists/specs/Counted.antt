-- Lists and rules by a count.
use Rattle.std.specs.Prelude.{Bool, true, ◌&&◌, List, [], ◌∷◌, ◌++◌, ℕ, zero, suc}

-- f 0, f 1, .., n of them
unfoldable pub up_to : {A : Type 0} → (ℕ → A) → ℕ → List A
up_to f zero = []
up_to f (suc n) = up_to f n ++ (f n ∷ [])

-- rule 0, rule 1, .., n of them hold
unfoldable pub every : ℕ → (ℕ → Bool) → Bool
every zero rule = true
every (suc n) rule = every n rule && rule n

-- every rule of a list holds
unfoldable pub all_hold : List Bool → Bool
all_hold [] = true
all_hold (r ∷ rs) = r && all_hold rs
