-- Document 02, Card 6: "three numbers for each permitted speed of 0 to 330, stored as constants". What the table keeps; what is
-- answered is promised without it.
use Rattle.std.specs.Prelude.{◌≡◌, cond, List, ℕ, ◌/◌, ◌%◌, ◌<◌, eqb, length, get_or}
use Rattle.train.specs.Units.{kmh}
use Rattle.ceilings.specs.declared.Band.{Band}
use Rattle.ceilings.specs.declared.Ceiling.{Ceiling}
use Rattle.ceilings.specs.Ceilings.{w, sbi, ebi, ceiling_of}

-- of a speed's three places the first has W, the second SBI, the third EBI
abbrev pub band_at : ℕ → Band
band_at k = cond (eqb k 0) w (cond (eqb k 1) sbi ebi)

-- the table's rule: what stands at a place, three for each speed from 0 on
unfoldable pub entry_at : ℕ → Ceiling
entry_at place = ceiling_of (band_at (place % 3)) (kmh (place / 3))

-- a table that keeps the rule at each of its places
pub record Ruled (table : List ℕ) : Type 0 where
  pub entry : (place : ℕ) → place < length table → get_or table place 0 ≡ (entry_at place).0
