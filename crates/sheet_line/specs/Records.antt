-- Document 01, "Line sheet": the rules of a table of records, one record at a time, as numbers.
use Rattle.std.specs.Prelude.{◌≡◌, Bool, true, false, ℕ, zero, suc, ◌+◌, ◌≤◌, ◌<◌}
use Rattle.train.specs.Gradient.{gradient_of, Moderate}
use Rattle.sheet_line.specs.declared.Table.{Table}
use Rattle.sheet_line.specs.declared.Table.TheVariants.{Stretches, Signals}
use Rattle.sheet_line.specs.Bytes.{signed}

-- b says whether P holds
pub record Decides (b : Bool) (P : Type 0) : Type 0 where
  pub yes : b ≡ true → P
  pub no : b ≡ false → P → ⊥

-- 1 to 512 stretches, at most 64 signals, a line end of 1 to 500,000
pub record Counts (n m end : ℕ) : Type 0 where
  pub some : 1 ≤ n
  pub stretches : n ≤ 512
  pub signals : m ≤ 64
  pub begins : 1 ≤ end
  pub ends : end ≤ 500000

-- what a record of x metres and the two bytes y keeps by itself
abbrev pub KeepsItself : Table → ℕ → ℕ → ℕ → Type 0
KeepsItself Stretches end x y = (x < end) × Moderate (gradient_of (signed y))
KeepsItself Signals end x y = (x < end) × (x + y ≤ end)

-- the first n rise strictly, and each keeps its rule
pub record Along (x : ℕ → ℕ) (Rule : ℕ → Type 0) (n : ℕ) : Type 0 where
  pub rising : (k : ℕ) → suc k < n → x k < x (suc k)
  pub each : (k : ℕ) → k < n → Rule k

-- the least that the k-th may be
unfoldable pub lowest : (ℕ → ℕ) → ℕ → ℕ
lowest x zero = 0
lowest x (suc k) = suc (x k)
