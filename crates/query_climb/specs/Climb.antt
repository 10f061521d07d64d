-- Document 01, "Approach": a climb over whole speeds.
use Rattle.std.specs.Prelude.{Bool, cond, ℕ, zero, suc}

-- from v, n speeds further at most: the last speed before the first that does not fit, or the last of the climb if none does
unfoldable pub climb : (ℕ → Bool) → ℕ → ℕ → ℕ
climb fits v zero = v
climb fits v (suc n) = cond (fits (suc v)) (climb fits (suc v) n) v
