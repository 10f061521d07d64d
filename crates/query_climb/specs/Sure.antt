-- What a climb may know before it asks; nobody has to believe this.
use Rattle.std.specs.Prelude.{◌≡◌, Bool, true, ℕ, ◌≤◌, ◌<◌}

-- every speed above the one, up to the other, fits
pub record Sure (fits : ℕ → Bool) (begin sure : ℕ) : Type 0 where
  pub each : (v : ℕ) → begin < v → v ≤ sure → fits v ≡ true
