-- The three places of a speed have its three ceilings.
use mathlib.Core.Path.{◌≡◌}
use Prim.Native.Nat.{ℕ, ◌+◌, ◌*◌, ◌/◌, ◌%◌, ◌<◌}
use native.Mathlib.Omega.{arith}
use Rattle.train.specs.Units.{kmh}
use Rattle.ceilings.specs.Ceilings.{ceiling_of}
use Rattle.ceilings_stored.specs.Table.{band_at, entry_at}

pub entry_of : {place : ℕ} (v k : ℕ) → k < 3 → place ≡ 3 * v + k → entry_at place ≡ ceiling_of (band_at k) (kmh v)
unfolding entry_at
entry_of {place} v k h e =
    let speed : place / 3 ≡ v = omega arith in
    let band : place % 3 ≡ k = omega arith in
    rw (speed, band)
