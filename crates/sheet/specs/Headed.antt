-- Document 01, "Line sheet": a header that is right, number by number.
use Rattle.std.specs.Prelude.{◌≡◌, List, ℕ, ◌+◌, ◌*◌, ◌≤◌, length}
use Rattle.sheet_line.specs.Bytes.{u16_at, u32_at}

-- the header's offsets and lengths are right
pub record Headed (s : List ℕ) : Type 0 where
  pub room : 20 ≤ length s
  pub stretches : u32_at s 4 ≡ 20
  pub signals : u32_at s 8 ≡ 20 + 6 * u16_at s 0
  pub whole : u32_at s 12 ≡ 20 + 6 * u16_at s 0 + 6 * u16_at s 2
  pub lent : length s ≡ 20 + 6 * u16_at s 0 + 6 * u16_at s 2
