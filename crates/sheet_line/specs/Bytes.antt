-- Document 01, "Line sheet": numbers in bytes, little-endian, and two's complement of 16 bits.
use Rattle.std.specs.Prelude.{cond, List, [], ◌∷◌, ◌++◌, ℕ, ◌+◌, ◌-◌, ◌*◌, ◌/◌, ◌%◌, ltb, ℤ, pos, negsuc, get_or}

-- the number of two and of four bytes from place i on
unfoldable pub u16_at : List ℕ → ℕ → ℕ
u16_at s i = get_or s i 0 + 256 * get_or s (i + 1) 0

unfoldable pub u32_at : List ℕ → ℕ → ℕ
u32_at s i = u16_at s i + 65536 * u16_at s (i + 2)

-- a number as two and as four bytes
unfoldable pub bytes2 : ℕ → List ℕ
bytes2 x = x % 256 ∷ x / 256 ∷ []

unfoldable pub bytes4 : ℕ → List ℕ
bytes4 x = bytes2 (x % 65536) ++ bytes2 (x / 65536)

-- two's complement: from 32,768 on, x stands for x - 65,536; negsuc n is -(n + 1)
unfoldable pub signed : ℕ → ℤ
signed x = cond (ltb x 32768) (pos x) (negsuc (65535 - x))

unfoldable pub complement : ℤ → ℕ
complement (pos n) = n
complement (negsuc n) = 65535 - n
