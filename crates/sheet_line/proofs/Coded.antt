-- Document 01, "Line sheet": gradients in their two bytes, least significant first and in two's complement, by the definitions.
use mathlib.Core.Path.{◌≡◌, refl}
use mathlib.Core.List.{List, [], ◌∷◌}
use Prim.Native.Nat.{ℕ, ◌+◌, ◌-◌, ◌*◌, ◌≤◌, ◌<◌}
use native.Mathlib.Omega.{arith}
use Rattle.sheet_line.proofs.Complement.{signed_up, signed-down}
use lib.IntN.{ℤ, pos, negsuc}
use Rattle.sheet_line.specs.Bytes.{u16_at, bytes2, signed, complement}

-- the bytes are read as the number, and it is written as they are
abbrev Coded : List ℕ → ℤ → Type 0
Coded bytes z = (signed (u16_at bytes 0) ≡ z) × (bytes2 (complement z) ≡ bytes)

-- FF FF is -1, DD FF is -35, 23 00 is 35
pub coded : Coded (255 ∷ 255 ∷ []) (negsuc 0) × (Coded (221 ∷ 255 ∷ []) (negsuc 34) × Coded (35 ∷ 0 ∷ []) (pos 35))
unfolding signed complement u16_at bytes2
coded = ((refl, refl), ((refl, refl), (refl, refl)))

-- and every pair of bytes: below 80 in the second the number itself, else 65,536 less
pub each-coded : (low high : ℕ) → low < 256 → high < 256 → (high < 128 → signed (low + 256 * high) ≡ pos (low + 256 * high)) × (128 ≤ high → signed (low + 256 * high) ≡ negsuc (65535 - (low + 256 * high)))
each-coded low high a b = ((λ h. signed_up _ (omega arith)), (λ h. signed-down _ (omega arith)))
