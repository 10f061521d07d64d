-- The sheet's bytes of a number are the library's.
use mathlib.Core.Path.{◌≡◌, refl, ap}
use mathlib.Core.List.{[], ◌∷◌}
use Prim.Native.Nat.{ℕ, ◌/◌, ◌%◌, ◌^◌, ◌<◌}
use native.Mathlib.Omega.{arith}
use mir.Syntax.{w16, w32}
use Rattle.std.specs.Int.{to_le_bytes}
use Rattle.sheet_line.specs.Bytes.{bytes2, bytes4}

pub low_two : (x : ℕ) → x < 65536 → to_le_bytes w16 x ≡ bytes2 x
unfolding bytes2
low_two x h = let e : x / 256 % 256 ≡ x / 256 = omega arith in ap (λ (y : ℕ). x % 256 ∷ y ∷ []) e

pub low_four : (x : ℕ) → x < 2 ^ 32 → to_le_bytes w32 x ≡ bytes4 x
unfolding bytes2 bytes4
low_four x h =
    let a : x % 256 ≡ x % 65536 % 256 = omega arith in
    let b : x / 256 % 256 ≡ x % 65536 / 256 = omega arith in
    let c : x / 65536 % 256 ≡ x / 65536 % 256 = refl in
    let d : x / 16777216 % 256 ≡ x / 65536 / 256 = omega arith in
    rw (a, b, d) refl
