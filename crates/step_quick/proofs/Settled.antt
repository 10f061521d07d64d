-- What bounds on the parts of a distance say of it: where they leave one number of millimetres, that is the distance.
use mathlib.Core.Path.{◌≡◌, refl}
use mathlib.Core.List.{[], ◌∷◌}
use Prim.Native.Nat.{ℕ, ◌+◌, ◌*◌, ◌-◌, ◌^◌, ◌/◌, ◌≤◌, ◌<◌}
use native.Mathlib.Omega.{arith}
use native.Mathlib.Nat.{mul-pos, le_antisymm, le_of_mul-le-mul_right, le_trans}
use lib.Dec.{lit<}
use Rattle.exact.specs.Fraction.{◌over◌, raised}
use Rattle.exact.proofs.Polynomial.{num, ◌⊕◌, ◌⊗◌}
use Rattle.exact.proofs.Certificate.{x0, x1, x2, x3, x4, x5, x6, x7, x8, done, times, cert}
use Rattle.exact.proofs.Raised.{raised-over-le}

-- A is the deceleration, M the run, D the square of the speeds, which counts s times: the distance is sum over scale, in mm
module _ (A M s D : ℕ) where
  abbrev sum : ℕ
  sum = 9 * A * M + 50000 * s * D

  abbrev scale : ℕ
  scale = 81 * 10 ^ 20 * A

  -- from below, in µm
  pub at_least : (a low part : ℕ) → 81 * A ≤ (a + 1) * 32000000 → low * (9 * 10 ^ 17) ≤ M → part * (a + 1) * (64 * 10 ^ 18) ≤ s * D → (low + part) * scale ≤ 1000 * sum
  at_least a low part ha hm hp =
      cert (A ∷ M ∷ s ∷ D ∷ a ∷ low ∷ part ∷ [])
      (times (num 9000 ⊗ x0) (x5 ⊗ num (9 * 10 ^ 17)) x1 hm
      (times (num (10 ^ 20) ⊗ x6) (num 81 ⊗ x0) ((x4 ⊕ num 1) ⊗ num 32000000) ha (times (num (5 * 10 ^ 7)) (x6 ⊗ (x4 ⊕ num 1) ⊗ num (64 * 10 ^ 18)) (x2 ⊗ x3) hp done)))
      ((x5 ⊕ x6) ⊗ (num (81 * 10 ^ 20) ⊗ x0)) (num 1000 ⊗ (num 9 ⊗ x0 ⊗ x1 ⊕ num 50000 ⊗ x2 ⊗ x3)) refl

  -- and from above: what n mm leave beside the run is room for the braking part
  pub at_most : (a high most room n : ℕ) → a * 32000000 ≤ 81 * A → M ≤ high * (9 * 10 ^ 17) → s * D ≤ most * (64 * 10 ^ 18) → most ≤ a * room → high + room ≤ 1000 * n → sum ≤ n * scale
  at_most a high most room n ha hm hs h e =
      le_of_mul-le-mul_right {k = 1000}
      (cert (A ∷ M ∷ s ∷ D ∷ a ∷ high ∷ most ∷ room ∷ n ∷ [])
      (times (num 9000 ⊗ x0) x1 (x5 ⊗ num (9 * 10 ^ 17)) hm
      (times (num (5 * 10 ^ 7)) (x2 ⊗ x3) (x6 ⊗ num (64 * 10 ^ 18)) hs
      (times (num (32 * 10 ^ 26)) x6 (x4 ⊗ x7) h
      (times (num (10 ^ 20) ⊗ x7) (x4 ⊗ num 32000000) (num 81 ⊗ x0) ha
      (times (num (81 * 10 ^ 20) ⊗ x0) (x5 ⊕ x7) (num 1000 ⊗ x8) e done)))))
      ((num 9 ⊗ x0 ⊗ x1 ⊕ num 50000 ⊗ x2 ⊗ x3) ⊗ num 1000) (x8 ⊗ (num (81 * 10 ^ 20) ⊗ x0) ⊗ num 1000) refl)
      (lit< tt)

  -- more than n - 1 mm and at most n mm
  pub settled : (um n : ℕ) → 0 < A → um * scale ≤ 1000 * sum → 1000 * n < um + 1000 → sum ≤ n * scale → n ≡ raised (sum over scale)
  settled um n p low near high =
      let d : 0 < scale = mul-pos (lit< tt) p in
      let r = raised (sum over scale) in
      let i : sum ≤ r * scale = (raised-over-le sum scale r d).0 (omega arith) in
      let j : um ≤ 1000 * r = le_of_mul-le-mul_right {k = scale} (thousand _ _ _ i low) d in
      le_antisymm (omega arith) ((raised-over-le sum scale n d).1 high)
    where
      thousand : (x r y : ℕ) → y ≤ r * x → um * x ≤ 1000 * y → um * x ≤ 1000 * r * x
      thousand x r y h k = le_trans k (cert (x ∷ r ∷ y ∷ []) (times (num 1000) x2 (x1 ⊗ x0) h done) (num 1000 ⊗ x2) (num 1000 ⊗ x1 ⊗ x0) refl)

-- what n mm leave beside the run is no longer than a word in what a counts
pub room_fits : (a part low high n : ℕ) → low ≤ high → 1000 * n ≤ low + part + 999 → part * (a + 1) ≤ 9131571127944172710 → a ≤ 6755606550 → a * (1000 * n - high) ≤ 9131577876795116160
room_fits a part low high n h m k i =
    let room = 1000 * n - high in
    let e : a * room ≤ part * (a + 1) + 999 * a = cert (a ∷ part ∷ room ∷ []) (times x0 x2 (x1 ⊕ num 999) (omega arith) done) (x0 ⊗ x2) (x1 ⊗ (x0 ⊕ num 1) ⊕ num 999 ⊗ x0) refl in
    omega (arith, e)

-- in 256 µm the room is enough
pub enough : (most a room : ℕ) → most / 256 < a * (room / 256) → most ≤ a * room
enough most a room h =
    let i : most ≤ most / 256 * 256 + 255 = omega arith in
    let j : most / 256 + 1 ≤ a * (room / 256) = omega arith in
    cert (most ∷ a ∷ room ∷ (most / 256) ∷ (room / 256) ∷ [])
    (times (num 1) x0 (x3 ⊗ num 256 ⊕ num 255) i (times (num 256) (x3 ⊕ num 1) (x1 ⊗ x4) j (times x1 (x4 ⊗ num 256) x2 (omega arith) done)))
    x0 (x1 ⊗ x2) refl
