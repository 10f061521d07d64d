-- The bounds of one pair of speeds hold, and each is a word long.
use mathlib.Core.Path.{refl}
use mathlib.Core.List.{[], ◌∷◌}
use Prim.Native.Nat.{ℕ, ◌+◌, ◌*◌, ◌-◌, ◌^◌, ◌/◌, ◌≤◌}
use native.Mathlib.Omega.{arith}
use native.Mathlib.Nat.{le_refl, le_trans, mul-le-mul, div-mul-le_self, div-le_of_le-mul}
use Rattle.exact.proofs.Polynomial.{num, ◌⊗◌}
use Rattle.exact.proofs.Certificate.{x0, x1, x2, x3, x4, x5, done, times, cert}
use Rattle.step_braking.specs.Plan.{v9, a_most, beta_most}
use Rattle.step_curve.specs.Plan.{square_of}

-- p and q are the speeds' difference and sum, in 10⁹ they are u and w, whose product is k in 64
module _ (p q u w k s : ℕ) where
  low-square : u * 10 ^ 9 ≤ p → w * 10 ^ 9 ≤ q → k * 64 ≤ u * w → k * s * (64 * 10 ^ 18) ≤ s * (p * q)
  low-square hu hw hk =
      cert (p ∷ q ∷ u ∷ w ∷ k ∷ s ∷ [])
      (times (num (10 ^ 18) ⊗ x5) (x4 ⊗ num 64) (x2 ⊗ x3) hk (times (x5 ⊗ x2 ⊗ num (10 ^ 9)) (x3 ⊗ num (10 ^ 9)) x1 hw (times (x5 ⊗ x1) (x2 ⊗ num (10 ^ 9)) x0 hu done)))
      (x4 ⊗ x5 ⊗ num (64 * 10 ^ 18)) (x5 ⊗ (x0 ⊗ x1)) refl

  high-square : p ≤ u * 10 ^ 9 → q ≤ w * 10 ^ 9 → u * w ≤ k * 64 → s * (p * q) ≤ k * s * (64 * 10 ^ 18)
  high-square hu hw hk =
      cert (p ∷ q ∷ u ∷ w ∷ k ∷ s ∷ [])
      (times (x5 ⊗ x1) x0 (x2 ⊗ num (10 ^ 9)) hu (times (x5 ⊗ x2 ⊗ num (10 ^ 9)) x1 (x3 ⊗ num (10 ^ 9)) hw (times (num (10 ^ 18) ⊗ x5) (x2 ⊗ x3) (x4 ⊗ num 64) hk done)))
      (x5 ⊗ (x0 ⊗ x1)) (x4 ⊗ x5 ⊗ num (64 * 10 ^ 18)) refl

-- from b, which is Vβ, and from V0
module _ (b v0 : ℕ) where
  abbrev low : ℕ
  low = b / 1000000000

  abbrev target : ℕ
  target = 2500000 * v0

  abbrev below : ℕ
  below = (low - target) * (low + target)

  abbrev above : ℕ
  above = (low + 1 - target) * (low + 1 + target)

  -- how long the numbers are, s being the greater of V and 1
  pub record Long (s : ℕ) : Type 0 where
    pub ahead : target ≤ low
    pub beta-most : low ≤ 980743560
    pub target-most : target ≤ 825000000
    pub below-most : below ≤ 1770971370267960721
    pub above_most : above ≤ 1770971370267960721
    pub least-most : below / 64 * s ≤ 9131571127944172710
    pub most-most : (above / 64 + 1) * s ≤ 9131571127944172710

module _ (b v0 s : ℕ) (hb : b ≤ beta_most) (ahead : v9 v0 ≤ b) (slow : v0 ≤ 330) (hs : s ≤ 330) where
  pub long : Long b v0 s
  unfolding v9
  long =
      let t : 2500000 * v0 ≤ b / 1000000000 = omega (arith, ahead) in
      let i : below b v0 ≤ 1770971370267960721 = mul-le-mul {n₂ = 980743561} {m₂ = 1805743561} (omega arith) (omega arith) in
      let j : above b v0 ≤ 1770971370267960721 = mul-le-mul {n₂ = 980743561} {m₂ = 1805743561} (omega arith) (omega arith) in
      record {
        ahead = t;
        beta-most = omega arith;
        target-most = omega arith;
        below-most = i;
        above_most = j;
        least-most = mul-le-mul {n₂ = 27671427660436887} {m₂ = 330} (omega arith) hs;
        most-most = mul-le-mul {n₂ = 27671427660436887} {m₂ = 330} (omega arith) hs;
      }

  square-least : below b v0 / 64 * s * (64 * 10 ^ 18) ≤ s * square_of b (v9 v0)
  unfolding v9 square_of
  square-least =
      let t = long.ahead in
      low-square (b - v0 * (25 * 10 ^ 14)) (b + v0 * (25 * 10 ^ 14)) (low b v0 - target b v0) (low b v0 + target b v0) (below b v0 / 64) s (omega arith) (omega arith) (omega arith)

  pub square-most : s * square_of b (v9 v0) ≤ (above b v0 / 64 + 1) * s * (64 * 10 ^ 18)
  unfolding v9 square_of
  square-most =
      let t = long.ahead in
      high-square (b - v0 * (25 * 10 ^ 14)) (b + v0 * (25 * 10 ^ 14)) (low b v0 + 1 - target b v0) (low b v0 + 1 + target b v0) (above b v0 / 64 + 1) s (omega arith) (omega arith) (omega arith)

  -- over the deceleration, which is 0.05 m/s² or more
  module _ (A a : ℕ) (e : 50000000000 * s ≤ A) (h : 81 * A ≤ (a + 1) * 32000000) where
    abbrev part : ℕ
    part = below b v0 / 64 * s / (a + 1)

    part-less : part * (a + 1) ≤ below b v0 / 64 * s
    part-less = div-mul-le_self (below b v0 / 64 * s) (a + 1)

    pub part-below : part * (a + 1) * (64 * 10 ^ 18) ≤ s * square_of b (v9 v0)
    part-below = le_trans (mul-le-mul part-less (le_refl (64 * 10 ^ 18))) square-least

    pub part-fits : part * (a + 1) ≤ 9131571127944172710
    part-fits = le_trans part-less long.least-most

    -- it has 32 bits in mm
    pub part-most : part ≤ 218638440774
    part-most =
        let j : below b v0 / 64 * s ≤ 27671427660436887 * s = mul-le-mul {n₂ = 27671427660436887} {m₂ = s} (omega (arith, long.below-most)) (le_refl s) in
        let i : below b v0 / 64 * s ≤ (a + 1) * 218638440774 = omega (arith, j, e, h) in
        div-le_of_le-mul (a + 1) i

-- the deceleration, counted in 32·10⁶ / 81
pub counted : (A : ℕ) → A ≤ a_most → (81 * A / 32000000 ≤ 6755606550) × ((81 * A / 32000000 * 32000000 ≤ 81 * A) × (81 * A ≤ (81 * A / 32000000 + 1) * 32000000))
counted A h = omega arith
