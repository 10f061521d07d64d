-- A lower estimate of a quotient, and when counting up from it has reached the least quotient not below.
use mathlib.Core.Path.{◌≡◌, refl}
use mathlib.Core.List.{[], ◌∷◌}
use Prim.Native.Nat.{ℕ, ◌+◌, ◌*◌, ◌-◌, ◌/◌, ◌≤◌, ◌<◌, ◌^◌}
use native.Mathlib.Omega.{arith}
use native.Mathlib.Nat.{le_trans, le-add_right, add-zero, lt_of_mul-lt-mul_right, le_of_mul-le-mul_right, div-mul-le_self, lt-div-mul-add, div-lt_iff_lt-mul}
use native.Mathlib.Numerals.{add-one}
use lib.Pow.{pow_pos, pow-add, pow_mono}
use lib.Count.{count_leading_zeros, leading_length}
use Rattle.exact.specs.Fraction.{◌over◌, raised}
use Rattle.exact.proofs.Polynomial.{num, ◌⊕◌, ◌⊗◌}
use Rattle.exact.proofs.Certificate.{x0, x1, x2, x3, x4, x5, ring, done, times, cert}
use Rattle.exact.proofs.Raised.{least-raised}
use Rattle.wide.specs.declared.Wide.{Wide}
use Rattle.wide.specs.Value.{value_of, limit}

-- 2^64
abbrev W : ℕ
W = 18446744073709551616

-- without as many bits as stand above 64, a number is a word
pub leading_fits : (n m : ℕ) → n < 2 ^ 128 → m ≤ n → m / 2 ^ (64 - count_leading_zeros 128 n) < W
leading_fits n m h k =
    let l = leading_length 128 n h in
    let s = 64 - count_leading_zeros 128 n in
    let e : 2 ^ l.0 ≤ 2 ^ (64 + s) = pow_mono (omega (arith, l.1)) in
    let w : 2 ^ (64 + s) ≡ W * 2 ^ s = pow-add 2 64 s in
    (div-lt_iff_lt-mul (pow_pos s)).1 (omega (arith, l.2))

-- a quotient of numbers without their lower digits, the divisor one more, is a lower estimate
pub estimate_law : (N D P : ℕ) → 0 < P → (N / P) / (D / P + 1) * (D + 1) ≤ N
estimate_law N D P h =
    let a = N / P in
    let b = D / P in
    let r = a / (b + 1) in
    let i : a * P ≤ N = div-mul-le_self N P in
    let j : D + 1 ≤ b * P + P = rw add-one (lt-div-mul-add h) in
    let k : r * (b + 1) ≤ a = div-mul-le_self a (b + 1) in
    cert (N ∷ D ∷ P ∷ a ∷ b ∷ r ∷ [])
    (times x2 (x5 ⊗ (x4 ⊕ num 1)) x3 k (times x5 (x1 ⊕ num 1) (x4 ⊗ x2 ⊕ x2) j (times (num 1) (x3 ⊗ x2) x0 i done)))
    (x5 ⊗ (x1 ⊕ num 1)) x0 refl

-- the estimate from the upper two words, and from the lower two where those above are 0
module _ (r : ℕ) (n d : Wide) where
  pub upper-two : d.low < W → r * (d.mid + W * d.high + 1) ≤ n.mid + W * n.high → r * value_of d ≤ value_of n
  unfolding value_of
  upper-two h k =
      cert (r ∷ n.low ∷ d.low ∷ (n.mid + W * n.high) ∷ (d.mid + W * d.high) ∷ []) (times x0 x2 (num W) (omega arith) (times (num W) (x0 ⊗ (x4 ⊕ num 1)) x3 k done))
      (x0 ⊗ (x2 ⊕ num W ⊗ x4)) (x1 ⊕ num W ⊗ x3) refl

  pub lower-two : d.high ≡ 0 → r * (d.low + W * d.mid + 1) ≤ n.low + W * n.mid → r * value_of d ≤ value_of n
  unfolding value_of
  lower-two e k =
      rw e
      (cert (r ∷ d.low ∷ d.mid ∷ n.low ∷ n.mid ∷ n.high ∷ []) (times (num 1) (x0 ⊗ (x1 ⊕ num W ⊗ x2 ⊕ num 1)) (x3 ⊕ num W ⊗ x4) k done)
      (x0 ⊗ (x1 ⊕ num W ⊗ (x2 ⊕ num W ⊗ num 0))) (x3 ⊕ num W ⊗ (x4 ⊕ num W ⊗ x5)) refl)

-- and of words the quotient itself
module _ (n d : Wide) (e : d.high ≡ 0) (f : d.mid ≡ 0) where
  pub word-above : 0 < value_of d → 0 < d.low
  unfolding value_of
  word-above h = let k : 0 < d.low + W * (0 + W * 0) = rw (f, e) at h in omega arith

  pub word-quotient : n.low / d.low * value_of d ≤ value_of n
  unfolding value_of
  word-quotient = rw (e, f, add-zero) (le_trans (div-mul-le_self n.low d.low) (le-add_right n.low _))

pub below_limit : (w : Wide) → w.low < W → w.mid < W → w.high < W → value_of w < limit
unfolding value_of limit
below_limit w h i j = omega arith

pub ruleset leading = (upper-two, lower-two, word-above, word-quotient)

-- q times v with a rest of l is N
module _ (N v q l : ℕ) (p : 0 < v) (h : N ≤ 4294967295 * v) (e : l + q * v ≡ N) where
  pub quotient-small : q ≤ 4294967295
  quotient-small = le_of_mul-le-mul_right (let k : q * v ≤ 4294967295 * v = omega arith in k) p

  pub quotient-smaller : 0 < l → q < 4294967295
  quotient-smaller i = lt_of_mul-lt-mul_right v (let k : q * v < 4294967295 * v = omega arith in k)

  pub least_exact : l ≤ 0 → q ≡ raised (N over v)
  least_exact i =
      least-raised (N over v) q (record {
        number = p;
        enough = omega arith;
        least = λ k j. le_of_mul-le-mul_right (let t : q * v ≤ k * v = omega arith in t) p;
      })

  pub least_more : 0 < l → l ≤ v → q + 1 ≡ raised (N over v)
  least_more i j =
      let m : (q + 1) * v ≡ q * v + v = ring (q ∷ v ∷ []) ((x0 ⊕ num 1) ⊗ x1) (x0 ⊗ x1 ⊕ x1) refl in
      least-raised (N over v) (q + 1) (record {
        number = p;
        enough = omega arith;
        least = λ k n. (let u : q < k = lt_of_mul-lt-mul_right v (let t : q * v < k * v = omega arith in t) in omega arith);
      })
