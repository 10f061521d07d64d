-- Equality of fractions is an equivalence, and equals may stand for equals in every operation and order.
use mathlib.Core.Path.{◌≡◌, refl, sym, ap, ◌∙◌}
use mathlib.Core.Bool.{Bool, true, false, not, cond}
use mathlib.Core.List.{List, [], ◌∷◌}
use lib.ListN.{length}
use Prim.Native.Nat.{ℕ, ◌+◌, ◌*◌, ◌-◌, ◌≤◌, ◌<◌, max}
use native.Mathlib.Omega.{arith}
use native.Mathlib.Nat.{mul-pos, le_of_eq, eq_of_mul-eq-mul_left, le_of_mul-le-mul_left, le_of_mul-le-mul_right, mul-lt-mul_of_pos_right, lt_of_mul-lt-mul_left, lt_of_mul-lt-mul_right, sub-pos_iff_lt, sub-zero, zero-mul, add-mul}
use native.Mathlib.Numerals.{add-one}
use lib.Dec.{T, leb→le, le→leb, nleb→lt, T_not}
use Rattle.exact.specs.Fraction.{Fraction, signed, ◌over◌, cross, ◌+q◌, ◌-q◌, ◌*q◌, ◌/q◌, ◌≤q◌, ◌<q◌, ◌≈q◌, leq, maxq}
use Rattle.exact.proofs.Polynomial.{num, ◌⊕◌, ◌⊗◌, eval, normal}
use Rattle.exact.proofs.Certificate.{x0, x1, x2, x3, x4, x5, x6, x7, x8, x9, x11, Facts, done, times, left, right, equal, cert}
use Rattle.exact.proofs.Shape.{Shape, shape, ◌+e◌, ◌*e◌, cross_e, at, alike, A, B, C, D, env}

pub ≈q-refl : {a : Fraction} → 0 < a.over → a ≈q a
≈q-refl l = record { left = l; right = l; equal = refl }

pub ≈q-sym : {a b : Fraction} → a ≈q b → b ≈q a
≈q-sym e = record { left = e.right; right = e.left; equal = sym e.equal }

pub ≈q-trans : {a b c : Fraction} → a ≈q b → b ≈q c → a ≈q c
≈q-trans {a} {b} {c} e f = record {
  left = e.left;
  right = f.right;
  equal = eq_of_mul-eq-mul_left b.over e.right _ _
      (equal (env a b c c) (times x8 (cross_e A B) (cross_e B A) e.equal (times x2 (cross_e B C) (cross_e C B) f.equal done)) (x5 ⊗ cross_e A C) (x5 ⊗ cross_e C A) refl);
}

-- x is f at ρ, and f is g by computation, so x is g at ρ
pub becomes : {x : Fraction} (ρ : List ℕ) (q : Facts ◌≡◌ ρ) (f g : Shape) → x ≈q at ρ f → 0 < eval ρ g.over → normal (length ρ) (cross_e f g ⊕ right q) ≡ normal (length ρ) (cross_e g f ⊕ left q) → x ≈q at ρ g
becomes ρ q f g e l h = ≈q-trans e (alike ρ q f g e.right l h)

-- a choice is c where each of its arms is
pub cond-is : {a b c : Fraction} (s : Bool) → (T s → a ≈q c) → (T (not s) → b ≈q c) → cond s a b ≈q c
cond-is true f g = f tt
cond-is false f g = g tt

module _ {a a' b b' : Fraction} (e : a ≈q a') (f : b ≈q b') where
  pub +q-cong : a +q b ≈q a' +q b'
  +q-cong =
      alike (env a a' b b') (times (x8 ⊗ x11) (cross_e A B) (cross_e B A) e.equal (times (x2 ⊗ x5) (cross_e C D) (cross_e D C) f.equal done))
      (A +e C) (B +e D) (mul-pos e.left f.left) (mul-pos e.right f.right) refl

  pub *q-cong : a *q b ≈q a' *q b'
  *q-cong =
      alike (env a a' b b')
      (times (x6 ⊗ x11) (cross_e A B) (cross_e B A) e.equal (times (x7 ⊗ x11) (cross_e B A) (cross_e A B) (sym e.equal)
      (times (x3 ⊗ x2) (cross_e C D) (cross_e D C) f.equal (times (x4 ⊗ x2) (cross_e D C) (cross_e C D) (sym f.equal) done))))
      (A *e C) (B *e D) (mul-pos e.left f.left) (mul-pos e.right f.right) refl

  pub ≤q-cong : a ≤q b → a' ≤q b'
  ≤q-cong h = le_of_mul-le-mul_left {k = a.over * b.over}
      (cert (env a a' b b')
      (times (x5 ⊗ x11) (cross_e A C) (cross_e C A) h
      (times (x2 ⊗ x5) (cross_e C D) (cross_e D C) (le_of_eq f.equal) (times (x8 ⊗ x11) (cross_e B A) (cross_e A B) (le_of_eq (sym e.equal)) done)))
      (x2 ⊗ x8 ⊗ cross_e B D) (x2 ⊗ x8 ⊗ cross_e D B) refl)
      (mul-pos e.left f.left)

  -- strictly: the same, with the 1 that lies between
  pub <q-cong : a <q b → a' <q b'
  <q-cong h = lt_of_mul-lt-mul_left (a.over * b.over) (
      let c : (a.over * b.over) * cross a' b' + a'.over * b'.over ≤ (a.over * b.over) * cross b' a' =
      cert (env a a' b b')
      (times (x5 ⊗ x11) (cross_e A C ⊕ num 1) (cross_e C A) (rw add-one h)
      (times (x2 ⊗ x5) (cross_e C D) (cross_e D C) (le_of_eq f.equal) (times (x8 ⊗ x11) (cross_e B A) (cross_e A B) (le_of_eq (sym e.equal)) done)))
      (x2 ⊗ x8 ⊗ cross_e B D ⊕ x5 ⊗ x11) (x2 ⊗ x8 ⊗ cross_e D B) refl in
      let l : 0 < a'.over * b'.over = mul-pos e.right f.right in
      omega arith)

pub -q-cong : {a a' b b' : Fraction} → a ≈q a' → b ≈q b' → a -q b ≈q a' -q b'
-q-cong {a} {a'} {b} {b'} e f =
    +q-cong {a = a} {a' = a'} {b = signed b.minus b.plus b.over} {b' = signed b'.minus b'.plus b'.over}
    e (record { left = f.left; right = f.right; equal = omega (arith, f.equal) })

pub maxq-cong : {a a' b b' : Fraction} → a ≈q a' → b ≈q b' → maxq a b ≈q maxq a' b'
maxq-cong {a} {a'} {b} {b'} e f =
    cond-is (leq a b)
    (λ h. ≈q-sym (cond-is (leq a' b') (λ i. ≈q-sym f) (λ i. absurd (T_not (leq a' b') i (le→leb _ _ (≤q-cong e f (leb→le _ _ h)))))))
    (λ h. ≈q-sym (cond-is (leq a' b') (λ i. absurd (T_not (leq a b) h (le→leb _ _ (≤q-cong (≈q-sym e) (≈q-sym f) (leb→le _ _ i))))) (λ i. ≈q-sym e)))

-- of two equal fractions above 0, (q - n) / u and (q' - n') / u', what stands over the line
above : (q n u q' n' u' : ℕ) → 0 < u → 0 < u' → n < q → q * u' + n' * u ≡ q' * u + n * u' → (n' < q') × ((q - n) * u' ≡ (q' - n') * u)
above q n u q' n' u' l l' h e =
    let k : n' < q' = lt_of_mul-lt-mul_right u (omega (arith, mul-lt-mul_of_pos_right h l')) in
    let i : q * u' ≡ n * u' + (q - n) * u' = ap (λ x. x * u') (omega arith) ∙ add-mul n (q - n) u' in
    let j : q' * u ≡ n' * u + (q' - n') * u = ap (λ x. x * u) (omega arith) ∙ add-mul n' (q' - n') u in
    (k, omega arith)

pub /q-cong : {a a' b b' : Fraction} → a ≈q a' → b ≈q b' → b'.minus < b'.plus → a /q b ≈q a' /q b'
/q-cong {a} {a'} {b} {b'} e f h =
    let (k, g) = above b'.plus b'.minus b'.over b.plus b.minus b.over f.right f.left h (sym f.equal) in
    alike (a.plus ∷ a.minus ∷ a.over ∷ a'.plus ∷ a'.minus ∷ a'.over ∷ b.over ∷ (b.plus - b.minus) ∷ b'.over ∷ (b'.plus - b'.minus) ∷ [])
    (times (x6 ⊗ x9) (cross_e A B) (cross_e B A) e.equal (times (x4 ⊗ x2) (x7 ⊗ x8) (x9 ⊗ x6) (sym g) (times (x3 ⊗ x2) (x9 ⊗ x6) (x7 ⊗ x8) g done)))
    (shape (x0 ⊗ x6) (x1 ⊗ x6) (x2 ⊗ x7)) (shape (x3 ⊗ x8) (x4 ⊗ x8) (x5 ⊗ x9))
    (mul-pos e.left (sub-pos_iff_lt.1 k)) (mul-pos e.right (sub-pos_iff_lt.1 h)) refl

pub /q-over : {a b : Fraction} {n d m c : ℕ} → a ≈q n over d → b ≈q m over c → 0 < m → a /q b ≈q (n * c) over (d * m)
/q-over e f h = rw (sub-zero, zero-mul) at (/q-cong e f h)

-- what is not below 0, without its minus
pub net : (p m d : ℕ) → m ≤ p → 0 < d → signed p m d ≈q (p - m) over d
net p m d h l = alike (p ∷ m ∷ (p - m) ∷ d ∷ []) (times x3 x0 (x2 ⊕ x1) (omega arith) done) (shape x0 x1 x3) (shape x2 (num 0) x3) l l refl

-- the larger of two over one number
pub maxq-over : (p m q d : ℕ) → 0 < d → maxq (signed p m d) (q over d) ≈q max (p - m) q over d
maxq-over p m q d l =
    cond-is (leq (signed p m d) (q over d))
    (λ h.
    let i : p ≤ q + m = le_of_mul-le-mul_right (rw (add-mul q m d) (omega (arith, leb→le (p * d + 0 * d) (q * d + m * d) h))) l in
    let j : max (p - m) q ≡ q = omega arith in
    rw j (≈q-refl l))
    (λ h.
    let i : q + m < p = lt_of_mul-lt-mul_right d (rw (add-mul q m d) (omega (arith, nleb→lt (p * d + 0 * d) (q * d + m * d) h))) in
    let j : max (p - m) q ≡ p - m = omega arith in
    rw j (net p m d (omega arith) l))
