-- The order is that of the rational numbers: whole numbers keep theirs, and it goes along with sums, products and the larger of two.
use mathlib.Core.Path.{◌≡◌, refl, sym}
use mathlib.Core.Bool.{Bool, true, false, not, cond}
use mathlib.Core.Logic.{◌↔◌}
use mathlib.Core.List.{[], ◌∷◌}
use Prim.Native.Nat.{ℕ, ◌+◌, ◌*◌, ◌-◌, ◌≤◌, ◌<◌}
use native.Mathlib.Omega.{arith}
use native.Mathlib.Nat.{le_refl, le_of_lt, le_antisymm, le_of_mul-le-mul_left, lt_of_mul-lt-mul_left}
use native.Mathlib.Numerals.{add-one}
use borrow.Author.Tests.{le-leb, lt-leb}
use lib.Dec.{T, leb, leb→le, nleb→lt}
use Rattle.exact.specs.Fraction.{Fraction, whole, cross, ◌+q◌, ◌*q◌, ◌≤q◌, ◌<q◌, ◌≈q◌, leq, maxq}
use Rattle.exact.proofs.Polynomial.{num, ◌⊕◌, ◌⊗◌}
use Rattle.exact.proofs.Certificate.{x2, x5, x6, x7, x8, x9, done, times, cert}
use Rattle.exact.proofs.Shape.{◌+e◌, ◌*e◌, cross_e, A, B, C, env}

pub whole-≤ : (n m : ℕ) → (n ≤ m) ↔ (whole n ≤q whole m)
whole-≤ n m = ((λ h. omega arith), (λ h. omega arith))

-- two tests agree where the orders do
pub leb-agree : (m n m' n' : ℕ) → (m ≤ n → m' ≤ n') → (n < m → n' < m') → leb m n ≡ leb m' n'
leb-agree m n m' n' f g = go (leb m n) (λ h. f (leb→le m n h)) (λ h. g (nleb→lt m n h))
  where
    go : (s : Bool) → (T s → m' ≤ n') → (T (not s) → n' < m') → s ≡ leb m' n'
    go true h k = sym (le-leb m' n' (h tt))
    go false h k = sym (lt-leb m' n' (k tt))

-- the test: one of the two holds
pub leq-true : (a b : Fraction) → T (leq a b) → a ≤q b
leq-true a b h = leb→le (cross a b) (cross b a) h

pub leq-false : (a b : Fraction) → T (not (leq a b)) → b <q a
leq-false a b h = nleb→lt (cross a b) (cross b a) h

-- and never both
pub not-both : (a b : Fraction) → a ≤q b → b <q a → ⊥
not-both a b h k = omega arith

-- the larger of two is at least each of them, and is one of them by its definition
pub maxq-left : (a b : Fraction) → a ≤q maxq a b
maxq-left a b = go (leq a b) (leq-true a b)
  where
    go : (s : Bool) → (T s → a ≤q b) → a ≤q cond s b a
    go true h = h tt
    go false h = le_refl _

pub maxq-right : (a b : Fraction) → b ≤q maxq a b
maxq-right a b = go (leq a b) (leq-false a b)
  where
    go : (s : Bool) → (T (not s) → b <q a) → b ≤q cond s b a
    go true h = le_refl _
    go false h = le_of_lt (h tt)

module _ (a b c : Fraction) (m : 0 < b.over) where
  pub ≤q-trans : a ≤q b → b ≤q c → a ≤q c
  ≤q-trans h k =
      le_of_mul-le-mul_left {k = b.over} (cert (env a b c c) (times x8 (cross_e A B) (cross_e B A) h (times x2 (cross_e B C) (cross_e C B) k done)) (x5 ⊗ cross_e A C) (x5 ⊗ cross_e C A) refl) m

  pub ≤q-<q-trans : 0 < a.over → a ≤q b → b <q c → a <q c
  ≤q-<q-trans l h k = lt_of_mul-lt-mul_left b.over (
      let d : b.over * cross a c + a.over ≤ b.over * cross c a =
      cert (env a b c c) (times x8 (cross_e A B) (cross_e B A) h (times x2 (cross_e B C ⊕ num 1) (cross_e C B) (rw add-one k) done)) (x5 ⊗ cross_e A C ⊕ x2) (x5 ⊗ cross_e C A) refl in
      omega arith)

pub ≤q-antisym : (a b : Fraction) → 0 < a.over → 0 < b.over → a ≤q b → b ≤q a → a ≈q b
≤q-antisym a b l m h k = record { left = l; right = m; equal = le_antisymm h k }

module _ (a b c : Fraction) where
  pub +q-mono : a ≤q b → a +q c ≤q b +q c
  +q-mono h = cert (env a b c c) (times (x8 ⊗ x8) (cross_e A B) (cross_e B A) h done) (cross_e (A +e C) (B +e C)) (cross_e (B +e C) (A +e C)) refl

  pub *q-mono : whole 0 ≤q c → a ≤q b → a *q c ≤q b *q c
  *q-mono i h = go (c.plus - c.minus) (omega arith) (omega arith)
    where
      -- c of 0 or more is more than its minus by some k
      go : (k : ℕ) → c.plus ≤ c.minus + k → c.minus + k ≤ c.plus → a *q c ≤q b *q c
      go k e f =
          cert (a.plus ∷ a.minus ∷ a.over ∷ b.plus ∷ b.minus ∷ b.over ∷ c.plus ∷ c.minus ∷ c.over ∷ k ∷ [])
          (times (x8 ⊗ x9) (cross_e A B) (cross_e B A) h (times (x8 ⊗ cross_e A B) x6 (x7 ⊕ x9) e (times (x8 ⊗ cross_e B A) (x7 ⊕ x9) x6 f done)))
          (cross_e (A *e C) (B *e C)) (cross_e (B *e C) (A *e C)) refl

  -- the same on the left
  pub *q-mono-left : whole 0 ≤q c → a ≤q b → c *q a ≤q c *q b
  *q-mono-left i h =
      cert (env a b c c) (times (num 1) (cross_e (A *e C) (B *e C)) (cross_e (B *e C) (A *e C)) (*q-mono i h) done)
      (cross_e (C *e A) (C *e B)) (cross_e (C *e B) (C *e A)) refl
