-- What is not below 0: its sums, products and quotients are not either, and adding it makes nothing less.
use mathlib.Core.Path.{refl}
use mathlib.Core.List.{[], ◌∷◌}
use Prim.Native.Nat.{ℕ, ◌+◌, ◌*◌, ◌-◌, ◌≤◌}
use native.Mathlib.Omega.{arith}
use native.Mathlib.Nat.{mul-le-mul_right}
use Rattle.exact.specs.Fraction.{Fraction, whole, ◌over◌, ◌+q◌, ◌-q◌, ◌*q◌, ◌/q◌, ◌≤q◌}
use Rattle.exact.proofs.Polynomial.{num, ◌⊕◌, ◌⊗◌}
use Rattle.exact.proofs.Certificate.{x0, x1, x2, x3, x4, x5, x6, done, times, cert}
use Rattle.exact.proofs.Shape.{Shape, whole_e, ◌+e◌, ◌-e◌, ◌*e◌, cross_e, A, B, env}

abbrev zero_e : Shape
zero_e = whole_e (num 0)

pub over-from-0 : (n d : ℕ) → whole 0 ≤q n over d
over-from-0 n d = omega arith

module _ (a b : Fraction) where
  pub adds : whole 0 ≤q b → a ≤q a +q b
  adds h = cert (env a b b b) (times (x2 ⊗ x2) (cross_e zero_e B) (cross_e B zero_e) h done) (cross_e A (A +e B)) (cross_e (A +e B) A) refl

  pub +q-from-0 : whole 0 ≤q a → whole 0 ≤q b → whole 0 ≤q a +q b
  +q-from-0 h i =
      cert (env a b b b) (times x5 (cross_e zero_e A) (cross_e A zero_e) h (times x2 (cross_e zero_e B) (cross_e B zero_e) i done))
      (cross_e zero_e (A +e B)) (cross_e (A +e B) zero_e) refl

  pub -q-from-0 : a ≤q b → whole 0 ≤q b -q a
  -q-from-0 h = cert (env a b b b) (times (num 1) (cross_e A B) (cross_e B A) h done) (cross_e zero_e (B -e A)) (cross_e (B -e A) zero_e) refl

  pub *q-from-0 : whole 0 ≤q a → whole 0 ≤q b → whole 0 ≤q a *q b
  *q-from-0 h i = go (a.plus - a.minus) (omega arith) (omega arith)
    where
      -- a is more than its minus by some k
      go : (k : ℕ) → a.plus ≤ a.minus + k → a.minus + k ≤ a.plus → whole 0 ≤q a *q b
      go k e f =
          cert (a.plus ∷ a.minus ∷ a.over ∷ b.plus ∷ b.minus ∷ b.over ∷ k ∷ [])
          (times x6 (cross_e zero_e B) (cross_e B zero_e) i (times x4 x0 (x1 ⊕ x6) e (times x3 (x1 ⊕ x6) x0 f done)))
          (cross_e zero_e (A *e B)) (cross_e (A *e B) zero_e) refl

  pub /q-from-0 : whole 0 ≤q a → whole 0 ≤q a /q b
  /q-from-0 h = let k : a.minus * b.over ≤ a.plus * b.over = mul-le-mul_right b.over (omega arith) in omega arith

-- squares rise with their roots: b² - a² is (b - a) · (b + a)
pub squares : (a b : Fraction) → whole 0 ≤q a → whole 0 ≤q b → a ≤q b → a *q a ≤q b *q b
squares a b h k i =
    cert (env a b b b)
    (times (num 1) (cross_e zero_e ((B -e A) *e (B +e A))) (cross_e ((B -e A) *e (B +e A)) zero_e) (*q-from-0 (b -q a) (b +q a) (-q-from-0 a b i) (+q-from-0 b a k h)) done)
    (cross_e (A *e A) (B *e B)) (cross_e (B *e B) (A *e A)) refl
