-- The operations are those of the rational numbers: the laws of a field, and whole numbers in it.
use mathlib.Core.Path.{refl}
use mathlib.Core.List.{List, [], ◌∷◌}
use Prim.Native.Nat.{ℕ, ◌+◌, ◌*◌, ◌-◌, ◌<◌}
use native.Mathlib.Omega.{arith}
use native.Mathlib.Nat.{mul-pos, sub-pos_iff_lt}
use lib.Dec.{lit<}
use Rattle.exact.specs.Fraction.{Fraction, whole, ◌+q◌, ◌-q◌, ◌*q◌, ◌/q◌, ◌≈q◌}
use Rattle.exact.proofs.Polynomial.{num, ◌⊕◌, ◌⊗◌}
use Rattle.exact.proofs.Certificate.{x0, x1, x2, x3, x4, x5, x6, done, times}
use Rattle.exact.proofs.Shape.{shape, whole_e, ◌+e◌, ◌-e◌, ◌*e◌, alike, A, B, C, env}

module _ (a b c : Fraction) (l : 0 < a.over) (m : 0 < b.over) (n : 0 < c.over) where
  abbrev ρ : List ℕ
  ρ = env a b c c

  abbrev lm : 0 < a.over * b.over
  lm = mul-pos l m

  pub +q-comm : a +q b ≈q b +q a
  +q-comm = alike ρ done (A +e B) (B +e A) lm (mul-pos m l) refl

  pub +q-assoc : a +q b +q c ≈q a +q (b +q c)
  +q-assoc = alike ρ done (A +e B +e C) (A +e (B +e C)) (mul-pos lm n) (mul-pos l (mul-pos m n)) refl

  pub +q-zero : a +q whole 0 ≈q a
  +q-zero = alike ρ done (A +e whole_e (num 0)) A (mul-pos l (lit< tt)) l refl

  pub -q-self : a -q a ≈q whole 0
  -q-self = alike ρ done (A -e A) (whole_e (num 0)) (mul-pos l l) (lit< tt) refl

  pub *q-comm : a *q b ≈q b *q a
  *q-comm = alike ρ done (A *e B) (B *e A) lm (mul-pos m l) refl

  pub *q-assoc : a *q b *q c ≈q a *q (b *q c)
  *q-assoc = alike ρ done (A *e B *e C) (A *e (B *e C)) (mul-pos lm n) (mul-pos l (mul-pos m n)) refl

  pub *q-one : a *q whole 1 ≈q a
  *q-one = alike ρ done (A *e whole_e (num 1)) A (mul-pos l (lit< tt)) l refl

  pub *q-+q : a *q (b +q c) ≈q a *q b +q a *q c
  *q-+q = alike ρ done (A *e (B +e C)) (A *e B +e A *e C) (mul-pos l (mul-pos m n)) (mul-pos lm (mul-pos l n)) refl

  -- b above 0 is b.minus and something more
  pub *q-/q : b.minus < b.plus → a /q b *q b ≈q a
  *q-/q h =
      alike (a.plus ∷ a.minus ∷ a.over ∷ b.plus ∷ b.minus ∷ b.over ∷ (b.plus - b.minus) ∷ [])
      (times (x0 ⊗ x2 ⊗ x5) x3 (x4 ⊕ x6) (omega arith) (times (x1 ⊗ x2 ⊗ x5) (x4 ⊕ x6) x3 (omega arith) done))
      (shape (x0 ⊗ x5) (x1 ⊗ x5) (x2 ⊗ x6) *e B) A (mul-pos (mul-pos l (sub-pos_iff_lt.1 h)) m) l refl

-- whole numbers keep their sums and products
module _ (n m : ℕ) where
  pub whole-+ : whole (n + m) ≈q whole n +q whole m
  whole-+ = alike (n ∷ m ∷ []) done (whole_e (x0 ⊕ x1)) (whole_e x0 +e whole_e x1) (lit< tt) (lit< tt) refl

  pub whole-* : whole (n * m) ≈q whole n *q whole m
  whole-* = alike (n ∷ m ∷ []) done (whole_e (x0 ⊗ x1)) (whole_e x0 *e whole_e x1) (lit< tt) (lit< tt) refl
