-- A row's delay and the larger of two, in millionths of a second.
use mathlib.Core.Path.{refl}
use mathlib.Core.List.{[], ◌∷◌}
use Prim.Native.Nat.{ℕ, ◌+◌, ◌*◌, ◌≤◌, max}
use native.Mathlib.Nat.{mul-le-mul, sub-zero}
use native.Mathlib.Omega.{arith}
use lib.Dec.{lit<}
use Rattle.exact.specs.Fraction.{Fraction, ◌over◌, ◌+q◌, ◌*q◌, maxq, ◌≈q◌}
use Rattle.exact.proofs.Polynomial.{num, ◌⊕◌, ◌⊗◌}
use Rattle.exact.proofs.Certificate.{x0, x1, x2, done}
use Rattle.exact.proofs.Shape.{over_e, ◌+e◌, ◌*e◌}
use Rattle.exact.proofs.Substitution.{≈q-refl, ≈q-sym, ≈q-trans, becomes, maxq-cong, maxq-over}
use Rattle.train.specs.declared.BrakeType.{BrakeType}
use Rattle.train.specs.declared.BrakeType.TheVariants.{Passenger, Freight}
use Rattle.train_delay.specs.Delay.{row_of}

pub row_is : (a c l : ℕ) → (a * 10000 + c * (l * l)) over 1000000 ≈q (a over 100) +q (c over 100) *q ((l over 100) *q (l over 100))
row_is a c l =
    ≈q-sym
    (becomes (a ∷ c ∷ l ∷ []) done (over_e x0 100 +e over_e x1 100 *e (over_e x2 100 *e over_e x2 100))
    (over_e (x0 ⊗ num 10000 ⊕ x1 ⊗ (x2 ⊗ x2)) 1000000) (≈q-refl (lit< tt)) (lit< tt) refl)

-- what keeps a row's terms small
pub row_small : (b : BrakeType) (l : ℕ) → l ≤ 1000 → (l * l ≤ 1000000) × (((row_of b).a ≤ 1350) × (((row_of b).c * (l * l) ≤ 15000000) × ((row_of b).a * 10000 + (row_of b).c * (l * l) ≤ 18500000)))
row_small b l h = (square, go b)
  where
    square : l * l ≤ 1000000
    square = mul-le-mul {n₂ = 1000} {m₂ = 1000} h h

    go : (b : BrakeType) → ((row_of b).a ≤ 1350) × (((row_of b).c * (l * l) ≤ 15000000) × ((row_of b).a * 10000 + (row_of b).c * (l * l) ≤ 18500000))
    go Passenger = let k = square in omega arith
    go Freight = let k = square in omega arith

pub larger-is : {x y : Fraction} (p f d : ℕ) → p over d ≈q x → f over d ≈q y → max p f over d ≈q maxq x y
larger-is p f d e g = ≈q-trans (≈q-sym (rw (sub-zero p) at (maxq-over p 0 f d e.left))) (maxq-cong e g)
