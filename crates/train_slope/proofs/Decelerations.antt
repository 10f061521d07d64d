-- The slope's and the nominal deceleration in whole numbers, and how large they can be.
use mathlib.Core.Path.{refl}
use mathlib.Core.List.{[], ◌∷◌}
use Prim.Native.Nat.{ℕ, ◌+◌, ◌*◌, ◌^◌, ◌≤◌}
use native.Mathlib.Nat.{mul-le-mul}
use native.Mathlib.Omega.{arith}
use lib.Dec.{lit<}
use Rattle.exact.specs.Fraction.{signed, ◌over◌, ◌≈q◌}
use Rattle.exact.proofs.Polynomial.{num, ◌⊕◌, ◌⊗◌}
use Rattle.exact.proofs.Certificate.{x0, x1, x2, done}
use Rattle.exact.proofs.Shape.{shape, whole_e, over_e, ◌+e◌, ◌*e◌}
use Rattle.exact.proofs.Substitution.{≈q-refl, becomes}
use Rattle.train.specs.declared.Inertia.{Inertia}
use Rattle.train.specs.declared.Gradient.{Gradient}
use Rattle.train_slope.specs.Slope.{factor, di, dr}

pub di-is : (k : Inertia) (g : Gradient) → di k g ≈q signed (factor k g * 981 * g.rise) (factor k g * 981 * g.fall) (10 ^ 7)
unfolding di
di-is k g =
    becomes (factor k g ∷ g.rise ∷ g.fall ∷ []) done (over_e x0 100 *e (over_e (num 981) 100 *e shape x1 x2 (num 1000)))
    (shape (x0 ⊗ num 981 ⊗ x1) (x0 ⊗ num 981 ⊗ x2) (num (10 ^ 7))) (≈q-refl (lit< tt)) (lit< tt) refl

pub dr-is : (w : ℕ) → dr w ≈q (685 * w + 9400) over (10 ^ 5)
unfolding dr
dr-is w =
    becomes (w ∷ []) done (over_e (num 685) 100000 *e whole_e x0 +e over_e (num 94) 1000) (over_e (num 685 ⊗ x0 ⊕ num 9400) (10 ^ 5)) (≈q-refl (lit< tt)) (lit< tt) refl

pub slope-small : (f n : ℕ) → f ≤ 120 → n ≤ 35 → f * 981 * n ≤ 4120200
slope-small f n h k = mul-le-mul {n₂ = 117720} {m₂ = 35} (omega arith) k
