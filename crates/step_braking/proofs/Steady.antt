-- What the speeds do not change, T, t_r + tf and Kr · dr, in whole numbers; and how large they can be.
use mathlib.Core.Path.{refl}
use mathlib.Core.List.{[], ◌∷◌}
use Prim.Native.Nat.{ℕ, ◌+◌, ◌*◌, ◌^◌, ◌≤◌}
use native.Mathlib.Nat.{mul-le-mul}
use lib.Dec.{lit<}
use Rattle.exact.specs.Fraction.{◌over◌, ◌+q◌, ◌*q◌, ◌≈q◌}
use Rattle.exact.proofs.Polynomial.{num, ◌⊕◌, ◌⊗◌}
use Rattle.exact.proofs.Certificate.{x0, x1, done}
use Rattle.exact.proofs.Shape.{over_e, ◌+e◌, ◌*e◌}
use Rattle.exact.proofs.Substitution.{≈q-refl, ≈q-sym, becomes, +q-cong, *q-cong}
use Rattle.train.specs.declared.Train.{Train}
use Rattle.train.specs.declared.Coefficients.{Coefficients}
use Rattle.train_delay.specs.Delay.{delay, tf}
use Rattle.train_slope.specs.Slope.{dr}
use Rattle.step_braking.specs.Braking.{T, t_r}

module _ (k : Coefficients) (t : Train) (d : ℕ) (e : d over 1000000 ≈q delay t) where
  tf-is : tf k t ≈q (k.dt * d) over (10 ^ 8)
  unfolding tf
  tf-is =
      becomes (k.dt ∷ d ∷ []) done (over_e x0 100 *e over_e x1 1000000) (over_e (x0 ⊗ x1) (10 ^ 8)) (*q-cong (≈q-refl {a = k.dt over 100} (lit< tt)) (≈q-sym e)) (lit< tt) refl

  pub T-is : T k t ≈q (k.h * 10000000 + k.dt * d) over (10 ^ 8)
  unfolding T
  T-is =
      becomes (k.h ∷ k.dt * d ∷ []) done (over_e x0 10 +e over_e x1 (10 ^ 8)) (over_e (x0 ⊗ num 10000000 ⊕ x1) (10 ^ 8)) (+q-cong (≈q-refl {a = k.h over 10} (lit< tt)) tf-is) (lit< tt) refl

  pub R-is : t_r +q tf k t ≈q (100000000 + k.dt * d) over (10 ^ 8)
  R-is =
      becomes (k.dt * d ∷ []) done (over_e (num 10) 10 +e over_e x0 (10 ^ 8)) (over_e (num 100000000 ⊕ x0) (10 ^ 8)) (+q-cong (≈q-refl {a = t_r} (lit< tt)) tf-is) (lit< tt) refl

pub power-is : (k w d : ℕ) → dr w ≈q d over (10 ^ 5) → (k over 100) *q dr w ≈q (k * d) over (10 ^ 7)
power-is k w d e =
    becomes (k ∷ d ∷ []) done (over_e x0 100 *e over_e x1 (10 ^ 5)) (over_e (x0 ⊗ x1) (10 ^ 7)) (*q-cong (≈q-refl {a = k over 100} (lit< tt)) e) (lit< tt) refl

pub delay-small : (x d : ℕ) → x ≤ 200 → d ≤ 18500000 → x * d ≤ 3700000000
delay-small x d h k = mul-le-mul {n₂ = 200} {m₂ = 18500000} h k

pub power_small : (k d : ℕ) → k ≤ 150 → d ≤ 119000 → k * d ≤ 17850000
power_small k d h i = mul-le-mul {n₂ = 150} {m₂ = 119000} h i
