-- Where a distance with the weakest deceleration and the speeds of the last fits, so does that of each speed before it.
use mathlib.Core.Path.{◌≡◌, refl, sym}
use mathlib.Core.List.{[], ◌∷◌}
use Prim.Native.Nat.{ℕ, ◌+◌, ◌*◌, ◌^◌, ◌≤◌, ◌<◌}
use native.Mathlib.Omega.{arith}
use native.Mathlib.Nat.{mul-le-mul, add-le-add, le_refl, le_of_eq, le_dest, le_of_mul-le-mul_right}
use Rattle.exact.proofs.Polynomial.{num, ◌⊕◌, ◌⊗◌}
use Rattle.exact.proofs.Certificate.{x0, x1, x2, x3, x4, x5, x6, x7, done, times, cert}
use Rattle.step_braking.specs.declared.Course.{Course}
use Rattle.step_braking.specs.Plan.{v9, s_of, beta_of}
use Rattle.step_curve.specs.declared.Curve.TheVariants.{P}
use Rattle.step_curve.specs.Plan.{square_of, run_of, a_of, sum_at}

-- A over s the weakest, M and D at the last speed; A', s', M' and D' at one before it
module _ (A s M D A' s' M' D' n : ℕ) (p : 0 < A) (q : 0 < s) (stronger : A * s' ≤ A' * s) (run : M' ≤ M) (square : D' ≤ D) where
  between : 9 * A * M + 50000 * s * D ≤ n * (81 * 10 ^ 20 * A) → 9 * A' * M' + 50000 * s' * D' ≤ 81 * 10 ^ 20 * A' * n
  between h =
      let i : 9 * M ≤ 81 * 10 ^ 20 * n =
      le_of_mul-le-mul_right {k = A}
      (cert (A ∷ s ∷ M ∷ D ∷ n ∷ []) (times (num 1) (num 9 ⊗ x0 ⊗ x2 ⊕ num 50000 ⊗ x1 ⊗ x3) (x4 ⊗ (num (81 * 10 ^ 20) ⊗ x0)) h done) (num 9 ⊗ x2 ⊗ x0) (num (81 * 10 ^ 20) ⊗ x4 ⊗ x0) refl)
      p in
      let (g, e) = le_dest i in
      rest g e
    where
      rest : (g : ℕ) → 9 * M + g ≡ 81 * 10 ^ 20 * n → 9 * A' * M' + 50000 * s' * D' ≤ 81 * 10 ^ 20 * A' * n
      rest g e =
          let j : 50000 * s' * D ≤ A' * g =
          le_of_mul-le-mul_right {k = s}
          (cert (A ∷ s ∷ M ∷ D ∷ A' ∷ s' ∷ n ∷ g ∷ [])
          (times x5 (num 9 ⊗ x2 ⊗ x0 ⊕ num 50000 ⊗ x1 ⊗ x3) (x7 ⊗ x0 ⊕ num 9 ⊗ x2 ⊗ x0) (part g e) (times x7 (x0 ⊗ x5) (x4 ⊗ x1) stronger done))
          (num 50000 ⊗ x5 ⊗ x3 ⊗ x1) (x4 ⊗ x7 ⊗ x1) refl)
          q in
          cert (M ∷ D ∷ A' ∷ s' ∷ M' ∷ D' ∷ n ∷ g ∷ [])
          (times (num 9 ⊗ x2) x4 x0 run (times (num 50000 ⊗ x3) x5 x1 square (times (num 1) (num 50000 ⊗ x3 ⊗ x1) (x2 ⊗ x7) j (times x2 (num 9 ⊗ x0 ⊕ x7) (num (81 * 10 ^ 20) ⊗ x6) (le_of_eq e) done))))
          (num 9 ⊗ x2 ⊗ x4 ⊕ num 50000 ⊗ x3 ⊗ x5) (num (81 * 10 ^ 20) ⊗ x2 ⊗ x6) refl
        where
          part : (g : ℕ) → 9 * M + g ≡ 81 * 10 ^ 20 * n → 9 * M * A + 50000 * s * D ≤ g * A + 9 * M * A
          part g e =
              cert (A ∷ s ∷ M ∷ D ∷ n ∷ g ∷ [])
              (times (num 1) (num 9 ⊗ x0 ⊗ x2 ⊕ num 50000 ⊗ x1 ⊗ x3) (x4 ⊗ (num (81 * 10 ^ 20) ⊗ x0)) h (times x0 (num (81 * 10 ^ 20) ⊗ x4) (num 9 ⊗ x2 ⊕ x5) (le_of_eq (sym e)) done))
              (num 9 ⊗ x2 ⊗ x0 ⊕ num 50000 ⊗ x1 ⊗ x3) (x5 ⊗ x0 ⊕ num 9 ⊗ x2 ⊗ x0) refl

module _ (c : Course) (A s v w v0 n : ℕ) (h : v ≤ w) (p : 0 < A) (q : 0 < s) (stronger : A * s_of v ≤ a_of c v v0 * s) where
  beta-rises : beta_of c v v0 ≤ beta_of c w v0
  unfolding beta_of v9
  beta-rises = omega arith

  run-rises : run_of P c (beta_of c v v0) (v9 v) ≤ run_of P c (beta_of c w v0) (v9 w)
  unfolding run_of v9
  run-rises = add-le-add (mul-le-mul (le_refl _) beta-rises) (mul-le-mul (le_refl _) (mul-le-mul h (le_refl _)))

  square-rises : square_of (beta_of c v v0) (v9 v0) ≤ square_of (beta_of c w v0) (v9 v0)
  unfolding square_of
  square-rises = let b = beta-rises in mul-le-mul (omega arith) (omega arith)

  pub each_fits : 9 * A * run_of P c (beta_of c w v0) (v9 w) + 50000 * s * square_of (beta_of c w v0) (v9 v0) ≤ n * (81 * 10 ^ 20 * A) → sum_at P c v v0 ≤ 81 * 10 ^ 20 * a_of c v v0 * n
  unfolding sum_at
  each_fits = between _ _ _ _ _ _ _ _ n p q stronger run-rises square-rises
