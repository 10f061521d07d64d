-- The plan's whole numbers give document 002's values.
use mathlib.Core.Path.{◌≡◌, refl}
use mathlib.Core.List.{List, [], ◌∷◌}
use Prim.Native.Nat.{ℕ, ◌+◌, ◌*◌, ◌-◌, ◌^◌, ◌≤◌, ◌<◌}
use native.Mathlib.Omega.{arith}
use native.Mathlib.Nat.{mul-pos, mul_comm, lt_of_not-le, not-le_of_lt}
use lib.Dec.{leb, lit<}
use Rattle.exact.specs.Fraction.{Fraction, whole, ◌over◌, ◌+q◌, ◌-q◌, ◌*q◌, ◌≤q◌, ◌<q◌, ◌≈q◌, leq, Least, raised}
use Rattle.exact.proofs.Polynomial.{Expr, num, ◌⊕◌, ◌⊗◌}
use Rattle.exact.proofs.Certificate.{x0, x1, x2, x3, x4, done, times, ring}
use Rattle.exact.proofs.Shape.{shape, whole_e, over_e, ◌+e◌, ◌-e◌, ◌*e◌}
use Rattle.exact.proofs.Order.{leb-agree}
use Rattle.exact.proofs.Substitution.{≈q-refl, ≈q-sym, ≈q-trans, becomes, net, +q-cong, -q-cong, *q-cong, /q-over, ≤q-cong, <q-cong}
use Rattle.exact.proofs.Raised.{raised-cong, raised-least, raised-over-le}
use Rattle.wide.specs.Value.{value_of}
use Rattle.train.specs.declared.Kmh.{Kmh}
use Rattle.train.specs.declared.Metre.{Metre}
use Rattle.train.specs.declared.Train.{Train}
use Rattle.train.specs.declared.Gradient.{Gradient}
use Rattle.train.specs.declared.Coefficients.{Coefficients}
use Rattle.train.specs.Units.{speed}
use Rattle.train_delay.specs.Delay.{tf}
use Rattle.train_slope.specs.Slope.{di}
use Rattle.step_braking.proofs.Exact.{s-pos, speed-is, A-is, Vβ-is}
use Rattle.step_curve.specs.declared.Curve.{Curve}
use Rattle.step_curve.specs.declared.Curve.TheVariants as curve
use Rattle.step_braking.specs.declared.Course.{Course}
use Rattle.step_curve.specs.declared.Terms.{Terms}
use Rattle.step_braking.specs.Braking.{t_r, dp, Vβ}
use Rattle.step_curve.specs.Step.{EBI, SBI, W, P, formula, distance}
use Rattle.step_braking.specs.Plan.{v9, s_of, beta_of, gain_of, loss_of, Enough}
use Rattle.step_curve.specs.Plan.{square_of, run_of, a_of, sum_at, place_of, sum_of, IsTerms}
use Rattle.step_braking.specs.Agreement.{IsCourse}

module _ (k : Coefficients) (t : Train) (g : Gradient) (c : Course) (is : IsCourse k t g c) (v v0 : Kmh) (ahead : v0.0 ≤ v.0) where
  abbrev s : ℕ
  s = s_of v.0

  β-is : Vβ k t g v v0 ≈q beta_of c v.0 v0.0 over (9 * 10 ^ 15)
  β-is = Vβ-is k t g c is v v0 ahead

  module _ (enough : Enough c v.0 v0.0) where
    abbrev a : ℕ
    a = a_of c v.0 v0.0

    abbrev b : ℕ
    b = beta_of c v.0 v0.0

    abbrev b0 : ℕ
    b0 = v9 v0.0

    abbrev D2 : ℕ
    D2 = square_of b b0

    a-pos : 0 < a
    unfolding a_of
    a-pos = let p = s-pos v.0 in omega arith

    2A-is : whole 2 *q (dp k t g v v0 +q di k.inertia g) ≈q (2 * a) over (10 ^ 12 * s)
    unfolding a_of
    2A-is =
        becomes (a ∷ s ∷ []) done (whole_e (num 2) *e shape x0 (num 0) (num (10 ^ 12) ⊗ x1)) (shape (num 2 ⊗ x0) (num 0) (num (10 ^ 12) ⊗ x1))
        (*q-cong (≈q-refl (lit< tt)) (≈q-trans (A-is k t g c is v v0 ahead) (net (gain_of c v.0 v0.0) (loss_of c v.0 v0.0) (10 ^ 12 * s) (omega arith) (omega (arith, s-pos v.0))))) (omega (arith, s-pos v.0)) refl

    D2-is : Vβ k t g v v0 *q Vβ k t g v v0 -q speed v0 *q speed v0 ≈q D2 over (81 * 10 ^ 30)
    unfolding beta_of square_of
    D2-is =
        becomes (b ∷ b0 ∷ (b - b0) ∷ []) (times (num (6561 * 10 ^ 60) ⊗ (x0 ⊕ x1)) x0 (x2 ⊕ x1) (omega arith) done)
        (over_e x0 (9 * 10 ^ 15) *e over_e x0 (9 * 10 ^ 15) -e over_e x1 (9 * 10 ^ 15) *e over_e x1 (9 * 10 ^ 15)) (over_e (x2 ⊗ (x0 ⊕ x1)) (81 * 10 ^ 30))
        (-q-cong (*q-cong β-is β-is) (*q-cong (speed-is v0) (speed-is v0))) (lit< tt) refl

    -- with the way n, the distance in m
    abbrev dist : ℕ → Fraction
    dist n = (9 * a * n + 50000 * s * D2) over (81 * 10 ^ 23 * a)

    EBI-is : EBI k t g v v0 ≈q dist (c.t8 * b)
    unfolding EBI
    EBI-is =
        becomes (c.t8 ∷ b ∷ D2 ∷ s ∷ a ∷ []) done
        (over_e x0 (10 ^ 8) *e over_e x1 (9 * 10 ^ 15) +e shape (x2 ⊗ (num (10 ^ 12) ⊗ x3)) (num 0) (num (81 * 10 ^ 30) ⊗ (num 2 ⊗ x4)))
        (shape (num 9 ⊗ x4 ⊗ (x0 ⊗ x1) ⊕ num 50000 ⊗ x3 ⊗ x2) (num 0) (num (81 * 10 ^ 23) ⊗ x4))
        (+q-cong (*q-cong is.T β-is) (/q-over D2-is 2A-is (omega (arith, a-pos)))) (omega (arith, a-pos)) refl

    -- n more on the way
    more : {x y : Fraction} (l n : ℕ) → x ≈q dist l → y ≈q n over (9 * 10 ^ 23) → x +q y ≈q dist (l + n)
    more l n e f =
        becomes (a ∷ s ∷ D2 ∷ l ∷ n ∷ []) done
        (shape (num 9 ⊗ x0 ⊗ x3 ⊕ num 50000 ⊗ x1 ⊗ x2) (num 0) (num (81 * 10 ^ 23) ⊗ x0) +e over_e x4 (9 * 10 ^ 23))
        (shape (num 9 ⊗ x0 ⊗ (x3 ⊕ x4) ⊕ num 50000 ⊗ x1 ⊗ x2) (num 0) (num (81 * 10 ^ 23) ⊗ x0)) (+q-cong e f) (omega (arith, a-pos)) refl

    service : (t_r +q tf k t) *q Vβ k t g v v0 ≈q (c.r8 * b) over (9 * 10 ^ 23)
    service = becomes (c.r8 ∷ b ∷ []) done (over_e x0 (10 ^ 8) *e over_e x1 (9 * 10 ^ 15)) (over_e (x0 ⊗ x1) (9 * 10 ^ 23)) (*q-cong is.R β-is) (lit< tt) refl

    warning : (15 over 10) *q speed v ≈q (150000000 * v9 v.0) over (9 * 10 ^ 23)
    warning =
        becomes (v9 v.0 ∷ []) done (over_e (num 15) 10 *e over_e x0 (9 * 10 ^ 15)) (over_e (num 150000000 ⊗ x0) (9 * 10 ^ 23))
        (*q-cong (≈q-refl {a = 15 over 10} (lit< tt)) (speed-is v)) (lit< tt) refl

    SBI-is : SBI k t g v v0 ≈q dist (c.t8 * b + c.r8 * b)
    unfolding SBI
    SBI-is = more _ _ EBI-is service

    W-is : W k t g v v0 ≈q dist (c.t8 * b + c.r8 * b + 150000000 * v9 v.0)
    unfolding W
    W-is = more _ _ SBI-is warning

    P-is : P k t g v v0 ≈q dist (c.t8 * b + c.r8 * b + 150000000 * v9 v.0 + 150000000 * v9 v.0)
    unfolding P
    P-is = more _ _ W-is warning

    abbrev ρ : List ℕ
    ρ = c.t8 ∷ c.r8 ∷ b ∷ v9 v.0 ∷ []

    abbrev way : ℕ → ℕ → Expr
    way l n = (x0 ⊕ num l ⊗ x1) ⊗ x2 ⊕ num n ⊗ num 150000000 ⊗ x3

    summed : (x : Curve) {y : Fraction} (n : ℕ) → n ≡ run_of x c b (v9 v.0) → y ≈q dist n → y ≈q sum_at x c v.0 v0.0 over (81 * 10 ^ 23 * a)
    unfolding sum_at
    summed x n e h = rw (← e) h

    curve-is : (x : Curve) → formula k t g v v0 x ≈q sum_at x c v.0 v0.0 over (81 * 10 ^ 23 * a)
    unfolding run_of
    curve-is curve.Ebi = summed curve.Ebi _ (ring ρ (x0 ⊗ x2) (way 0 0) refl) EBI-is
    curve-is curve.Sbi = summed curve.Sbi _ (ring ρ (x0 ⊗ x2 ⊕ x1 ⊗ x2) (way 1 0) refl) SBI-is
    curve-is curve.W = summed curve.W _ (ring ρ (x0 ⊗ x2 ⊕ x1 ⊗ x2 ⊕ num 150000000 ⊗ x3) (way 1 1) refl) W-is
    curve-is curve.P = summed curve.P _ (ring ρ (x0 ⊗ x2 ⊕ x1 ⊗ x2 ⊕ num 150000000 ⊗ x3 ⊕ num 150000000 ⊗ x3) (way 1 2) refl) P-is

    -- the exact value is a number
    pub number : (x : Curve) → 0 < (formula k t g v v0 x).over
    number x = (curve-is x).left

    mm-is : (x : Curve) → whole 1000 *q formula k t g v v0 x ≈q sum_at x c v.0 v0.0 over (81 * 10 ^ 20 * a)
    mm-is x =
        becomes (a ∷ sum_at x c v.0 v0.0 ∷ []) done (whole_e (num 1000) *e shape x1 (num 0) (num (81 * 10 ^ 23) ⊗ x0)) (shape x1 (num 0) (num (81 * 10 ^ 20) ⊗ x0))
        (*q-cong (≈q-refl {a = whole 1000} (lit< tt)) (curve-is x)) (mul-pos (lit< tt) a-pos) refl

    -- the answer of a single distance and of a row's place
    pub distance_is : (x : Curve) → place_of x c v.0 v0.0 ≡ (distance k t g v v0 x).0
    unfolding distance place_of
    distance_is x = raised-cong (≈q-sym (mm-is x))

    -- it is the least whole number of millimetres not below the exact value
    pub distance_least : (x : Curve) → Least (whole 1000 *q formula k t g v v0 x) (distance k t g v v0 x).0
    unfolding distance
    distance_least x = raised-least _ (mm-is x).left

    -- a distance is at most so many millimetres just where the products are, without a division
    pub at-most-is : (x : Curve) (n : ℕ) → leb (sum_at x c v.0 v0.0) (81 * 10 ^ 20 * a * n) ≡ leb (distance k t g v v0 x).0 n
    unfolding place_of
    at-most-is x n =
        let unit = 81 * 10 ^ 20 * a in
        let r = raised-over-le (sum_at x c v.0 v0.0) unit n (mul-pos (lit< tt) a-pos) in
        let e : n * unit ≡ unit * n = mul_comm n unit in
        rw (← distance_is x) (leb-agree _ _ _ _ (λ h. r.1 (rw e h)) (λ h. lt_of_not-le (λ i. not-le_of_lt h (rw e at (r.0 i)))))

    -- the same of the exact value, in metres
    pub fits-is : (x : Curve) (d : Metre) → leb (sum_at x c v.0 v0.0) (81 * 10 ^ 20 * a * (1000 * d.0)) ≡ leq (formula k t g v v0 x) (whole d.0)
    fits-is x d =
        let e : 81 * 10 ^ 20 * a * (1000 * d.0) ≡ d.0 * (81 * 10 ^ 23 * a) =
        ring (a ∷ d.0 ∷ []) (num (81 * 10 ^ 20) ⊗ x0 ⊗ (num 1000 ⊗ x1)) (x1 ⊗ (num (81 * 10 ^ 23) ⊗ x0)) refl in
        rw e
        (leb-agree _ _ _ _
        (λ h. ≤q-cong (≈q-sym (curve-is x)) (≈q-refl {a = whole d.0} (lit< tt)) (to _ _ h))
        (λ h. <q-cong (≈q-refl {a = whole d.0} (lit< tt)) (≈q-sym (curve-is x)) (past _ _ h)))
      where
        to : (n l : ℕ) → n ≤ d.0 * l → n over l ≤q whole d.0
        to n l h = omega arith

        past : (n l : ℕ) → d.0 * l < n → whole d.0 <q n over l
        past n l h = omega arith

-- what a motion has of the sum, and what it stands over
module _ (x : Curve) (c : Course) (v v0 : ℕ) (m : Terms) (is : IsTerms c v v0 m) where
  a-is : m.a ≡ a_of c v v0
  unfolding a_of
  a-is = let e = is.a in omega arith

  pub sum_is : sum_of x c m ≡ sum_at x c v v0
  unfolding sum_of sum_at
  sum_is = rw (a-is, is.beta, is.speed, is.part)

  pub over-is : value_of m.scale ≡ 81 * 10 ^ 20 * a_of c v v0
  over-is = rw (← a-is) is.scale

  pub place_is : raised (sum_of x c m over value_of m.scale) ≡ place_of x c v v0
  unfolding place_of
  place_is = rw (sum_is, over-is)
