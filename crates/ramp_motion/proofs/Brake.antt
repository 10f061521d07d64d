-- The brake's part of the motion between two times: how the squares and the cubes grow while the brake builds up.
use mathlib.Core.Path.{◌≡◌, refl, sym, ap₂, ◌∙◌}
use mathlib.Core.List.{[], ◌∷◌}
use mathlib.Core.Logic.{◌⊎◌, inl, inr}
use Prim.Native.Nat.{ℕ, ◌+◌, ◌*◌, ◌-◌, ◌≤◌, ◌<◌}
use native.Mathlib.Omega.{arith}
use native.Mathlib.Nat.{eq-zero-or-pos, mul-zero, zero-mul, le_of_eq, mul-add, mul-sub}
use Rattle.exact.proofs.Polynomial.{Expr, num, ◌⊕◌, ◌⊗◌}
use Rattle.exact.proofs.Certificate.{x0 as f, x1 as b, x2 as i, x3 as j, x4 as k, ring, done, times, cert}
use Rattle.ramp_motion.specs.Plan.{acted, full, squares, cubes}

-- a state of the brake: it has built up for b, and acts in full for f
abbrev pub sq : ℕ → ℕ → ℕ
sq f b = 2 * f * b + b * b

abbrev pub cu : ℕ → ℕ → ℕ
cu f b = 3 * f * f * b + 3 * f * b * b + b * b * b

abbrev pub SQ : Expr → Expr → Expr
SQ f b = num 2 ⊗ f ⊗ b ⊕ b ⊗ b

abbrev pub CU : Expr → Expr → Expr
CU f b = num 3 ⊗ f ⊗ f ⊗ b ⊕ num 3 ⊗ f ⊗ b ⊗ b ⊕ b ⊗ b ⊗ b

-- a time i + j + k goes by: i before the brake acts, j while it builds up, k while it acts in full
module _ (nf nb ni nj nk : ℕ) (p : nb * ni ≤ 0) (q : nf * nj ≤ 0) where
  abbrev h : Expr
  h = i ⊕ j ⊕ k

  -- the squares grow by twice the brake at the start, times the time that goes by, or more
  slope-at : sq nf nb + 2 * nb * (ni + nj + nk) ≤ sq (nf + nk) (nb + nj)
  slope-at = cert (nf ∷ nb ∷ ni ∷ nj ∷ nk ∷ []) (times (num 2) (b ⊗ i) (num 0) p done) (SQ f b ⊕ num 2 ⊗ b ⊗ h) (SQ (f ⊕ k) (b ⊕ j)) refl

  -- and by twice the brake at the end or less
  bend-at : sq (nf + nk) (nb + nj) ≤ sq nf nb + 2 * (nb + nj) * (ni + nj + nk)
  bend-at = cert (nf ∷ nb ∷ ni ∷ nj ∷ nk ∷ []) (times (num 2) (f ⊗ j) (num 0) q done) (SQ (f ⊕ k) (b ⊕ j)) (SQ f b ⊕ num 2 ⊗ (b ⊕ j) ⊗ h) refl

  -- the cubes lie above their tangent parabola
  tangent-at : cu nf nb + 3 * sq nf nb * (ni + nj + nk) + 3 * nb * (ni + nj + nk) * (ni + nj + nk) ≤ cu (nf + nk) (nb + nj)
  tangent-at =
      cert (nf ∷ nb ∷ ni ∷ nj ∷ nk ∷ [])
      (times (num 6 ⊗ f ⊕ num 3 ⊗ b ⊕ num 3 ⊗ i ⊕ num 6 ⊗ j ⊕ num 6 ⊗ k) (b ⊗ i) (num 0) p (times (num 6 ⊗ b) (f ⊗ j) (num 0) q done))
      (CU f b ⊕ num 3 ⊗ SQ f b ⊗ h ⊕ num 3 ⊗ b ⊗ h ⊗ h) (CU (f ⊕ k) (b ⊕ j)) refl

  -- below the parabola of the brake at the end
  parabola-at : cu (nf + nk) (nb + nj) ≤ cu nf nb + 3 * sq nf nb * (ni + nj + nk) + 3 * (nb + nj) * (ni + nj + nk) * (ni + nj + nk)
  parabola-at =
      cert (nf ∷ nb ∷ ni ∷ nj ∷ nk ∷ []) (times (num 3 ⊗ (f ⊕ j ⊕ num 2 ⊗ k)) (f ⊗ j) (num 0) q done)
      (CU (f ⊕ k) (b ⊕ j)) (CU f b ⊕ num 3 ⊗ SQ f b ⊗ h ⊕ num 3 ⊗ (b ⊕ j) ⊗ h ⊗ h) refl

  -- and below the trapezoid under the squares
  trapezoid-at : 2 * cu (nf + nk) (nb + nj) ≤ 2 * cu nf nb + 3 * (ni + nj + nk) * (sq nf nb + sq (nf + nk) (nb + nj))
  trapezoid-at =
      cert (nf ∷ nb ∷ ni ∷ nj ∷ nk ∷ []) (times (num 6 ⊗ (f ⊕ num 2 ⊗ b ⊕ j ⊕ num 2 ⊗ k)) (f ⊗ j) (num 0) q done)
      (num 2 ⊗ CU (f ⊕ k) (b ⊕ j)) (num 2 ⊗ CU f b ⊕ num 3 ⊗ h ⊗ (SQ f b ⊕ SQ (f ⊕ k) (b ⊕ j))) refl

square-less : (x y z : ℕ) → z ≡ x + y → z * z - x * x ≡ sq x y
square-less x y z e =
    let h : (x + y) * (x + y) ≡ sq x y + x * x = ring (x ∷ y ∷ []) ((f ⊕ b) ⊗ (f ⊕ b)) (SQ f b ⊕ f ⊗ f) refl in
    rw e (omega arith)

cube-less : (x y z : ℕ) → z ≡ x + y → z * z * z - x * x * x ≡ cu x y
cube-less x y z e =
    let h : (x + y) * (x + y) * (x + y) ≡ cu x y + x * x * x = ring (x ∷ y ∷ []) ((f ⊕ b) ⊗ (f ⊕ b) ⊗ (f ⊕ b)) (CU f b ⊕ f ⊗ f ⊗ f) refl in
    rw e (omega arith)

no-product : (x y : ℕ) → (x ≡ 0) ⊎ (0 < x) → (0 < x → y ≡ 0) → x * y ≤ 0
no-product x y (inl e) z = le_of_eq (rw e (zero-mul y))
no-product x y (inr l) z = le_of_eq (rw (z l) (mul-zero x))

-- what holds over every such step holds between the states at any two times
module _ (P : ℕ → ℕ → ℕ → ℕ → ℕ → Type 0) (g : (a b i j k : ℕ) → b * i ≤ 0 → a * j ≤ 0 → P a b (i + j + k) (a + k) (b + j)) where
  by_parts : (a b i j k h a' b' : ℕ) → i + j + k ≡ h → a + k ≡ a' → b + j ≡ b' → (0 < b → i ≡ 0) → (0 < a → j ≡ 0) → P a b h a' b'
  by_parts a b i j k h a' b' e₁ e₂ e₃ p q =
      rw (← e₁, ← e₂, ← e₃) (g a b i j k (no-product b i (eq-zero-or-pos b) p) (no-product a j (eq-zero-or-pos a) q))

  between : (u a u' a' h : ℕ) → a ≤ u → a ≤ a' → u + a' ≤ u' + a → u' ≤ u + h → (0 < u → u' ≡ u + h) → (0 < a → a' ≡ a + h) → P a (u - a) h a' (u' - a')
  between u a u' a' h s r m l p q =
      by_parts a (u - a) (u + h - u') (h - (u + h - u') - (a' - a)) (a' - a) h a' (u' - a') (omega arith) (omega arith) (omega arith)
      (λ z. let e = p (omega arith) in omega arith) (λ z. let e = q z in omega arith)

module _ (tm tr : ℕ) where
  -- how far the brake has built up, tr at most
  abbrev pub built : ℕ → ℕ
  built t = acted tm tr t - full tm tr t

  pub squares-is : (t : ℕ) → squares tm tr t ≡ sq (full tm tr t) (built t)
  unfolding squares
  squares-is t = square-less (full tm tr t) (built t) (acted tm tr t) (omega arith)

  pub cubes-is : (t : ℕ) → cubes tm tr t ≡ cu (full tm tr t) (built t)
  unfolding cubes
  cubes-is t = cube-less (full tm tr t) (built t) (acted tm tr t) (omega arith)

  -- nothing at the start
  pub squares-start : squares tm tr 0 ≡ 0
  squares-start = let e : full tm tr 0 ≡ 0 = omega arith in let h : built 0 ≡ 0 = omega arith in squares-is 0 ∙ ap₂ sq e h

  pub cubes-start : cubes tm tr 0 ≡ 0
  cubes-start = let e : full tm tr 0 ≡ 0 = omega arith in let h : built 0 ≡ 0 = omega arith in cubes-is 0 ∙ ap₂ cu e h

  along : (P : ℕ → ℕ → ℕ → ℕ → ℕ → Type 0) → ((a b i j k : ℕ) → b * i ≤ 0 → a * j ≤ 0 → P a b (i + j + k) (a + k) (b + j)) → (x h : ℕ) → P (full tm tr x) (built x) h (full tm tr (x + h)) (built (x + h))
  along P g x h =
      between P g (acted tm tr x) (full tm tr x) (acted tm tr (x + h)) (full tm tr (x + h)) h
      (omega arith) (omega arith) (omega arith) (omega arith) (λ z. omega arith) (λ z. omega arith)

  pub slope : (x h : ℕ) → squares tm tr x + 2 * built x * h ≤ squares tm tr (x + h)
  slope x h = rw (squares-is x, squares-is (x + h)) (along (λ a b h a' b'. sq a b + 2 * b * h ≤ sq a' b') slope-at x h)

  pub bend : (x h : ℕ) → squares tm tr (x + h) ≤ squares tm tr x + 2 * built (x + h) * h
  bend x h = rw (squares-is x, squares-is (x + h)) (along (λ a b h a' b'. sq a' b' ≤ sq a b + 2 * b' * h) bend-at x h)

  pub tangent : (x h : ℕ) → cubes tm tr x + 3 * squares tm tr x * h + 3 * built x * h * h ≤ cubes tm tr (x + h)
  tangent x h =
      rw (cubes-is x, cubes-is (x + h), squares-is x)
      (along (λ a b h a' b'. cu a b + 3 * sq a b * h + 3 * b * h * h ≤ cu a' b') tangent-at x h)

  pub parabola : (x h : ℕ) → cubes tm tr (x + h) ≤ cubes tm tr x + 3 * squares tm tr x * h + 3 * built (x + h) * h * h
  parabola x h =
      rw (cubes-is x, cubes-is (x + h), squares-is x)
      (along (λ a b h a' b'. cu a' b' ≤ cu a b + 3 * sq a b * h + 3 * b' * h * h) parabola-at x h)

  pub trapezoid : (x h : ℕ) → 2 * cubes tm tr (x + h) ≤ 2 * cubes tm tr x + 3 * h * (squares tm tr x + squares tm tr (x + h))
  trapezoid x h =
      rw (cubes-is x, cubes-is (x + h), squares-is x, squares-is (x + h))
      (along (λ a b h a' b'. 2 * cu a' b' ≤ 2 * cu a b + 3 * h * (sq a b + sq a' b')) trapezoid-at x h)

  -- the squares lie below the chord from 0 to any later time
  pub below : (x : ℕ) → squares tm tr x ≤ 2 * x * built x
  below x =
      rw (squares-is x)
      (cert (full tm tr x ∷ built x ∷ x ∷ []) (times (num 2 ⊗ b) (f ⊕ b) i (omega arith) done) (SQ f b) (num 2 ⊗ i ⊗ b) refl)

  pub star : (y h : ℕ) → (y + h) * squares tm tr y ≤ y * squares tm tr (y + h)
  star y h =
      cert (squares tm tr y ∷ squares tm tr (y + h) ∷ built y ∷ y ∷ h ∷ [])
      (times j (f ⊕ num 2 ⊗ i ⊗ k) b (slope y h) (times k f (num 2 ⊗ j ⊗ i) (below y) done))
      ((j ⊕ k) ⊗ f) (j ⊗ b) refl

-- in a unit of time q times as fine
module _ (q tm tr t : ℕ) where
  full-fine : full (q * tm) (q * tr) (q * t) ≡ q * full tm tr t
  full-fine = rw (← mul-add q tm tr) (sym (mul-sub q t (tm + tr)))

  built-fine : built (q * tm) (q * tr) (q * t) ≡ q * built tm tr t
  built-fine = rw (full-fine, ← mul-sub q t tm) (sym (mul-sub q (acted tm tr t) (full tm tr t)))

  pub squares-fine : squares (q * tm) (q * tr) (q * t) ≡ q * q * squares tm tr t
  squares-fine =
      rw (squares-is (q * tm) (q * tr) (q * t), squares-is tm tr t, built-fine, full-fine)
      (ring (full tm tr t ∷ built tm tr t ∷ q ∷ []) (SQ (i ⊗ f) (i ⊗ b)) (i ⊗ i ⊗ SQ f b) refl)

  pub cubes-fine : cubes (q * tm) (q * tr) (q * t) ≡ q * q * q * cubes tm tr t
  cubes-fine =
      rw (cubes-is (q * tm) (q * tr) (q * t), cubes-is tm tr t, built-fine, full-fine)
      (ring (full tm tr t ∷ built tm tr t ∷ q ∷ []) (CU (i ⊗ f) (i ⊗ b)) (i ⊗ i ⊗ i ⊗ CU f b) refl)
