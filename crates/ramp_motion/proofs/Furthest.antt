-- Where the train is the furthest: about where its speed passes through 0. Before that it is no further, and after it no more.
use mathlib.Core.Path.{◌≡◌, refl}
use mathlib.Core.List.{List, [], ◌∷◌}
use mathlib.Core.Logic.{◌⊎◌, inl, inr}
use Prim.Native.Nat.{ℕ, ◌+◌, ◌*◌, ◌≤◌, ◌<◌}
use native.Mathlib.Omega.{arith}
use native.Mathlib.Nat.{eq-zero-or-pos, le_of_mul-le-mul_left, le_dest, le_of_lt, lt_of_not-le, mul-le-mul_left, mul-pos, mul-add, mul-zero, add-zero}
use native.Mathlib.Decide.{dec_le}
use Rattle.exact.proofs.Polynomial.{Expr, num, ◌⊕◌, ◌⊗◌}
use Rattle.exact.proofs.Certificate.{ring, done, times, cert}
use Rattle.exact.proofs.Certificate.{x0 as Vo, x1 as up, x2 as dn, x3 as dp, x4 as t, x5 as h, x6 as k, x7 as C, x8 as C', x9 as S, x10 as S', x11 as b}
use Rattle.ramp_motion.specs.declared.Plan.{Plan}
use Rattle.ramp_motion.specs.Plan.{squares, cubes, fast, slow, gain, loss}
use Rattle.ramp_motion.proofs.Brake.{built, tangent, trapezoid, below, star, cubes-start, squares-fine, cubes-fine}

-- how far the train can get in H from t: more - less, by its speed at t and half of down H²
abbrev pub more : Plan → ℕ → ℕ → ℕ
more m t H = 6 * H * fast m t + 3 * m.down * H * H

abbrev pub less : Plan → ℕ → ℕ → ℕ
less m t H = 6 * H * slow m t

-- the place at t is at most that at t₀ and what can be gone in H from there
abbrev pub NoFurther : Plan → ℕ → ℕ → ℕ → Type 0
NoFurther m t₀ H t = gain m t + (loss m t₀ + less m t₀ H) ≤ loss m t + (gain m t₀ + more m t₀ H)

-- the plan's numbers as expressions
abbrev pub Fast : Expr → Expr → Expr → Expr
Fast v n t = v ⊕ n ⊗ t

abbrev pub Slow : Expr → Expr → Expr → Expr → Expr
Slow u p t s = u ⊗ t ⊕ p ⊗ s

abbrev pub Gain : Expr → Expr → Expr → Expr
Gain v n t = num 3 ⊗ t ⊗ (num 2 ⊗ v ⊕ n ⊗ t)

abbrev pub Loss : Expr → Expr → Expr → Expr → Expr
Loss u p t c = num 3 ⊗ t ⊗ (u ⊗ t) ⊕ num 2 ⊗ p ⊗ c

abbrev More : Expr → Expr → Expr → Expr → Expr
More v n t H = num 6 ⊗ H ⊗ Fast v n t ⊕ num 3 ⊗ n ⊗ H ⊗ H

module _ (m : Plan) where
  abbrev env : ℕ → ℕ → ℕ → List ℕ
  env t h k =
      m.start ∷ m.up ∷ m.down ∷ m.brake ∷ t ∷ h ∷ k ∷ cubes m.tm m.tr t ∷ cubes m.tm m.tr (t + h) ∷ squares m.tm m.tr t ∷ squares m.tm m.tr (t + h) ∷ built m.tm m.tr t ∷ []

  -- before a moment of speed at least 0 it is at least 0 too
  pub earlier : (s z : ℕ) → 0 < s + z → slow m (s + z) ≤ fast m (s + z) → slow m s ≤ fast m s
  earlier s z l v =
      le_of_mul-le-mul_left
      (cert (env s z 0) (times dp ((t ⊕ h) ⊗ S) (t ⊗ S') (star m.tm m.tr s z) (times t (Slow up dp (t ⊕ h) S') (Fast Vo dn (t ⊕ h)) v done))
      ((t ⊕ h) ⊗ Slow up dp t S) ((t ⊕ h) ⊗ Fast Vo dn t) refl)
      l

  -- and the place is no further
  behind : (s z : ℕ) → (s + z ≡ 0) ⊎ (0 < s + z) → slow m (s + z) ≤ fast m (s + z) → gain m s + loss m (s + z) ≤ gain m (s + z) + loss m s
  behind s z (inl e) v =
      let e₁ : s ≡ 0 = omega arith in
      let e₂ : z ≡ 0 = omega arith in
      rw (e₁, e₂) (omega arith)
  behind s z (inr l) v =
      cert (env s z 0)
      (times dp (num 2 ⊗ C') (num 2 ⊗ C ⊕ num 3 ⊗ h ⊗ (S ⊕ S')) (trapezoid m.tm m.tr s z)
      (times (num 3 ⊗ h) (Slow up dp (t ⊕ h) S') (Fast Vo dn (t ⊕ h)) v (times (num 3 ⊗ h) (Slow up dp t S) (Fast Vo dn t) (earlier s z l v) done)))
      (Gain Vo dn t ⊕ Loss up dp (t ⊕ h) C') (Gain Vo dn (t ⊕ h) ⊕ Loss up dp t C) refl

  pub no-further : (s t : ℕ) → s ≤ t → slow m t ≤ fast m t → gain m s + loss m t ≤ gain m t + loss m s
  no-further s t p v = let (z, e) = le_dest p in rw e at (behind s z (eq-zero-or-pos (s + z)) (rw e v))

  -- where the speed is at least 0, so is the place
  pub ahead : (z : ℕ) → slow m z ≤ fast m z → loss m z ≤ gain m z
  ahead z v =
      let l : gain m 0 + loss m z ≤ gain m z + loss m 0 = no-further 0 z (omega arith) v in
      let g : 2 * m.brake * cubes m.tm m.tr 0 ≡ 0 = rw (cubes-start m.tm m.tr) (mul-zero (2 * m.brake)) in
      omega arith

  -- soon after a moment of speed at least 0
  soon : (s z y : ℕ) → slow m s ≤ fast m s → NoFurther m s (z + y) (s + z)
  soon s z y v =
      cert (env s z y)
      (times (num 2 ⊗ dp) (C ⊕ num 3 ⊗ S ⊗ h ⊕ num 3 ⊗ b ⊗ h ⊗ h) C' (tangent m.tm m.tr s z) (times (num 6 ⊗ k) (Slow up dp t S) (Fast Vo dn t) v done))
      (Gain Vo dn (t ⊕ h) ⊕ (Loss up dp t C ⊕ num 6 ⊗ (h ⊕ k) ⊗ Slow up dp t S)) (Loss up dp (t ⊕ h) C' ⊕ (Gain Vo dn t ⊕ More Vo dn t (h ⊕ k))) refl

  -- after a moment of speed at most 0 the place is no further
  back : (s z : ℕ) → 0 < s → fast m s ≤ slow m s → gain m (s + z) + loss m s ≤ gain m s + loss m (s + z)
  back s z l v =
      let a : m.down ≤ m.up + 2 * m.brake * built m.tm m.tr s =
      le_of_mul-le-mul_left {k = s}
      (cert (env s z 0) (times dp S (num 2 ⊗ t ⊗ b) (below m.tm m.tr s) (times (num 1) (Fast Vo dn t) (Slow up dp t S) v done))
      (t ⊗ dn) (t ⊗ (up ⊕ num 2 ⊗ dp ⊗ b)) refl)
      l in
      cert (env s z 0)
      (times (num 2 ⊗ dp) (C ⊕ num 3 ⊗ S ⊗ h ⊕ num 3 ⊗ b ⊗ h ⊗ h) C' (tangent m.tm m.tr s z)
      (times (num 6 ⊗ h) (Fast Vo dn t) (Slow up dp t S) v (times (num 3 ⊗ h ⊗ h) dn (up ⊕ num 2 ⊗ dp ⊗ b) a done)))
      (Gain Vo dn (t ⊕ h) ⊕ Loss up dp t C) (Gain Vo dn t ⊕ Loss up dp (t ⊕ h) C') refl

module _ (m : Plan) (t₀ H : ℕ) (l : 0 < H) (v₀ : slow m t₀ ≤ fast m t₀) (v₁ : fast m (t₀ + H) ≤ slow m (t₀ + H)) where
  cases : (s : ℕ) → Dec (s ≤ t₀) → Dec (s ≤ t₀ + H) → NoFurther m t₀ H s
  cases s (yes p) q =
      let r = no-further m s t₀ p v₀ in
      omega (arith, mul-le-mul_left (6 * H) v₀)
  cases s (no p) (yes q) =
      let (z, e) = le_dest (le_of_lt (lt_of_not-le p)) in
      let (y, e') = le_dest {n = z} {m = H} (omega arith) in
      rw (e, e') at (soon m t₀ z y v₀)
  cases s (no p) (no q) =
      let (z, e) = le_dest (le_of_lt (lt_of_not-le q)) in
      let r : gain m s + loss m (t₀ + H) ≤ gain m (t₀ + H) + loss m s = rw e at (back m (t₀ + H) z (omega arith) v₁) in
      let a : NoFurther m t₀ H (t₀ + H) = rw (add-zero H) at (soon m t₀ H 0 v₀) in
      omega arith

  -- the speed is at least 0 at t₀ and at most 0 at t₀ + H: at no time is the train further
  pub furthest : (s : ℕ) → NoFurther m t₀ H s
  furthest s = cases s (dec_le s t₀) (dec_le s (t₀ + H))

-- the same motion with times in a unit q times as fine
abbrev pub finer : ℕ → Plan → Plan
finer q m = record { start = q * q * m.start; up = q * m.up; down = q * m.down; brake = m.brake; tm = q * m.tm; tr = q * m.tr }

module _ (m : Plan) (q : ℕ) where
  pub fast-fine : (s : ℕ) → fast (finer q m) (q * s) ≡ q * q * fast m s
  fast-fine s = ring (env m s 0 q) (Fast (k ⊗ k ⊗ Vo) (k ⊗ dn) (k ⊗ t)) (k ⊗ k ⊗ Fast Vo dn t) refl

  pub slow-fine : (s : ℕ) → slow (finer q m) (q * s) ≡ q * q * slow m s
  slow-fine s =
      rw (squares-fine q m.tm m.tr s)
      (ring (env m s 0 q) (Slow (k ⊗ up) dp (k ⊗ t) (k ⊗ k ⊗ S)) (k ⊗ k ⊗ Slow up dp t S) refl)

  pub gain-fine : (s : ℕ) → gain (finer q m) (q * s) ≡ q * q * q * gain m s
  gain-fine s = ring (env m s 0 q) (Gain (k ⊗ k ⊗ Vo) (k ⊗ dn) (k ⊗ t)) (k ⊗ k ⊗ k ⊗ Gain Vo dn t) refl

  pub loss-fine : (s : ℕ) → loss (finer q m) (q * s) ≡ q * q * q * loss m s
  loss-fine s =
      rw (cubes-fine q m.tm m.tr s)
      (ring (env m s 0 q) (Loss (k ⊗ up) dp (k ⊗ t) (k ⊗ k ⊗ k ⊗ C)) (k ⊗ k ⊗ k ⊗ Loss up dp t C) refl)

  -- nor at a time between two of the unit
  pub furthest-fine : (t₀ H : ℕ) → 0 < q → 0 < H → slow m t₀ ≤ fast m t₀ → fast m (t₀ + H) ≤ slow m (t₀ + H) → (s : ℕ) → gain (finer q m) s + q * q * q * (loss m t₀ + less m t₀ H) ≤ loss (finer q m) s + q * q * q * (gain m t₀ + more m t₀ H)
  furthest-fine t₀ H z l v₀ v₁ s =
      cert (m.start ∷ m.up ∷ m.down ∷ m.brake ∷ t₀ ∷ H ∷ q ∷ cubes m.tm m.tr t₀ ∷ gain (finer q m) s ∷ squares m.tm m.tr t₀ ∷ loss (finer q m) s ∷ [])
      (times (num 1)
      (C' ⊕ (Loss (k ⊗ up) dp (k ⊗ t) (k ⊗ k ⊗ k ⊗ C) ⊕ num 6 ⊗ (k ⊗ h) ⊗ Slow (k ⊗ up) dp (k ⊗ t) (k ⊗ k ⊗ S)))
      (S' ⊕ (Gain (k ⊗ k ⊗ Vo) (k ⊗ dn) (k ⊗ t) ⊕ More (k ⊗ k ⊗ Vo) (k ⊗ dn) (k ⊗ t) (k ⊗ h)))
      (rw (cubes-fine q m.tm m.tr t₀, squares-fine q m.tm m.tr t₀) at
      (furthest (finer q m) (q * t₀) (q * H) (mul-pos z l) (rw (slow-fine t₀, fast-fine t₀) (mul-le-mul_left (q * q) v₀))
      (rw (← mul-add q t₀ H, slow-fine (t₀ + H), fast-fine (t₀ + H)) (mul-le-mul_left (q * q) v₁)) s))
      done)
      (C' ⊕ k ⊗ k ⊗ k ⊗ (Loss up dp t C ⊕ num 6 ⊗ h ⊗ Slow up dp t S)) (S' ⊕ k ⊗ k ⊗ k ⊗ (Gain Vo dn t ⊕ More Vo dn t h)) refl
