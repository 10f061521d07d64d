-- Over a span of speeds the train brakes weakest at one of its ends: dp + di does not fall up to VC, and above it is a chord's or more.
-- So what it brakes by at both ends it brakes by at every speed between, whatever nC is; where nC is not below 0, the first end is enough.
use mathlib.Core.Path.{◌≡◌, refl}
use mathlib.Core.List.{[], ◌∷◌}
use mathlib.Core.Logic.{◌⊎◌, inl, inr, ⊎_elim}
use Prim.Native.Nat.{ℕ, zero, suc, ◌+◌, ◌*◌, ◌-◌, ◌≤◌, ◌<◌, max}
use native.Mathlib.Omega.{arith}
use native.Mathlib.Nat.{le_refl, le_of_lt, le_trans, mul-le-mul, mul-zero, zero-mul, lt_of_not-le, le_of_mul-le-mul_left}
use native.Mathlib.Decide.{dec_le}
use Rattle.exact.proofs.Polynomial.{num, ◌⊕◌, ◌⊗◌}
use Rattle.exact.proofs.Certificate.{x0, x1, x2, x3, x4, x5, x6, x7, x8, x9, x10, x11, done, times, cert, ring}
use Rattle.step_braking.specs.declared.Course.{Course}
use Rattle.step_braking.specs.Plan.{s_of, brake_of, gain_of, loss_of}
use Rattle.step_braking.proofs.Exact.{s-pos}

split : (a b : ℕ) → (a ≤ b) ⊎ (b < a)
split a b = go (dec_le a b)
  where
    go : Dec (a ≤ b) → (a ≤ b) ⊎ (b < a)
    go (yes i) = inl i
    go (no i) = inr (lt_of_not-le i)

-- P: the brake's power; s: a speed, and s + p a higher one; r: 100 s - cr V0; g - l, h - k: KC at either in thousandths; d, u: the slope;
-- t: what the train is to brake by
lifted : (P s p r l g k h d u t : ℕ) → 0 < s → r ≤ 100 * s → l ≤ g → k + g ≤ l + h →
    P * r * l + d * (100000 * s) + t * s ≤ P * r * g + u * (100000 * s) →
    P * (r + 100 * p) * k + d * (100000 * (s + p)) + t * (s + p) ≤ P * (r + 100 * p) * h + u * (100000 * (s + p))
lifted P s p r l g k h d u t pos part some rises e =
    le_of_mul-le-mul_left
    (cert (P ∷ s ∷ p ∷ r ∷ l ∷ g ∷ k ∷ h ∷ d ∷ u ∷ (g - l) ∷ t ∷ [])
    (times (x1 ⊕ x2) (x0 ⊗ x3 ⊗ x4 ⊕ x8 ⊗ (num 100000 ⊗ x1) ⊕ x11 ⊗ x1) (x0 ⊗ x3 ⊗ x5 ⊕ x9 ⊗ (num 100000 ⊗ x1)) e
    (times ((x1 ⊕ x2) ⊗ x0 ⊗ x3) x5 (x4 ⊕ x10) (omega arith)
    (times (x0 ⊗ x2 ⊗ x10) x3 (num 100 ⊗ x1) part
    (times (x1 ⊗ x0 ⊗ (x3 ⊕ num 100 ⊗ x2)) (x6 ⊕ x5) (x4 ⊕ x7) rises
    (times (x1 ⊗ x0 ⊗ (x3 ⊕ num 100 ⊗ x2)) (x4 ⊕ x10) x5 (omega arith) done)))))
    (x1 ⊗ (x0 ⊗ (x3 ⊕ num 100 ⊗ x2) ⊗ x6 ⊕ x8 ⊗ (num 100000 ⊗ (x1 ⊕ x2)) ⊕ x11 ⊗ (x1 ⊕ x2)))
    (x1 ⊗ (x0 ⊗ (x3 ⊕ num 100 ⊗ x2) ⊗ x7 ⊕ x9 ⊗ (num 100000 ⊗ (x1 ⊕ x2)))) refl)
    pos

-- above VC: s, s + p and s + p + m, which are y, y + p and y + p + m above VC
chord : (P r s y p m d u plus minus t : ℕ) → plus ≤ minus → 0 < p + m →
    P * r * (minus * y) + d * (100000 * s) + t * s ≤ P * r * (1000 + plus * y) + u * (100000 * s) →
    P * (r + 100 * (p + m)) * (minus * (y + (p + m))) + d * (100000 * (s + (p + m))) + t * (s + (p + m)) ≤ P * (r + 100 * (p + m)) * (1000 + plus * (y + (p + m))) + u * (100000 * (s + (p + m))) →
    P * (r + 100 * p) * (minus * (y + p)) + d * (100000 * (s + p)) + t * (s + p) ≤ P * (r + 100 * p) * (1000 + plus * (y + p)) + u * (100000 * (s + p))
chord P r s y p m d u plus minus t falls some low high =
    le_of_mul-le-mul_left
    (cert (P ∷ r ∷ s ∷ y ∷ p ∷ m ∷ d ∷ u ∷ plus ∷ minus ∷ t ∷ [])
    (times x5 (x0 ⊗ x1 ⊗ (x9 ⊗ x3) ⊕ x6 ⊗ (num 100000 ⊗ x2) ⊕ x10 ⊗ x2) (x0 ⊗ x1 ⊗ (num 1000 ⊕ x8 ⊗ x3) ⊕ x7 ⊗ (num 100000 ⊗ x2)) low
    (times x4
    (x0 ⊗ (x1 ⊕ num 100 ⊗ (x4 ⊕ x5)) ⊗ (x9 ⊗ (x3 ⊕ (x4 ⊕ x5))) ⊕ x6 ⊗ (num 100000 ⊗ (x2 ⊕ (x4 ⊕ x5))) ⊕ x10 ⊗ (x2 ⊕ (x4 ⊕ x5)))
    (x0 ⊗ (x1 ⊕ num 100 ⊗ (x4 ⊕ x5)) ⊗ (num 1000 ⊕ x8 ⊗ (x3 ⊕ (x4 ⊕ x5))) ⊕ x7 ⊗ (num 100000 ⊗ (x2 ⊕ (x4 ⊕ x5)))) high
    (times (num 100 ⊗ x0 ⊗ x4 ⊗ x5 ⊗ (x4 ⊕ x5)) x8 x9 falls done)))
    ((x4 ⊕ x5) ⊗ (x0 ⊗ (x1 ⊕ num 100 ⊗ x4) ⊗ (x9 ⊗ (x3 ⊕ x4)) ⊕ x6 ⊗ (num 100000 ⊗ (x2 ⊕ x4)) ⊕ x10 ⊗ (x2 ⊕ x4)))
    ((x4 ⊕ x5) ⊗ (x0 ⊗ (x1 ⊕ num 100 ⊗ x4) ⊗ (num 1000 ⊕ x8 ⊗ (x3 ⊕ x4)) ⊕ x7 ⊗ (num 100000 ⊗ (x2 ⊕ x4)))) refl)
    some

-- KC does not fall where nC is not below 0
kc-rises : (plus minus x y : ℕ) → minus ≤ plus → x ≤ y → minus * y + (1000 + plus * x) ≤ minus * x + (1000 + plus * y)
kc-rises plus minus x y h on =
    cert (minus ∷ plus ∷ x ∷ (y - x) ∷ y ∷ [])
    (times x3 x0 x1 h
    (times x0 x4 (x2 ⊕ x3) (omega arith)
    (times x1 (x2 ⊕ x3) x4 (omega arith) done)))
    (x0 ⊗ x4 ⊕ (num 1000 ⊕ x1 ⊗ x2)) (x0 ⊗ x2 ⊕ (num 1000 ⊕ x1 ⊗ x4)) refl

-- r at the higher of two speeds, and at the highest of three
longer : (q s z : ℕ) → q ≤ 100 * s → s ≤ z → 100 * s - q + 100 * (z - s) ≡ 100 * z - q
longer q s z h on = omega arith

longest : (q s z y : ℕ) → q ≤ 100 * s → s ≤ z → z ≤ y → 100 * s - q + 100 * (z - s + (y - z)) ≡ 100 * y - q
longest q s z y h on further = omega arith

-- how far two speeds and three are above VC
above : (vc a v : ℕ) → vc ≤ a → a ≤ v → a - vc + (v - a) ≡ v - vc
above vc a v h on = omega arith

far-above : (vc a v top : ℕ) → vc ≤ a → a ≤ v → v ≤ top → a - vc + (v - a + (top - v)) ≡ top - vc
far-above vc a v top h on further = omega arith

some-way : (a v top : ℕ) → a < v → v ≤ top → (a + (v - a) ≡ v) × (a + (v - a + (top - v)) ≡ top) × (0 < v) × (0 < v - a + (top - v))
some-way a v top h on = (omega arith, omega arith, omega arith, omega arith)

no_more : (a q : ℕ) → a - q ≤ a
no_more a q = omega arith

module _ (c : Course) (part : c.cr ≤ 100) (v0 t : ℕ) where
  -- the train brakes by t or more
  abbrev pub Brakes : ℕ → Type 0
  Brakes v = loss_of c v v0 + t * s_of v ≤ gain_of c v v0

  abbrev r : ℕ → ℕ
  r s = 100 * s - c.cr * v0

  abbrev x : ℕ → ℕ
  x v = v - c.vc.0

  s-of : (v : ℕ) → 0 < v → s_of v ≡ v
  unfolding s_of
  s-of v h = omega arith

  target : (s : ℕ) → v0 ≤ s → c.cr * v0 ≤ 100 * s
  target s h = mul-le-mul part h

  -- to a higher speed at which KC is no less
  up : (v w : ℕ) → v0 ≤ v → v ≤ w → c.minus * x v ≤ 1000 + c.plus * x v → c.minus * x w + (1000 + c.plus * x v) ≤ c.minus * x v + (1000 + c.plus * x w) → Brakes v → Brakes w
  unfolding gain_of loss_of brake_of s_of
  up v w ahead on some rises e =
      let s = max v 1 in
      let z = max w 1 in
      let h = target s (omega arith) in
      let a : s + (z - s) ≡ z = omega arith in
      let b : r s + 100 * (z - s) ≡ r z = longer (c.cr * v0) s z h (omega arith) in
      rw (a, b) at (lifted c.power s (z - s) (r s) (c.minus * x v) (1000 + c.plus * x v) (c.minus * x w) (1000 + c.plus * x w) c.dn7 c.up7 t (s-pos v) (no_more (100 * s) (c.cr * v0)) some rises e)

  -- where nC is not below 0
  pub rises : (v w : ℕ) → v0 ≤ v → v ≤ w → c.minus ≤ c.plus → Brakes v → Brakes w
  rises v w ahead on grows = up v w ahead on (let n : c.minus * x v ≤ c.plus * x v = mul-le-mul grows (le_refl (x v)) in omega arith) (kc-rises c.plus c.minus (x v) (x w) grows (omega arith))

  -- up to VC
  low : (v w : ℕ) → v0 ≤ v → v ≤ w → w ≤ c.vc.0 → Brakes v → Brakes w
  low v w ahead on slow e =
      let a : x v ≡ 0 = omega arith in
      let b : x w ≡ 0 = omega arith in
      up v w ahead on (rw a (omega (arith, mul-zero c.minus))) (rw (a, b) (le_refl _)) e

  -- the same where s is V, at standstill too
  abbrev Holds : ℕ → Type 0
  Holds v = c.power * r v * (c.minus * x v) + c.dn7 * (100000 * v) + t * v ≤ c.power * r v * (1000 + c.plus * x v) + c.up7 * (100000 * v)

  holds : (v : ℕ) → (0 < v → Brakes v) → Holds v
  unfolding gain_of loss_of brake_of
  holds zero h = let e : r 0 ≡ 0 = omega arith in rw (e, mul-zero c.power, zero-mul (c.minus * x 0), mul-zero t) (omega arith)
  holds (suc v) h = rw (s-of (suc v) (omega arith)) at (h (omega arith))

  module _ (begin end : ℕ) (ahead : v0 ≤ begin) (first : Brakes begin) (last : Brakes end) where
    -- above VC, where nC is below 0
    high : (a v : ℕ) → v0 ≤ a → c.vc.0 ≤ a → a < v → v ≤ end → c.plus ≤ c.minus → Holds a → Brakes v
    unfolding gain_of loss_of brake_of
    high a v h fast on further falls start =
        let q = target a h in
        let l = le_of_lt on in
        let (k, k', some, way) = some-way a v end on further in
        rw (s-of v some) (rw (longer (c.cr * v0) a v q l, above c.vc.0 a v fast l, k) at (chord c.power (r a) a (x a) (v - a) (end - v) c.dn7 c.up7 c.plus c.minus t falls way start
        (rw (longest (c.cr * v0) a v end q l further, far-above c.vc.0 a v end fast l further, k') (holds end (λ l. last)))))

    pub between : (v : ℕ) → begin ≤ v → v ≤ end → Brakes v
    between v from to =
        ⊎_elim
        (λ h. let e : v ≡ begin = omega arith in rw e first)
        (λ h.
        ⊎_elim
        (λ falls.
        ⊎_elim
        (λ slow. low begin v ahead from slow first)
        (λ fast.
        ⊎_elim
        (λ k. high c.vc.0 v (le_trans ahead k) (le_refl _) fast to falls (holds c.vc.0 (λ l. low begin c.vc.0 ahead k (le_refl _) first)))
        (λ k. high begin v ahead (le_of_lt k) h to falls (holds begin (λ l. first)))
        (split begin c.vc.0))
        (split v c.vc.0))
        (λ grows. rises begin v ahead from (le_of_lt grows) first)
        (split c.plus c.minus))
        (split v begin)

-- with every deceleration q times as much
abbrev scaled : ℕ → Course → Course
scaled q c = record { t8 = c.t8; r8 = c.r8; up7 = q * c.up7; dn7 = q * c.dn7; power = q * c.power; cr = c.cr; plus = c.plus; minus = c.minus; vc = c.vc }

module _ (c : Course) (v0 q v : ℕ) where
  gain-scaled : gain_of (scaled q c) v v0 ≡ q * gain_of c v v0
  unfolding gain_of brake_of
  gain-scaled =
      ring (q ∷ c.power ∷ (100 * s_of v - c.cr * v0) ∷ (1000 + c.plus * (v - c.vc.0)) ∷ c.up7 ∷ (100000 * s_of v) ∷ [])
      (x0 ⊗ x1 ⊗ x2 ⊗ x3 ⊕ x0 ⊗ x4 ⊗ x5) (x0 ⊗ (x1 ⊗ x2 ⊗ x3 ⊕ x4 ⊗ x5)) refl

  loss-scaled : loss_of (scaled q c) v v0 ≡ q * loss_of c v v0
  unfolding loss_of brake_of
  loss-scaled =
      ring (q ∷ c.power ∷ (100 * s_of v - c.cr * v0) ∷ (c.minus * (v - c.vc.0)) ∷ c.dn7 ∷ (100000 * s_of v) ∷ [])
      (x0 ⊗ x1 ⊗ x2 ⊗ x3 ⊕ x0 ⊗ x4 ⊗ x5) (x0 ⊗ (x1 ⊗ x2 ⊗ x3 ⊕ x4 ⊗ x5)) refl

-- the same of p over q
module _ (c : Course) (part : c.cr ≤ 100) (v0 p q : ℕ) where
  abbrev pub BrakesBy : ℕ → Type 0
  BrakesBy v = q * loss_of c v v0 + p * s_of v ≤ q * gain_of c v v0

  into : (v : ℕ) → BrakesBy v → Brakes (scaled q c) part v0 p v
  into v h = rw (gain-scaled c v0 q v, loss-scaled c v0 q v) h

  out : (v : ℕ) → Brakes (scaled q c) part v0 p v → BrakesBy v
  out v h = rw (gain-scaled c v0 q v, loss-scaled c v0 q v) at h

  pub rises_by : (v w : ℕ) → v0 ≤ v → v ≤ w → c.minus ≤ c.plus → BrakesBy v → BrakesBy w
  rises_by v w ahead on grows h = out w (rises (scaled q c) part v0 p v w ahead on grows (into v h))

  pub between-by : (begin end : ℕ) → v0 ≤ begin → BrakesBy begin → BrakesBy end → (v : ℕ) → begin ≤ v → v ≤ end → BrakesBy v
  between-by begin end ahead first last v from to = out v (between (scaled q c) part v0 p begin end ahead (into begin first) (into end last) v from to)
