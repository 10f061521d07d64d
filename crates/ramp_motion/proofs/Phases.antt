-- Document 01's three phases are one polynomial form: place, speed and deceleration at any moment p / q are those of the plan.
use mathlib.Core.Path.{◌≡◌, refl}
use mathlib.Core.List.{[], ◌∷◌}
use Prim.Native.Nat.{ℕ, ◌+◌, ◌*◌, ◌-◌, ◌^◌, ◌≤◌, ◌<◌}
use native.Mathlib.Omega.{arith}
use native.Mathlib.Nat.{mul-pos}
use lib.Dec.{leb→le, nleb→lt, lit<}
use Rattle.exact.specs.Fraction.{Fraction, whole, signed, ◌over◌, ◌+q◌, ◌*q◌, ◌/q◌, ◌≈q◌, leq}
use Rattle.exact.proofs.Polynomial.{Expr, num, ◌⊕◌, ◌⊗◌}
use Rattle.exact.proofs.Certificate.{x0, x1, x2, x3, x4, x5, x6, x7, done, times, ring}
use Rattle.exact.proofs.Shape.{Shape, shape, whole_e, over_e, ◌+e◌, ◌-e◌, ◌*e◌}
use Rattle.exact.proofs.Substitution.{≈q-refl, becomes, cond-is, +q-cong, -q-cong, *q-cong, /q-cong, /q-over}
use Rattle.train.specs.declared.Inertia.{Inertia}
use Rattle.ramp_motion.specs.declared.Overrun.{Overrun}
use Rattle.ramp_motion.specs.declared.Plan.{Plan}
use Rattle.ramp_motion.specs.Motion.{dp, TM, TR, u, w, braked, deceleration_at, speed_at, place_at}
use Rattle.ramp_motion.specs.Plan.{IsPlan, full, squares, cubes, fast, slow, gain, loss}
use Rattle.ramp_motion.proofs.Brake.{sq, cu, SQ, CU, built, squares-is, cubes-is}
use Rattle.ramp_motion.proofs.Furthest.{finer, Fast, Slow, Gain, Loss}

-- a quotient by a whole number
abbrev pub div_e : Shape → ℕ → Shape
div_e a n = shape (a.plus ⊗ num 1) (a.minus ⊗ num 1) (a.over ⊗ num n)

pub by : {a b : Fraction} (n : ℕ) → 0 < n → a ≈q b → a /q whole n ≈q b /q whole n
by n l e = /q-cong e (≈q-refl {a = whole n} (lit< tt)) l

-- n / (1000 q)
abbrev fine_e : Expr → Expr → Shape
fine_e n q = shape n (num 0) (num 1000 ⊗ q)

tens : (q a n : ℕ) → a ≡ 10 * n → q * a ≡ 10 * (n * q)
tens q a n e = rw e (ring (q ∷ n ∷ []) (x0 ⊗ (num 10 ⊗ x1)) (num 10 ⊗ (x1 ⊗ x0)) refl)

hundreds : (a b q : ℕ) → (a * 100 + b * 100) * q ≡ 100 * (a * q + b * q)
hundreds a b q = ring (a ∷ b ∷ q ∷ []) ((x0 ⊗ num 100 ⊕ x1 ⊗ num 100) ⊗ x2) (num 100 ⊗ (x0 ⊗ x2 ⊕ x1 ⊗ x2)) refl

module _ (k : Inertia) (o : Overrun) (m : Plan) (is : IsPlan k o m) (p q : ℕ) (l : 0 < q) (l' : 0 < m.tr) where
  -- in ms / q
  abbrev lag : ℕ
  lag = q * m.tm

  abbrev gap : ℕ
  gap = q * m.tr

  abbrev t : ℕ
  t = 1000 * p

  cube-is : (a b : ℕ) → (full lag gap t ≡ a) × (built lag gap t ≡ b) → cubes lag gap t ≡ cu a b
  cube-is a b (e, f) = rw (← e, ← f) (cubes-is lag gap t)

  square-is : (a b : ℕ) → (full lag gap t ≡ a) × (built lag gap t ≡ b) → squares lag gap t ≡ sq a b
  square-is a b (e, f) = rw (← e, ← f) (squares-is lag gap t)

  -- the state of the brake before it acts, when it has built up for d, and when it acts in full for n
  before : t ≤ lag → (full lag gap t ≡ 0) × (built lag gap t ≡ 0)
  before h = (omega arith, omega arith)

  within : (d : ℕ) → t ≡ d + lag → d ≤ gap → (full lag gap t ≡ 0) × (built lag gap t ≡ d)
  within d h i = (omega arith, omega arith)

  beyond : (n : ℕ) → t ≡ n + lag + gap → (full lag gap t ≡ n) × (built lag gap t ≡ gap)
  beyond n h = (omega arith, omega arith)

  TM-is : TM k o ≈q m.tm over 1000
  TM-is = rw is.tm (becomes (o.tm ∷ []) done (over_e x0 100) (over_e (num 10 ⊗ x0) 1000) (≈q-refl (lit< tt)) (lit< tt) refl)

  TR-is : TR k o ≈q m.tr over 1000
  TR-is = rw is.tr (becomes (o.tr ∷ []) done (over_e x0 100) (over_e (num 10 ⊗ x0) 1000) (≈q-refl (lit< tt)) (lit< tt) refl)

  fine-over : 0 < 1000 * q
  fine-over = mul-pos (lit< tt) l

  u-is : (d : ℕ) → t ≡ d + lag → u k o (p over q) ≈q d over (1000 * q)
  u-is d h =
      becomes (p ∷ q ∷ m.tm ∷ d ∷ []) (times (num 1000 ⊗ x1) (num 1000 ⊗ x0) (x3 ⊕ x1 ⊗ x2) h done)
      (shape x0 (num 0) x1 -e over_e x2 1000) (fine_e x3 x1) (-q-cong (≈q-refl {a = p over q} l) TM-is) fine-over refl

  w-is : (n : ℕ) → t ≡ n + lag + gap → w k o (p over q) ≈q n over (1000 * q)
  w-is n h =
      becomes (p ∷ q ∷ m.tm ∷ n ∷ m.tr ∷ []) (times (num 1000000 ⊗ x1) (num 1000 ⊗ x0) (x3 ⊕ x1 ⊗ x2 ⊕ x1 ⊗ x4) h done)
      (shape x0 (num 0) x1 -e over_e x2 1000 -e over_e x4 1000) (fine_e x3 x1) (-q-cong (-q-cong (≈q-refl {a = p over q} l) TM-is) TR-is) fine-over refl

  -- some multiple of the rise time
  rise-is : (n : ℕ) → whole n *q TR k o ≈q (n * m.tr) over 1000
  rise-is n = becomes (n ∷ m.tr ∷ []) done (whole_e x0 *e over_e x1 1000) (over_e (x0 ⊗ x1) 1000) (*q-cong (≈q-refl {a = whole n} (lit< tt)) TR-is) (lit< tt) refl

  -- the three cases
  braked-is : {r c x : Fraction} → (t ≤ lag → whole 0 ≈q x) → ((d : ℕ) → t ≡ d + lag → d ≤ gap → r ≈q x) → ((n : ℕ) → t ≡ n + lag + gap → c ≈q x) → braked k o (p over q) r c ≈q x
  braked-is f g h =
      let a = tens q m.tm o.tm is.tm in
      let b = tens q m.tr o.tr is.tr in
      cond-is (leq (p over q) (TM k o))
      (λ e. let i : p * 100 + 0 * q ≤ o.tm * q + 0 * 100 = leb→le _ _ e in f (omega arith))
      (λ e.
      let i : o.tm * q + 0 * 100 < p * 100 + 0 * q = nleb→lt (p * 100 + 0 * q) (o.tm * q + 0 * 100) e in
      let s = hundreds o.tm o.tr q in
      cond-is (leq (p over q) (TM k o +q TR k o))
      (λ e'.
      let j : p * (100 * 100) + 0 * q ≤ (o.tm * 100 + o.tr * 100) * q + 0 * (100 * 100) = leb→le _ _ e' in
      g (t - lag) (omega arith) (omega arith))
      (λ e'.
      let j : (o.tm * 100 + o.tr * 100) * q + 0 * (100 * 100) < p * (100 * 100) + 0 * q = nleb→lt (p * (100 * 100) + 0 * q) ((o.tm * 100 + o.tr * 100) * q + 0 * (100 * 100)) e' in
      h (t - lag - gap) (omega arith)))

  -- what the brake takes off the place
  module _ where
    abbrev part : Fraction
    part = (m.brake * cubes lag gap t) over (54 * 10 ^ 13 * m.tr * (q * q * q))

    abbrev part_e : Expr → Shape
    part_e c = shape (x0 ⊗ c) (num 0) (num (54 * 10 ^ 13) ⊗ x3 ⊗ (x2 ⊗ x2 ⊗ x2))

    part-over : 0 < 54 * 10 ^ 13 * m.tr * (q * q * q)
    part-over = mul-pos (mul-pos (lit< tt) l') (mul-pos (mul-pos l l) l)

    part-before : t ≤ lag → whole 0 ≈q part
    part-before h =
        rw (cube-is 0 0 (before h)) (becomes (m.brake ∷ 0 ∷ q ∷ m.tr ∷ []) done (whole_e (num 0)) (part_e (num 0)) (≈q-refl (lit< tt)) part-over refl)

    part-within : (d : ℕ) → t ≡ d + lag → d ≤ gap → dp o *q (u k o (p over q) *q u k o (p over q) *q u k o (p over q)) /q (whole 6 *q TR k o) ≈q part
    part-within d h i =
        let n : dp o *q (u k o (p over q) *q u k o (p over q) *q u k o (p over q)) ≈q (m.brake * (d * d * d)) over (9 * 10 ^ 16 * (q * q * q)) =
        becomes (m.brake ∷ d ∷ q ∷ []) done
        (over_e x0 (9 * 10 ^ 7) *e (fine_e x1 x2 *e fine_e x1 x2 *e fine_e x1 x2))
        (shape (x0 ⊗ (x1 ⊗ x1 ⊗ x1)) (num 0) (num (9 * 10 ^ 16) ⊗ (x2 ⊗ x2 ⊗ x2)))
        (*q-cong is.brake (*q-cong (*q-cong (u-is d h) (u-is d h)) (u-is d h))) (mul-pos (lit< tt) (mul-pos (mul-pos l l) l)) refl in
        rw (cube-is 0 d (within d h i))
        (becomes (m.brake ∷ d ∷ q ∷ m.tr ∷ []) done
        (shape (x0 ⊗ (x1 ⊗ x1 ⊗ x1) ⊗ num 1000) (num 0) (num (9 * 10 ^ 16) ⊗ (x2 ⊗ x2 ⊗ x2) ⊗ (num 6 ⊗ x3)))
        (part_e (CU (num 0) x1))
        (/q-over n (rise-is 6) (mul-pos (lit< tt) l')) part-over refl)

    part-beyond : (n : ℕ) → t ≡ n + lag + gap → dp o *q (TR k o *q TR k o /q whole 6 +q TR k o *q w k o (p over q) /q whole 2 +q w k o (p over q) *q w k o (p over q) /q whole 2) ≈q part
    part-beyond n h =
        rw (cube-is n gap (beyond n h))
        (becomes (m.brake ∷ n ∷ q ∷ m.tr ∷ []) done
        (over_e x0 (9 * 10 ^ 7) *e (div_e (over_e x3 1000 *e over_e x3 1000) 6 +e div_e (over_e x3 1000 *e fine_e x1 x2) 2 +e div_e (fine_e x1 x2 *e fine_e x1 x2) 2))
        (part_e (CU x1 (x2 ⊗ x3)))
        (*q-cong is.brake
        (+q-cong (+q-cong (by 6 (lit< tt) (*q-cong TR-is TR-is)) (by 2 (lit< tt) (*q-cong TR-is (w-is n h)))) (by 2 (lit< tt) (*q-cong (w-is n h) (w-is n h)))))
        part-over refl)

  -- off the speed
  module _ where
    abbrev share : Fraction
    share = (m.brake * squares lag gap t) over (18 * 10 ^ 10 * m.tr * (q * q))

    abbrev share_e : Expr → Shape
    share_e s = shape (x0 ⊗ s) (num 0) (num (18 * 10 ^ 10) ⊗ x3 ⊗ (x2 ⊗ x2))

    share-over : 0 < 18 * 10 ^ 10 * m.tr * (q * q)
    share-over = mul-pos (mul-pos (lit< tt) l') (mul-pos l l)

    share-before : t ≤ lag → whole 0 ≈q share
    share-before h =
        rw (square-is 0 0 (before h)) (becomes (m.brake ∷ 0 ∷ q ∷ m.tr ∷ []) done (whole_e (num 0)) (share_e (num 0)) (≈q-refl (lit< tt)) share-over refl)

    share-within : (d : ℕ) → t ≡ d + lag → d ≤ gap → dp o *q (u k o (p over q) *q u k o (p over q)) /q (whole 2 *q TR k o) ≈q share
    share-within d h i =
        let n : dp o *q (u k o (p over q) *q u k o (p over q)) ≈q (m.brake * (d * d)) over (9 * 10 ^ 13 * (q * q)) =
        becomes (m.brake ∷ d ∷ q ∷ []) done (over_e x0 (9 * 10 ^ 7) *e (fine_e x1 x2 *e fine_e x1 x2))
        (shape (x0 ⊗ (x1 ⊗ x1)) (num 0) (num (9 * 10 ^ 13) ⊗ (x2 ⊗ x2)))
        (*q-cong is.brake (*q-cong (u-is d h) (u-is d h))) (mul-pos (lit< tt) (mul-pos l l)) refl in
        rw (square-is 0 d (within d h i))
        (becomes (m.brake ∷ d ∷ q ∷ m.tr ∷ []) done (shape (x0 ⊗ (x1 ⊗ x1) ⊗ num 1000) (num 0) (num (9 * 10 ^ 13) ⊗ (x2 ⊗ x2) ⊗ (num 2 ⊗ x3)))
        (share_e (SQ (num 0) x1)) (/q-over n (rise-is 2) (mul-pos (lit< tt) l')) share-over refl)

    share-beyond : (n : ℕ) → t ≡ n + lag + gap → dp o *q (TR k o /q whole 2 +q w k o (p over q)) ≈q share
    share-beyond n h =
        rw (square-is n gap (beyond n h))
        (becomes (m.brake ∷ n ∷ q ∷ m.tr ∷ []) done (over_e x0 (9 * 10 ^ 7) *e (div_e (over_e x3 1000) 2 +e fine_e x1 x2))
        (share_e (SQ x1 (x2 ⊗ x3))) (*q-cong is.brake (+q-cong (by 2 (lit< tt) TR-is) (w-is n h))) share-over refl)

  -- and on to the deceleration
  module _ where
    abbrev force : Fraction
    force = (m.brake * built lag gap t) over (9 * 10 ^ 7 * m.tr * q)

    abbrev force_e : Expr → Shape
    force_e b = shape (x0 ⊗ b) (num 0) (num (9 * 10 ^ 7) ⊗ x3 ⊗ x2)

    force-over : 0 < 9 * 10 ^ 7 * m.tr * q
    force-over = mul-pos (mul-pos (lit< tt) l') l

    force-before : t ≤ lag → whole 0 ≈q force
    force-before h =
        rw (before h).1 (becomes (m.brake ∷ 0 ∷ q ∷ m.tr ∷ []) done (whole_e (num 0)) (force_e (num 0)) (≈q-refl (lit< tt)) force-over refl)

    force-within : (d : ℕ) → t ≡ d + lag → d ≤ gap → dp o *q u k o (p over q) /q TR k o ≈q force
    force-within d h i =
        let n : dp o *q u k o (p over q) ≈q (m.brake * d) over (9 * 10 ^ 10 * q) =
        becomes (m.brake ∷ d ∷ q ∷ []) done (over_e x0 (9 * 10 ^ 7) *e fine_e x1 x2) (shape (x0 ⊗ x1) (num 0) (num (9 * 10 ^ 10) ⊗ x2))
        (*q-cong is.brake (u-is d h)) (mul-pos (lit< tt) l) refl in
        rw (within d h i).1
        (becomes (m.brake ∷ d ∷ q ∷ m.tr ∷ []) done (shape (x0 ⊗ x1 ⊗ num 1000) (num 0) (num (9 * 10 ^ 10) ⊗ x2 ⊗ x3))
        (force_e x1) (/q-over n TR-is l') force-over refl)

    force-beyond : (n : ℕ) → t ≡ n + lag + gap → dp o ≈q force
    force-beyond n h =
        rw (beyond n h).1
        (becomes (m.brake ∷ n ∷ q ∷ m.tr ∷ []) done (over_e x0 (9 * 10 ^ 7)) (force_e (x2 ⊗ x3)) is.brake force-over refl)

  -- the place that document 01 writes is the plan's gain - loss
  pub place_is : place_at k o (p over q) ≈q signed (gain (finer q m) t) (loss (finer q m) t) (108 * 10 ^ 13 * m.tr * (q * q * q))
  unfolding place_at
  place_is =
      becomes (m.start ∷ m.up ∷ m.down ∷ m.brake ∷ m.tr ∷ p ∷ q ∷ cubes lag gap t ∷ []) done
      (shape x0 (num 0) (num (18 * 10 ^ 10) ⊗ x4) *e shape x5 (num 0) x6
      -e div_e (shape x1 x2 (num (18 * 10 ^ 7) ⊗ x4) *e (shape x5 (num 0) x6 *e shape x5 (num 0) x6)) 2
      -e shape (x3 ⊗ x7) (num 0) (num (54 * 10 ^ 13) ⊗ x4 ⊗ (x6 ⊗ x6 ⊗ x6)))
      (shape (Gain (x6 ⊗ x6 ⊗ x0) (x6 ⊗ x2) (num 1000 ⊗ x5)) (Loss (x6 ⊗ x1) x3 (num 1000 ⊗ x5) x7) (num (108 * 10 ^ 13) ⊗ x4 ⊗ (x6 ⊗ x6 ⊗ x6)))
      (-q-cong
      (-q-cong (*q-cong is.start (≈q-refl {a = p over q} l)) (by 2 (lit< tt) (*q-cong is.slope (≈q-refl {a = (p over q) *q (p over q)} (mul-pos l l)))))
      (braked-is part-before part-within part-beyond))
      (mul-pos (mul-pos (lit< tt) l') (mul-pos (mul-pos l l) l)) refl

  -- and the speed its fast - slow
  pub speed-is : speed_at k o (p over q) ≈q signed (fast (finer q m) t) (slow (finer q m) t) (18 * 10 ^ 10 * m.tr * (q * q))
  unfolding speed_at
  speed-is =
      becomes (m.start ∷ m.up ∷ m.down ∷ m.brake ∷ m.tr ∷ p ∷ q ∷ squares lag gap t ∷ []) done
      (shape x0 (num 0) (num (18 * 10 ^ 10) ⊗ x4) -e shape x1 x2 (num (18 * 10 ^ 7) ⊗ x4) *e shape x5 (num 0) x6
      -e shape (x3 ⊗ x7) (num 0) (num (18 * 10 ^ 10) ⊗ x4 ⊗ (x6 ⊗ x6)))
      (shape (Fast (x6 ⊗ x6 ⊗ x0) (x6 ⊗ x2) (num 1000 ⊗ x5)) (Slow (x6 ⊗ x1) x3 (num 1000 ⊗ x5) x7) (num (18 * 10 ^ 10) ⊗ x4 ⊗ (x6 ⊗ x6)))
      (-q-cong (-q-cong is.start (*q-cong is.slope (≈q-refl {a = p over q} l))) (braked-is share-before share-within share-beyond))
      (mul-pos (mul-pos (lit< tt) l') (mul-pos l l)) refl

  -- and the deceleration its slope and twice the brake as far as it has built up
  pub deceleration-is : deceleration_at k o (p over q) ≈q signed (q * m.up + 2 * m.brake * built lag gap t) (q * m.down) (18 * 10 ^ 7 * m.tr * q)
  unfolding deceleration_at
  deceleration-is =
      becomes (m.up ∷ m.down ∷ m.brake ∷ m.tr ∷ q ∷ built lag gap t ∷ []) done
      (shape x0 x1 (num (18 * 10 ^ 7) ⊗ x3) +e shape (x2 ⊗ x5) (num 0) (num (9 * 10 ^ 7) ⊗ x3 ⊗ x4))
      (shape (x4 ⊗ x0 ⊕ num 2 ⊗ x2 ⊗ x5) (x4 ⊗ x1) (num (18 * 10 ^ 7) ⊗ x3 ⊗ x4))
      (+q-cong is.slope (braked-is force-before force-within force-beyond)) (mul-pos (mul-pos (lit< tt) l') l) refl
