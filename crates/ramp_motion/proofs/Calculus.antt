-- The three formulas belong together: over any time the speed loses what the deceleration at its start and at its end allow, and the
-- place gains what the speed and those decelerations allow; and the motion starts at place 0 with the train's speed.
use mathlib.Core.Path.{◌≡◌, refl}
use mathlib.Core.List.{[], ◌∷◌}
use Prim.Native.Nat.{ℕ, ◌+◌, ◌*◌, ◌^◌, ◌≤◌, ◌<◌}
use native.Mathlib.Nat.{mul-add, mul-pos, mul-zero, mul-le-mul, le_refl, add-mul}
use native.Mathlib.Omega.{arith}
use lib.Dec.{lit<}
use Rattle.exact.specs.Fraction.{Fraction, whole, signed, ◌over◌, ◌-q◌, ◌*q◌, ◌/q◌, ◌≤q◌, ◌≈q◌}
use Rattle.exact.proofs.Polynomial.{num, ◌⊕◌, ◌⊗◌}
use Rattle.exact.proofs.Certificate.{x0, x1, x2, x3, x4, x5, x6, x7, x8, x9, done, times, cert}
use Rattle.exact.proofs.Shape.{shape, ◌-e◌, ◌*e◌}
use Rattle.exact.proofs.Substitution.{≈q-refl, ≈q-sym, ≈q-trans, becomes, -q-cong, *q-cong, ≤q-cong}
use Rattle.train.specs.declared.Inertia.{Inertia}
use Rattle.train.specs.Units.{speed}
use Rattle.ramp_motion.specs.declared.Overrun.{Overrun}
use Rattle.ramp_motion.specs.declared.Plan.{Plan}
use Rattle.ramp_motion.specs.Motion.{deceleration_at, speed_at, place_at}
use Rattle.ramp_motion.specs.Plan.{IsPlan, squares, cubes, fast, slow, gain, loss}
use Rattle.ramp_motion.proofs.Brake.{built, slope, bend, tangent, parabola, squares-start, cubes-start}
use Rattle.ramp_motion.proofs.Furthest.{finer, Fast, Slow, Gain, Loss}
use Rattle.ramp_motion.proofs.Planned.{plan_of, plan_of-is}
use Rattle.ramp_motion.proofs.Phases.{div_e, by, place_is, speed-is, deceleration-is}

-- in whole numbers, over a time x from t
module _ (m : Plan) (t x : ℕ) where
  -- 2 tr times the deceleration at s is strength - down
  abbrev strength : ℕ → ℕ
  strength s = m.up + 2 * m.brake * built m.tm m.tr s

  falls-least : x * strength t + (slow m t + fast m (t + x)) ≤ fast m t + slow m (t + x) + x * m.down
  falls-least =
      cert (m.start ∷ m.up ∷ m.down ∷ m.brake ∷ t ∷ x ∷ squares m.tm m.tr t ∷ squares m.tm m.tr (t + x) ∷ built m.tm m.tr t ∷ [])
      (times x3 (x6 ⊕ num 2 ⊗ x8 ⊗ x5) x7 (slope m.tm m.tr t x) done)
      (x5 ⊗ (x1 ⊕ num 2 ⊗ x3 ⊗ x8) ⊕ (Slow x1 x3 x4 x6 ⊕ Fast x0 x2 (x4 ⊕ x5))) (Fast x0 x2 x4 ⊕ Slow x1 x3 (x4 ⊕ x5) x7 ⊕ x5 ⊗ x2) refl

  falls-most : fast m t + slow m (t + x) + x * m.down ≤ x * strength (t + x) + (slow m t + fast m (t + x))
  falls-most =
      cert (m.start ∷ m.up ∷ m.down ∷ m.brake ∷ t ∷ x ∷ squares m.tm m.tr t ∷ squares m.tm m.tr (t + x) ∷ built m.tm m.tr (t + x) ∷ [])
      (times x3 x7 (x6 ⊕ num 2 ⊗ x8 ⊗ x5) (bend m.tm m.tr t x) done)
      (Fast x0 x2 x4 ⊕ Slow x1 x3 (x4 ⊕ x5) x7 ⊕ x5 ⊗ x2) (x5 ⊗ (x1 ⊕ num 2 ⊗ x3 ⊗ x8) ⊕ (Slow x1 x3 x4 x6 ⊕ Fast x0 x2 (x4 ⊕ x5))) refl

  -- what is gone in x but for the deceleration's part
  abbrev ahead : ℕ
  ahead = gain m t + 6 * x * fast m t + 3 * x * x * m.down

  abbrev behind : ℕ
  behind = loss m t + 6 * x * slow m t

  runs-most : gain m (t + x) + (behind + 3 * x * x * strength t) ≤ loss m (t + x) + ahead
  runs-most =
      cert (m.start ∷ m.up ∷ m.down ∷ m.brake ∷ t ∷ x ∷ squares m.tm m.tr t ∷ cubes m.tm m.tr t ∷ cubes m.tm m.tr (t + x) ∷ built m.tm m.tr t ∷ [])
      (times (num 2 ⊗ x3) (x7 ⊕ num 3 ⊗ x6 ⊗ x5 ⊕ num 3 ⊗ x9 ⊗ x5 ⊗ x5) x8 (tangent m.tm m.tr t x) done)
      (Gain x0 x2 (x4 ⊕ x5) ⊕ (Loss x1 x3 x4 x7 ⊕ num 6 ⊗ x5 ⊗ Slow x1 x3 x4 x6 ⊕ num 3 ⊗ x5 ⊗ x5 ⊗ (x1 ⊕ num 2 ⊗ x3 ⊗ x9)))
      (Loss x1 x3 (x4 ⊕ x5) x8 ⊕ (Gain x0 x2 x4 ⊕ num 6 ⊗ x5 ⊗ Fast x0 x2 x4 ⊕ num 3 ⊗ x5 ⊗ x5 ⊗ x2)) refl

  runs-least : loss m (t + x) + ahead ≤ gain m (t + x) + (behind + 3 * x * x * strength (t + x))
  runs-least =
      cert (m.start ∷ m.up ∷ m.down ∷ m.brake ∷ t ∷ x ∷ squares m.tm m.tr t ∷ cubes m.tm m.tr t ∷ cubes m.tm m.tr (t + x) ∷ built m.tm m.tr (t + x) ∷ [])
      (times (num 2 ⊗ x3) x8 (x7 ⊕ num 3 ⊗ x6 ⊗ x5 ⊕ num 3 ⊗ x9 ⊗ x5 ⊗ x5) (parabola m.tm m.tr t x) done)
      (Loss x1 x3 (x4 ⊕ x5) x8 ⊕ (Gain x0 x2 x4 ⊕ num 6 ⊗ x5 ⊗ Fast x0 x2 x4 ⊕ num 3 ⊗ x5 ⊗ x5 ⊗ x2))
      (Gain x0 x2 (x4 ⊕ x5) ⊕ (Loss x1 x3 x4 x7 ⊕ num 6 ⊗ x5 ⊗ Slow x1 x3 x4 x6 ⊕ num 3 ⊗ x5 ⊗ x5 ⊗ (x1 ⊕ num 2 ⊗ x3 ⊗ x9))) refl

-- the order of two fractions over one number
over-one : (p n p' n' d : ℕ) → p + n' ≤ p' + n → signed p n d ≤q signed p' n' d
over-one p n p' n' d h = let i : (p + n') * d ≤ (p' + n) * d = mul-le-mul h (le_refl d) in rw (← add-mul p n' d, ← add-mul p' n d) i

-- the motion starts at place 0 with the train's speed
module _ (k : Inertia) (o : Overrun) (some : 0 < o.tr) (q : ℕ) (l : 0 < q) where
  abbrev m : Plan
  m = plan_of k o

  is : IsPlan k o m
  is = plan_of-is k o some

  l' : 0 < m.tr
  l' = mul-pos (lit< tt) some

  pub starts-at-0 : place_at k o (0 over q) ≈q whole 0
  starts-at-0 =
      let e : 2 * m.brake * cubes (q * m.tm) (q * m.tr) 0 ≡ 0 = rw (cubes-start (q * m.tm) (q * m.tr)) (mul-zero (2 * m.brake)) in
      ≈q-trans (place_is k o m is 0 q l l') (record { left = (place_is k o m is 0 q l l').right; right = lit< tt; equal = omega arith })

  pub starts-with-v : speed_at k o (0 over q) ≈q speed o.v
  starts-with-v =
      let e : squares (q * m.tm) (q * m.tr) 0 ≡ 0 = squares-start (q * m.tm) (q * m.tr) in
      ≈q-trans
      (becomes (m.start ∷ m.down ∷ m.up ∷ m.brake ∷ m.tr ∷ q ∷ []) done
      (shape (Fast (x5 ⊗ x5 ⊗ x0) (x5 ⊗ x1) (num 0)) (Slow (x5 ⊗ x2) x3 (num 0) (num 0)) (num (18 * 10 ^ 10) ⊗ x4 ⊗ (x5 ⊗ x5))) (shape x0 (num 0) (num (18 * 10 ^ 10) ⊗ x4))
      (rw e at (speed-is k o m is 0 q l l')) (mul-pos (lit< tt) l') refl)
      (≈q-sym is.start)

  -- from p / q to (p + h) / q
  module _ (p h : ℕ) where
    abbrev f : Plan
    f = finer q m

    abbrev t : ℕ
    t = 1000 * p

    abbrev x : ℕ
    x = 1000 * h

    abbrev D2 : ℕ
    D2 = 18 * 10 ^ 10 * m.tr * (q * q)

    abbrev D3 : ℕ
    D3 = 108 * 10 ^ 13 * m.tr * (q * q * q)

    D2-some : 0 < D2
    D2-some = mul-pos (mul-pos (lit< tt) l') (mul-pos l l)

    D3-some : 0 < D3
    D3-some = mul-pos (mul-pos (lit< tt) l') (mul-pos (mul-pos l l) l)

    -- the deceleration at a moment s / q times h / q
    loss-is : (s : ℕ) → deceleration_at k o (s over q) *q (h over q) ≈q signed (x * strength f (1000 * s) x (1000 * s)) (x * f.down) D2
    loss-is s =
        becomes (q * m.up ∷ 2 * m.brake * built (q * m.tm) (q * m.tr) (1000 * s) ∷ q * m.down ∷ m.tr ∷ q ∷ h ∷ []) done
        (shape (x0 ⊕ x1) x2 (num (18 * 10 ^ 7) ⊗ x3 ⊗ x4) *e shape x5 (num 0) x4)
        (shape (num 1000 ⊗ x5 ⊗ (x0 ⊕ x1)) (num 1000 ⊗ x5 ⊗ x2) (num (18 * 10 ^ 10) ⊗ x3 ⊗ (x4 ⊗ x4)))
        (*q-cong (deceleration-is k o m is s q l l') (≈q-refl {a = h over q} l)) D2-some refl

    lost-is : speed_at k o (p over q) -q speed_at k o ((p + h) over q) ≈q signed (fast f t + slow f (t + x)) (slow f t + fast f (t + x)) D2
    lost-is =
        rw (← mul-add 1000 p h)
        (becomes (fast f t ∷ slow f t ∷ fast f (1000 * (p + h)) ∷ slow f (1000 * (p + h)) ∷ m.tr ∷ q ∷ []) done
        (shape x0 x1 (num (18 * 10 ^ 10) ⊗ x4 ⊗ (x5 ⊗ x5)) -e shape x2 x3 (num (18 * 10 ^ 10) ⊗ x4 ⊗ (x5 ⊗ x5)))
        (shape (x0 ⊕ x3) (x1 ⊕ x2) (num (18 * 10 ^ 10) ⊗ x4 ⊗ (x5 ⊗ x5)))
        (-q-cong (speed-is k o m is p q l l') (speed-is k o m is (p + h) q l l')) D2-some refl)

    -- the speed lost is at least the deceleration at the start times the time, and at most that at the end
    pub speed-loses : deceleration_at k o (p over q) *q (h over q) ≤q speed_at k o (p over q) -q speed_at k o ((p + h) over q)
    speed-loses = ≤q-cong (≈q-sym (loss-is p)) (≈q-sym lost-is) (over-one _ _ _ _ D2 (omega (arith, falls-least f t x)))

    pub speed-loses-no-more : speed_at k o (p over q) -q speed_at k o ((p + h) over q) ≤q deceleration_at k o ((p + h) over q) *q (h over q)
    speed-loses-no-more =
        ≤q-cong (≈q-sym lost-is) (≈q-sym (loss-is (p + h))) (over-one _ _ _ _ D2 (rw (mul-add 1000 p h) (omega (arith, falls-most f t x))))

    -- half the deceleration at a moment s / q times the square of h / q
    bent-is : (s : ℕ) → deceleration_at k o (s over q) *q ((h over q) *q (h over q)) /q whole 2 ≈q signed (3 * x * x * strength f (1000 * s) x (1000 * s)) (3 * x * x * f.down) D3
    bent-is s =
        becomes (q * m.up ∷ 2 * m.brake * built (q * m.tm) (q * m.tr) (1000 * s) ∷ q * m.down ∷ m.tr ∷ q ∷ h ∷ []) done
        (div_e (shape (x0 ⊕ x1) x2 (num (18 * 10 ^ 7) ⊗ x3 ⊗ x4) *e (shape x5 (num 0) x4 *e shape x5 (num 0) x4)) 2)
        (shape (num 3 ⊗ (num 1000 ⊗ x5) ⊗ (num 1000 ⊗ x5) ⊗ (x0 ⊕ x1)) (num 3 ⊗ (num 1000 ⊗ x5) ⊗ (num 1000 ⊗ x5) ⊗ x2) (num (108 * 10 ^ 13) ⊗ x3 ⊗ (x4 ⊗ x4 ⊗ x4)))
        (by 2 (lit< tt) (*q-cong (deceleration-is k o m is s q l l') (≈q-refl {a = (h over q) *q (h over q)} (mul-pos l l)))) D3-some refl

    -- what the speed at the start and a steady deceleration, that at s / q, would add to the place
    abbrev run : ℕ → Fraction
    run s = speed_at k o (p over q) *q (h over q) -q deceleration_at k o (s over q) *q ((h over q) *q (h over q)) /q whole 2

    run_is : (s : ℕ) → run s ≈q signed (6 * x * fast f t + 3 * x * x * f.down) (6 * x * slow f t + 3 * x * x * strength f (1000 * s) x (1000 * s)) D3
    run_is s =
        becomes (fast f t ∷ slow f t ∷ 3 * x * x * strength f (1000 * s) x (1000 * s) ∷ 3 * x * x * f.down ∷ m.tr ∷ q ∷ h ∷ []) done
        (shape x0 x1 (num (18 * 10 ^ 10) ⊗ x4 ⊗ (x5 ⊗ x5)) *e shape x6 (num 0) x5 -e shape x2 x3 (num (108 * 10 ^ 13) ⊗ x4 ⊗ (x5 ⊗ x5 ⊗ x5)))
        (shape (num 6 ⊗ (num 1000 ⊗ x6) ⊗ x0 ⊕ x3) (num 6 ⊗ (num 1000 ⊗ x6) ⊗ x1 ⊕ x2) (num (108 * 10 ^ 13) ⊗ x4 ⊗ (x5 ⊗ x5 ⊗ x5)))
        (-q-cong (*q-cong (speed-is k o m is p q l l') (≈q-refl {a = h over q} l)) (bent-is s)) D3-some refl

    gone-is : place_at k o ((p + h) over q) -q place_at k o (p over q) ≈q signed (gain f (t + x) + loss f t) (loss f (t + x) + gain f t) D3
    gone-is =
        rw (← mul-add 1000 p h)
        (becomes (gain f (1000 * (p + h)) ∷ loss f (1000 * (p + h)) ∷ gain f t ∷ loss f t ∷ m.tr ∷ q ∷ []) done
        (shape x0 x1 (num (108 * 10 ^ 13) ⊗ x4 ⊗ (x5 ⊗ x5 ⊗ x5)) -e shape x2 x3 (num (108 * 10 ^ 13) ⊗ x4 ⊗ (x5 ⊗ x5 ⊗ x5)))
        (shape (x0 ⊕ x3) (x1 ⊕ x2) (num (108 * 10 ^ 13) ⊗ x4 ⊗ (x5 ⊗ x5 ⊗ x5)))
        (-q-cong (place_is k o m is (p + h) q l l') (place_is k o m is p q l l')) D3-some refl)

    -- the place gained is at most the run with the deceleration at the start, and at least that with the one at the end
    pub place-gains-no-more : place_at k o ((p + h) over q) -q place_at k o (p over q) ≤q run p
    place-gains-no-more = ≤q-cong (≈q-sym gone-is) (≈q-sym (run_is p)) (over-one _ _ _ _ D3 (omega (arith, runs-most f t x)))

    pub place-gains : run (p + h) ≤q place_at k o ((p + h) over q) -q place_at k o (p over q)
    place-gains = ≤q-cong (≈q-sym (run_is (p + h))) (≈q-sym gone-is) (over-one _ _ _ _ D3 (rw (mul-add 1000 p h) (omega (arith, runs-least f t x))))
