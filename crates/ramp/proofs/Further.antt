-- How far the faster of two runs alike but for speed gets, and where the slower one is at no moment past. In a file of its own, in which
-- neither rests on the other.
use mathlib.Core.Path.{◌≡◌, refl}
use mathlib.Core.List.{[], ◌∷◌}
use Prim.Native.Nat.{ℕ, ◌+◌, ◌*◌, ◌^◌, ◌≤◌, ◌<◌}
use native.Mathlib.Omega.{arith}
use native.Mathlib.Nat.{mul-pos, le_of_lt, le_of_eq, lt_of_not-le}
use native.Mathlib.Decide.{dec_le}
use lib.Dec.{lit<}
use Rattle.exact.specs.Fraction.{Fraction, signed, ◌over◌, ◌≤q◌}
use Rattle.exact.proofs.Polynomial.{num, ◌⊕◌, ◌⊗◌}
use Rattle.exact.proofs.Certificate.{x0, x1, x2, x3, x4, x5, x6, ring, done, times, cert}
use Rattle.exact.proofs.Substitution.{≈q-refl, ≈q-sym, ≤q-cong}
use Rattle.train.specs.declared.Inertia.{Inertia}
use Rattle.train.specs.Units.{speed}
use Rattle.ramp_motion.specs.declared.Overrun.{Overrun}
use Rattle.ramp_motion.specs.declared.Plan.{Plan}
use Rattle.ramp_motion.specs.Motion.{place_at}
use Rattle.ramp_motion.specs.Plan.{IsPlan, squares, fast, slow, gain, loss}
use Rattle.ramp_motion.proofs.Brake.{built, below}
use Rattle.ramp_motion.proofs.Furthest.{more, less, finer, Fast, Slow, Gain, furthest-fine}
use Rattle.ramp_motion.proofs.Phases.{place_is}
use Rattle.ramp_plan.specs.Fair.{Small}
use Rattle.ramp_stop.specs.Stop.{Turns}
use Rattle.ramp_stop.proofs.Rolling.{rolls-on}
use Rattle.ramp.specs.Begin.{from_speed}
use Rattle.ramp.proofs.Kept.{at-most-a-millimetre}

module _ (m : Plan) (s : Small m) (t : ℕ) (h : Turns m t) (l : 50000000000 * m.tr ≤ m.start) where
  -- from 1 km/h on the train is still moving at 100 ms
  moves : slow m 100 ≤ fast m 100
  moves =
      let b : built m.tm m.tr 100 ≤ m.tr = omega arith in
      cert (m.start ∷ m.down ∷ m.up ∷ m.brake ∷ m.tr ∷ squares m.tm m.tr 100 ∷ built m.tm m.tr 100 ∷ [])
      (times x3 x5 (num 200 ⊗ x6) (below m.tm m.tr 100)
      (times (num 200 ⊗ x3) x6 x4 b
      (times (num 200 ⊗ x4) x3 (num 96390000) s.brake (times (num 100) x2 (num 74163600 ⊗ x4) s.up (times (num 1) (num 50000000000 ⊗ x4) x0 l done)))))
      (Slow x2 x3 (num 100) x5) (Fast x0 x1 (num 100)) refl

  moves-on : 100 ≤ t
  moves-on = go (dec_le 100 t)
    where
      go : Dec (100 ≤ t) → 100 ≤ t
      go (yes i) = i
      go (no i) = absurd (let n : ⊥ = omega (arith, moves, rolls-on m t h 100 (lt_of_not-le i)) in n)

module _ (k : Inertia) (o : Overrun) (m : Plan) (is : IsPlan k o m) (s : Small m) (t : ℕ) (h : Turns m t) where
  start_is : m.start ≡ 50000000000 * o.v.0 * m.tr
  unfolding speed
  start_is =
      let e = is.start.equal in
      let c : 50000000000 * o.v.0 * m.tr * 18 ≡ o.v.0 * 5 * (18 * 10 ^ 10 * m.tr) = ring (o.v.0 ∷ m.tr ∷ []) (num 50000000000 ⊗ x0 ⊗ x1 ⊗ num 18) (x0 ⊗ num 5 ⊗ (num (18 * 10 ^ 10) ⊗ x1)) refl in
      omega arith

  abbrev unit : ℕ
  unit = 108 * 10 ^ 13 * m.tr

  pub unit-some : 0 < unit
  unit-some = mul-pos (lit< tt) s.some

  -- where the run is at t, and what it can still go in a millisecond from there
  abbrev x : Fraction
  x = signed (gain m t + more m t 1) (loss m t + less m t 1) unit

  pub never-past : (p q : ℕ) → 0 < q → place_at k o (p over q) ≤q x
  never-past p q l =
      let f = furthest-fine m q t 1 l (lit< tt) h.still (le_of_lt h.back) (1000 * p) in
      let c : gain (finer q m) (1000 * p) * unit + (loss m t + less m t 1) * (unit * (q * q * q)) ≤ (gain m t + more m t 1) * (unit * (q * q * q)) + loss (finer q m) (1000 * p) * unit =
      cert (gain (finer q m) (1000 * p) ∷ loss (finer q m) (1000 * p) ∷ (gain m t + more m t 1) ∷ (loss m t + less m t 1) ∷ q ∷ unit ∷ [])
      (times x5 (x0 ⊕ x4 ⊗ x4 ⊗ x4 ⊗ x3) (x1 ⊕ x4 ⊗ x4 ⊗ x4 ⊗ x2) f done)
      (x0 ⊗ x5 ⊕ x3 ⊗ (x5 ⊗ (x4 ⊗ x4 ⊗ x4))) (x2 ⊗ (x5 ⊗ (x4 ⊗ x4 ⊗ x4)) ⊕ x1 ⊗ x5) refl in
      ≤q-cong (≈q-sym (place_is k o m is p q l s.some)) (≈q-refl {a = x} unit-some) c

  -- a faster run is at least 5/18 m/s · 100 ms further at the same millisecond, which is more
  module _ (w : ℕ) (some : 1 ≤ o.v.0) (l : o.v.0 < w) where
    abbrev m' : Plan
    m' = from_speed m w

    pub further : gain m t + more m t 1 + 1 ≤ gain m' t + less m t 1
    further =
        let e = start_is in
        let d : m.start + 50000000000 * m.tr ≤ m'.start =
        cert (m.start ∷ o.v.0 ∷ w ∷ m.tr ∷ [])
        (times (num 1) x0 (num 50000000000 ⊗ x1 ⊗ x3) (le_of_eq e) (times (num 50000000000 ⊗ x3) (x1 ⊕ num 1) x2 (omega arith) done))
        (x0 ⊕ num 50000000000 ⊗ x3) (num 50000000000 ⊗ x2 ⊗ x3) refl in
        let b : 50000000000 * m.tr ≤ m.start = rw e (cert (o.v.0 ∷ m.tr ∷ []) (times (num 50000000000 ⊗ x1) (num 1) x0 some done) (num 50000000000 ⊗ x1) (num 50000000000 ⊗ x0 ⊗ x1) refl) in
        cert (m.start ∷ m'.start ∷ m.down ∷ m.tr ∷ t ∷ more m t 1 ∷ less m t 1 ∷ [])
        (times (num 1) x5 (x6 ⊕ num (108 * 10 ^ 10) ⊗ x3) (at-most-a-millimetre m t s h)
        (times (num 6 ⊗ x4) (x0 ⊕ num 50000000000 ⊗ x3) x1 d
        (times (num 300000000000 ⊗ x3) (num 100) x4 (moves-on m s t h b) (times (num 1) (num 1) x3 s.some done))))
        (Gain x0 x2 x4 ⊕ x5 ⊕ num 1) (Gain x1 x2 x4 ⊕ x6) refl
