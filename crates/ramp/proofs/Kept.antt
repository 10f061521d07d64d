-- The answer of an accepted input is the definition's, and keeps the promise.
use mathlib.Core.Path.{◌≡◌, refl, sym}
use mathlib.Core.List.{[], ◌∷◌}
use Prim.Native.Nat.{ℕ, ◌+◌, ◌*◌, ◌^◌, ◌≤◌, ◌<◌}
use native.Mathlib.Omega.{arith}
use native.Mathlib.Nat.{mul-pos, le_of_lt}
use lib.Dec.{leb, lit<}
use Rattle.exact.specs.Fraction.{signed, cross, ◌over◌, ◌+q◌, ◌-q◌, ◌≈q◌}
use Rattle.exact.proofs.Polynomial.{Expr, num, ◌⊕◌, ◌⊗◌}
use Rattle.exact.proofs.Certificate.{x0, x1, x2, x3, x4, x5, x6, x7, x8, done, times, cert}
use Rattle.exact.proofs.Shape.{shape, over_e, ◌+e◌}
use Rattle.exact.proofs.Order.{leb-agree}
use Rattle.exact.proofs.Substitution.{≈q-refl, ≈q-sym, becomes, +q-cong, ≤q-cong, <q-cong}
use Rattle.train.specs.declared.Inertia.{Inertia}
use Rattle.ramp_motion.specs.declared.Overrun.{Overrun}
use Rattle.ramp_motion.specs.declared.Plan.{Plan}
use Rattle.ramp_motion.specs.Motion.{di, dp}
use Rattle.ramp_motion.specs.Plan.{IsPlan, squares, gain, loss}
use Rattle.ramp_motion.proofs.Brake.{built, bend}
use Rattle.ramp_motion.proofs.Furthest.{more, less, finer, Fast, Slow, furthest-fine}
use Rattle.ramp_motion.proofs.Phases.{place_is}
use Rattle.ramp_plan.specs.Fair.{Small}
use Rattle.ramp_stop.specs.Stop.{Turns}
use Rattle.ramp.specs.Answer.{strong, Promise}
use Rattle.ramp.proofs.Moment.{place_at_lem}
use Rattle.ramp.proofs.Distance.{millimetres, enough, close}
pub use Rattle.ramp.proofs.Distance.{distance_is}

-- after the last millisecond before it rolls back, the train gets at most a millimetre further
pub at-most-a-millimetre : (m : Plan) (t : ℕ) → Small m → Turns m t → more m t 1 ≤ less m t 1 + 108 * 10 ^ 10 * m.tr
at-most-a-millimetre m t s h =
    let b : built m.tm m.tr (t + 1) ≤ m.tr = omega arith in
    cert (m.start ∷ m.down ∷ m.up ∷ m.brake ∷ m.tr ∷ t ∷ squares m.tm m.tr t ∷ squares m.tm m.tr (t + 1) ∷ built m.tm m.tr (t + 1) ∷ [])
    (times (num 6) (Fast x0 x1 (x5 ⊕ num 1)) (Slow x2 x3 (x5 ⊕ num 1) x7) (le_of_lt h.back)
    (times (num 6 ⊗ x3) x7 (x6 ⊕ num 2 ⊗ x8 ⊗ num 1) (bend m.tm m.tr t 1)
    (times (num 12 ⊗ x3) x8 x4 b
    (times (num 12 ⊗ x4) x3 (num 96390000) s.brake (times (num 6) x2 (num 74163600 ⊗ x4) s.up done)))))
    (num 6 ⊗ num 1 ⊗ Fast x0 x1 x5 ⊕ num 3 ⊗ x1 ⊗ num 1 ⊗ num 1) (num 6 ⊗ num 1 ⊗ Slow x2 x3 x5 x6 ⊕ num (108 * 10 ^ 10) ⊗ x4) refl

module _ (k : Inertia) (o : Overrun) (m : Plan) (is : IsPlan k o m) (s : Small m) where
  sum_is : dp o +q di k o ≈q signed (2 * m.brake * m.tr + m.up) m.down (18 * 10 ^ 7 * m.tr)
  sum_is =
      becomes (m.brake ∷ m.up ∷ m.down ∷ m.tr ∷ []) done (over_e x0 (9 * 10 ^ 7) +e shape x1 x2 (num (18 * 10 ^ 7) ⊗ x3)) (shape (num 2 ⊗ x0 ⊗ x3 ⊕ x1) x2 (num (18 * 10 ^ 7) ⊗ x3))
      (+q-cong is.brake is.slope) (mul-pos (lit< tt) s.some) refl

  -- refusal 10's test
  pub strong-is : leb (m.down + 9000000 * m.tr) (2 * m.brake * m.tr + m.up) ≡ strong k o
  unfolding strong
  strong-is =
      let a = dp o +q di k o in
      sym (leb-agree (cross (5 over 100) a) (cross a (5 over 100)) (m.down + 9000000 * m.tr) (2 * m.brake * m.tr + m.up)
      (λ h. omega (arith, ≤q-cong (≈q-refl {a = 5 over 100} (lit< tt)) sum_is h))
      (λ h. omega (arith, <q-cong sum_is (≈q-refl {a = 5 over 100} (lit< tt)) h)))

  module _ (t : ℕ) (h : Turns m t) where
    abbrev D : ℕ
    D = millimetres m t

    abbrev unit_e : Expr
    unit_e = num (108 * 10 ^ 10) ⊗ x7

    abbrev cubed : Expr
    cubed = x6 ⊗ x6 ⊗ x6

    -- at no moment p / q is the place beyond it
    never-beyond : (p q : ℕ) → 0 < q → 1000 * gain (finer q m) (1000 * p) ≤ D * (108 * 10 ^ 13 * m.tr * (q * q * q)) + 1000 * loss (finer q m) (1000 * p)
    never-beyond p q l =
        cert (gain (finer q m) (1000 * p) ∷ loss (finer q m) (1000 * p) ∷ gain m t ∷ loss m t ∷ more m t 1 ∷ less m t 1 ∷ q ∷ m.tr ∷ D ∷ [])
        (times (num 1000) (x0 ⊕ cubed ⊗ (x3 ⊕ x5)) (x1 ⊕ cubed ⊗ (x2 ⊕ x4)) (furthest-fine m q t 1 l (lit< tt) h.still (le_of_lt h.back) (1000 * p))
        (times (num 1000 ⊗ cubed) x4 (x5 ⊕ unit_e) (at-most-a-millimetre m t s h) (times (num 1000 ⊗ cubed) (x2 ⊕ unit_e) (x8 ⊗ unit_e ⊕ x3) (enough k o m is s t h) done)))
        (num 1000 ⊗ x0) (x8 ⊗ (num (108 * 10 ^ 13) ⊗ x7 ⊗ cubed) ⊕ num 1000 ⊗ x1) refl

    pub promised : Promise k o 2 D t
    promised = record {
      number = λ p q l. (place_is k o m is p q l s.some).left;
      never = λ p q l.
          ≤q-cong (≈q-sym (place_is k o m is p q l s.some)) (≈q-refl {a = D over 1000} (lit< tt)) (omega (arith, never-beyond p q l));
      near =
          <q-cong (≈q-refl {a = (D over 1000) -q (2 over 1000)} (lit< tt)) (≈q-sym (place_at_lem k o m is s.some t)) (omega (arith, close k o m is s t h));
    }
