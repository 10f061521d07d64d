-- The millisecond that the search finds is the one of the definition: before it the train moves on, after it it rolls back.
use mathlib.Core.Path.{◌≡◌, refl, ◌∙◌}
use mathlib.Core.Bool.{Bool, true, false, cond}
use mathlib.Core.List.{[], ◌∷◌}
use Prim.Native.Nat.{ℕ, zero, suc, ◌*◌, ◌^◌, ◌≤◌, ◌<◌}
use native.Mathlib.Omega.{arith}
use native.Mathlib.Nat.{mul-pos, lt_of_not-le}
use native.Mathlib.Decide.{dec_le}
use borrow.Author.Tests.{le-leb, lt-leb}
use lib.Dec.{leb, lit<}
use Rattle.exact.specs.Fraction.{whole, signed, ◌over◌, cross, ◌≈q◌, leq}
use Rattle.exact.proofs.Polynomial.{num, ◌⊗◌}
use Rattle.exact.proofs.Certificate.{x0, x1, x2, done}
use Rattle.exact.proofs.Shape.{shape}
use Rattle.exact.proofs.Order.{leb-agree}
use Rattle.exact.proofs.Substitution.{≈q-refl, becomes, ≤q-cong, <q-cong}
use Rattle.train.specs.declared.Inertia.{Inertia}
use Rattle.ramp_motion.specs.declared.Overrun.{Overrun}
use Rattle.ramp_motion.specs.declared.Plan.{Plan}
use Rattle.ramp_motion.specs.Motion.{speed_at, place_at}
use Rattle.ramp_motion.specs.Plan.{IsPlan, fast, slow, gain, loss}
use Rattle.ramp_motion.proofs.Furthest.{fast-fine, slow-fine, gain-fine, loss-fine}
use Rattle.ramp_motion.proofs.Phases.{place_is, speed-is}
use Rattle.ramp_stop.specs.Stop.{Turns, longest}
use Rattle.ramp_stop.proofs.Rolling.{rolls-on}
use Rattle.ramp.specs.Answer.{last_below, moment}

last-is : (n t : ℕ) (b : ℕ → Bool) → t < n → b t ≡ true → ((s : ℕ) → t < s → b s ≡ false) → t ≡ last_below n b
unfolding last_below
last-is zero t b l e f = absurd (let i : ⊥ = omega arith in i)
last-is (suc n) t b l e f = go (dec_le n t) (λ h. last-is n t b h e f)
  where
    go : Dec (n ≤ t) → (t < n → t ≡ last_below n b) → t ≡ cond (b n) n (last_below n b)
    go (yes h) g = let i : n ≡ t = omega arith in rw (i, e) refl
    go (no h) g = rw (f n (lt_of_not-le h)) (g (lt_of_not-le h))

module _ (k : Inertia) (o : Overrun) (m : Plan) (is : IsPlan k o m) (l : 0 < m.tr) where
  -- at a whole millisecond
  pub place_at_lem : (t : ℕ) → place_at k o (t over 1000) ≈q signed (gain m t) (loss m t) (108 * 10 ^ 13 * m.tr)
  place_at_lem t =
      becomes (gain m t ∷ loss m t ∷ m.tr ∷ []) done
      (shape (num (10 ^ 9) ⊗ x0) (num (10 ^ 9) ⊗ x1) (num (108 * 10 ^ 13) ⊗ x2 ⊗ num (10 ^ 9))) (shape x0 x1 (num (108 * 10 ^ 13) ⊗ x2))
      (rw (gain-fine m 1000 t, loss-fine m 1000 t) at (place_is k o m is t 1000 (lit< tt) l)) (mul-pos (lit< tt) l) refl

  speed-at : (t : ℕ) → speed_at k o (t over 1000) ≈q signed (fast m t) (slow m t) (18 * 10 ^ 10 * m.tr)
  speed-at t =
      becomes (fast m t ∷ slow m t ∷ m.tr ∷ []) done
      (shape (num (10 ^ 6) ⊗ x0) (num (10 ^ 6) ⊗ x1) (num (18 * 10 ^ 10) ⊗ x2 ⊗ num (10 ^ 6))) (shape x0 x1 (num (18 * 10 ^ 10) ⊗ x2))
      (rw (fast-fine m 1000 t, slow-fine m 1000 t) at (speed-is k o m is t 1000 (lit< tt) l)) (mul-pos (lit< tt) l) refl

  -- the definition's test of the speed is the code's
  test-is : (t : ℕ) → leq (whole 0) (speed_at k o (t over 1000)) ≡ leb (slow m t) (fast m t)
  test-is t =
      let v = speed_at k o (t over 1000) in
      leb-agree (cross (whole 0) v) (cross v (whole 0)) (slow m t) (fast m t)
      (λ h. omega (arith, ≤q-cong (≈q-refl {a = whole 0} (lit< tt)) (speed-at t) h))
      (λ h. omega (arith, <q-cong (speed-at t) (≈q-refl {a = whole 0} (lit< tt)) h))

  pub moment-is : (t : ℕ) → Turns m t → t ≡ moment k o
  unfolding moment
  moment-is t h =
      last-is longest t (λ s. leq (whole 0) (speed_at k o (s over 1000))) h.early (test-is t ∙ le-leb _ _ h.still)
      (λ s i. test-is s ∙ lt-leb _ _ (rolls-on m t h s i))
