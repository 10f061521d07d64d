-- A slower train stops no later and no further.
use mathlib.Core.List.{[], ◌∷◌}
use mathlib.Core.Path.{refl}
use Prim.Native.Nat.{ℕ, ◌*◌, ◌-◌, ◌^◌, ◌≤◌, ◌<◌}
use native.Mathlib.Omega.{arith}
use native.Mathlib.Nat.{le_refl, le_trans, mul-pos, lt_of_not-le}
use native.Mathlib.Decide.{dec_le}
use lib.Dec.{lit<}
use Rattle.exact.proofs.Certificate.{x0, x1, x2, x3, done, times, cert}
use Rattle.exact.proofs.Polynomial.{num, ◌⊗◌}
use Rattle.exact.proofs.Raised.{raised-over-le}
use Rattle.ramp_motion.specs.declared.Plan.{Plan}
use Rattle.ramp_motion.specs.Plan.{gain, loss}
use Rattle.ramp_motion.proofs.Furthest.{Gain, no-further}
use Rattle.ramp_stop.specs.Stop.{Turns, place_up, from}
use Rattle.ramp_stop.proofs.Rolling.{rolls-on}

module _ (m : Plan) (v w : ℕ) (h : v ≤ w) (t t' : ℕ) (a : Turns (from m v) t) (b : Turns (from m w) t') where
  pub no-later : t ≤ t'
  no-later = go (dec_le t t')
    where
      go : Dec (t ≤ t') → t ≤ t'
      go (yes i) = i
      go (no i) = absurd (let n : ⊥ = omega (arith, a.still, rolls-on (from m w) t' b t (lt_of_not-le i)) in n)

  gains-less : gain (from m v) t ≤ gain (from m w) t
  gains-less = cert (v ∷ w ∷ m.down ∷ t ∷ []) (times (num 6 ⊗ x3) x0 x1 h done) (Gain x0 x2 x3) (Gain x1 x2 x3) refl

  place-less : gain (from m v) t - loss (from m v) t ≤ gain (from m w) t' - loss (from m w) t'
  place-less = omega (arith, gains-less, no-further (from m w) t t' no-later b.still)

  pub stops-sooner : 0 < m.tr → place_up (from m v) t ≤ place_up (from m w) t'
  unfolding place_up
  stops-sooner l =
      let d : 0 < 108 * 10 ^ 10 * m.tr = mul-pos (lit< tt) l in
      let e = (raised-over-le _ _ (place_up (from m w) t') d).0 (le_refl (place_up (from m w) t')) in
      (raised-over-le _ _ _ d).1 (le_trans place-less e)
