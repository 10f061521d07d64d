-- The distance in mm: it is the definition's, and more than the place at the moment by 1 to 2. In a file of its own, in which no law
-- rests on another of them.
use mathlib.Core.Path.{◌≡◌, refl, sym, ap}
use mathlib.Core.List.{[], ◌∷◌}
use Prim.Native.Nat.{ℕ, ◌+◌, ◌*◌, ◌-◌, ◌^◌, ◌≤◌, ◌<◌}
use native.Mathlib.Omega.{arith}
use native.Mathlib.Nat.{mul-pos, le_refl}
use lib.Dec.{lit<}
use Rattle.exact.specs.Fraction.{whole}
use Rattle.exact.proofs.Polynomial.{num, ◌⊕◌, ◌⊗◌}
use Rattle.exact.proofs.Certificate.{x0, x1, x2, x3, done, times, cert}
use Rattle.exact.proofs.Shape.{shape, whole_e, ◌*e◌}
use Rattle.exact.proofs.Substitution.{≈q-refl, ≈q-trans, becomes, net, *q-cong}
use Rattle.exact.proofs.Raised.{raised-cong, raised-over-le, raised-over-near}
use Rattle.train.specs.declared.Inertia.{Inertia}
use Rattle.ramp_motion.specs.declared.Overrun.{Overrun}
use Rattle.ramp_motion.specs.declared.Plan.{Plan}
use Rattle.ramp_motion.specs.Plan.{IsPlan, gain, loss}
use Rattle.ramp_motion.proofs.Furthest.{ahead}
use Rattle.ramp_plan.specs.Fair.{Small}
use Rattle.ramp_stop.specs.Stop.{Turns, place_up}
use Rattle.ramp.specs.Answer.{distance}
use Rattle.ramp.proofs.Moment.{place_at_lem, moment-is}

-- the millimetres that are answered
abbrev pub millimetres : Plan → ℕ → ℕ
millimetres m t = place_up m t + 1

module _ (k : Inertia) (o : Overrun) (m : Plan) (is : IsPlan k o m) (s : Small m) (t : ℕ) (h : Turns m t) where
  abbrev unit : ℕ
  unit = 108 * 10 ^ 10 * m.tr

  abbrev D : ℕ
  D = millimetres m t

  unit-some : 0 < unit
  unit-some = mul-pos (lit< tt) s.some

  -- the distance in mm is more than the place at t by 1 to 2
  pub enough : gain m t + unit ≤ D * unit + loss m t
  unfolding place_up
  enough =
      let i : gain m t - loss m t ≤ place_up m t * unit = (raised-over-le (gain m t - loss m t) unit (place_up m t) unit-some).0 (le_refl (place_up m t)) in
      cert (gain m t ∷ loss m t ∷ unit ∷ place_up m t ∷ []) (times (num 1) x0 (x3 ⊗ x2 ⊕ x1) (omega arith) done) (x0 ⊕ x2) ((x3 ⊕ num 1) ⊗ x2 ⊕ x1) refl

  pub close : D * unit + loss m t + 1 ≤ gain m t + 2 * unit
  unfolding place_up
  close =
      let i : place_up m t * unit < gain m t - loss m t + unit = raised-over-near (gain m t - loss m t) unit unit-some in
      let a = ahead m t h.still in
      cert (gain m t ∷ loss m t ∷ unit ∷ place_up m t ∷ []) (times (num 1) (x3 ⊗ x2 ⊕ x1 ⊕ num 1) (x0 ⊕ x2) (omega arith) done) ((x3 ⊕ num 1) ⊗ x2 ⊕ x1 ⊕ num 1) (x0 ⊕ num 2 ⊗ x2) refl

  pub distance_is : D ≡ distance k o
  unfolding distance place_up
  distance_is =
      ap (λ n. n + 1)
      (rw (← moment-is k o m is s.some t h)
      (sym (raised-cong
      (≈q-trans
      (becomes (gain m t ∷ loss m t ∷ m.tr ∷ []) done (whole_e (num 1000) *e shape x0 x1 (num (108 * 10 ^ 13) ⊗ x2)) (shape x0 x1 (num (108 * 10 ^ 10) ⊗ x2))
      (*q-cong (≈q-refl {a = whole 1000} (lit< tt)) (place_at_lem k o m is s.some t)) unit-some refl)
      (net (gain m t) (loss m t) unit (ahead m t h.still) unit-some)))))
