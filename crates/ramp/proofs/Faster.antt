-- Card 13: of two runs alike but for speed the faster one gets past a place that the slower one is beyond at no moment.
use mathlib.Core.Path.{refl}
use mathlib.Core.List.{[], ◌∷◌}
use Prim.Native.Nat.{ℕ, ◌+◌, ◌*◌, ◌^◌, ◌≤◌, ◌<◌}
use native.Mathlib.Omega.{arith}
use Rattle.exact.specs.Fraction.{Fraction, signed}
use Rattle.exact.proofs.Polynomial.{num, ◌⊕◌, ◌⊗◌}
use Rattle.exact.proofs.Certificate.{x0, x1, x2, x3, x4, x5, done, times, cert}
use Rattle.exact.proofs.Substitution.{≈q-refl, ≈q-sym, <q-cong}
use Rattle.train.specs.declared.Inertia.{Inertia}
use Rattle.ramp_motion.specs.declared.Overrun.{Overrun}
use Rattle.ramp_motion.specs.declared.Plan.{Plan}
use Rattle.ramp_motion.specs.Plan.{IsPlan, gain, loss}
use Rattle.ramp_motion.proofs.Furthest.{more, less}
use Rattle.ramp_plan.specs.Fair.{Small}
use Rattle.ramp_stop.specs.Stop.{Turns}
use Rattle.ramp.specs.Answer.{at_speed, Outrun}
use Rattle.ramp.specs.Begin.{from_speed}
use Rattle.ramp.proofs.Moment.{place_at_lem}
use Rattle.ramp.proofs.Speeds.{from-plan}
use Rattle.ramp.proofs.Further.{unit-some, never-past, further}

module _ (k : Inertia) (o : Overrun) (m : Plan) (is : IsPlan k o m) (s : Small m) (t : ℕ) (h : Turns m t) where
  abbrev unit : ℕ
  unit = 108 * 10 ^ 13 * m.tr

  -- where the run is at t, and what it can still go in a millisecond from there
  abbrev x : Fraction
  x = signed (gain m t + more m t 1) (loss m t + less m t 1) unit

  module _ (w : ℕ) (some : 1 ≤ o.v.0) (l : o.v.0 < w) where
    abbrev m' : Plan
    m' = from_speed m w

    pub outrun : Outrun k o w
    outrun = record {
      place = x;
      number = unit-some k o m is s t h;
      never = never-past k o m is s t h;
      ms = t;
      reached = (place_at_lem k (at_speed o w) m' (from-plan k o m is s w) s.some t).left;
      past =
          <q-cong (≈q-refl {a = x} (unit-some k o m is s t h)) (≈q-sym (place_at_lem k (at_speed o w) m' (from-plan k o m is s w) s.some t)) (
          let c : (gain m t + more m t 1) * unit + loss m' t * unit + unit ≤ gain m' t * unit + (loss m t + less m t 1) * unit =
          cert (gain m t ∷ more m t 1 ∷ gain m' t ∷ loss m t ∷ less m t 1 ∷ unit ∷ []) (times x5 (x0 ⊕ x1 ⊕ num 1) (x2 ⊕ x4) (further k o m is s t h w some l) done)
          ((x0 ⊕ x1) ⊗ x5 ⊕ x3 ⊗ x5 ⊕ x5) (x2 ⊗ x5 ⊕ (x3 ⊕ x4) ⊗ x5) refl in
          omega (arith, unit-some k o m is s t h));
    }
