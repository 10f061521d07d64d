-- Whether the brake is strong enough along the overlap: it is at one speed just where it is at every other. What is found then.
use Rattle.std.proofs.Common.{Ok, Err}
use mathlib.Core.Path.{◌≡◌, refl, sym, ◌∙◌}
use mathlib.Core.Bool.{Bool, true, false, not, cond}
use Prim.Native.Nat.{ℕ, ◌≤◌, ◌<◌, min}
use borrow.Author.Tests.{lt-ltb, le-ltb, ne_eqb, not-false}
use native.Mathlib.Omega.{arith}
use lib.Dec.{eqb}
use Rattle.train.specs.declared.Kmh.{Kmh}
use Rattle.train.specs.declared.Metre.{Metre}
use Rattle.train.specs.declared.Inertia.{Inertia}
use Rattle.train.specs.declared.refusal.Refusal.{Refusal}
use Rattle.train.specs.Number.{number}
use Rattle.train.specs.Refusal.{first_of}
use Rattle.ramp_motion.specs.declared.Overrun.{Overrun}
use Rattle.ramp_motion.specs.Motion.{dp}
use Rattle.ramp.specs.Answer.{at_speed, inputs, strong, ramp_refusals}
use Rattle.ramp.proofs.Answers.{by-weakness, by-none}
use Rattle.ramp.proofs.Always.{is-strong}
use Rattle.query_climb.specs.Climb.{climb}
use Rattle.query_climb.proofs.Climbing.{highest}
use Rattle.query_release.specs.Release.{stops_within, release_of, weak_past, Releases}

module _ (k : Inertia) (o : Overrun) where
  abbrev refusal : ℕ → ℕ
  refusal v = first_of (ramp_refusals k (at_speed o v))

  -- what is turned away at 1 km/h is turned away at every speed
  pub any-speed : (v : ℕ) → 1 ≤ v → v ≤ 100 → refusal v ≡ refusal 1
  unfolding strong dp
  any-speed v a b = rw (le-ltb v 1 a, le-ltb 100 v b) refl

  same-strength : (v : ℕ) → strong k (at_speed o v) ≡ strong k o
  unfolding strong dp
  same-strength v = refl

  module _ (overlap : Metre) where
    -- without an overlap the ramp is not consulted
    pub no-overlap : (top : Kmh) → overlap.0 ≡ 0 → (weak_past k o overlap ≡ false) × (0 ≡ release_of k o overlap top)
    unfolding weak_past release_of
    no-overlap top e = rw e (refl, refl)

    module _ (h : 0 < overlap.0) where
      pub release-is : (top : Kmh) → climb (stops_within k o overlap) 0 (min 100 top.0) ≡ release_of k o overlap top
      unfolding release_of
      release-is top = rw (ne_eqb overlap.0 0 (λ e. omega arith)) refl

      weak-is : weak_past k o overlap ≡ not (strong k o)
      unfolding weak_past
      weak-is = rw (lt-ltb 0 overlap.0 h) refl

      pub strong-past : refusal 1 ≡ 0 → weak_past k o overlap ≡ false
      strong-past z = weak-is ∙ rw (sym (same-strength 1) ∙ is-strong k (at_speed o 1) z) refl

      module _ (z : first_of (inputs k (at_speed o 1)) ≡ 0) where
        pub accepted-past : weak_past k o overlap ≡ false → refusal 1 ≡ 0
        accepted-past e = by-none k (at_speed o 1) z (same-strength 1 ∙ not-false (strong k o) (sym weak-is ∙ e))

        pub weak-past : 0 < refusal 1 → (weak_past k o overlap ≡ true) × (refusal 1 ≡ 10)
        weak-past r = go (strong k o) refl
          where
            go : (b : Bool) → strong k o ≡ b → (weak_past k o overlap ≡ true) × (refusal 1 ≡ 10)
            go true e = absurd (let i : refusal 1 ≡ 0 = by-none k (at_speed o 1) z (same-strength 1 ∙ e) in omega arith)
            go false e = (weak-is ∙ rw e refl, by-weakness k (at_speed o 1) z (same-strength 1 ∙ e))

    module _ (top : Kmh) where
      at_most : release_of k o overlap top ≤ min 100 top.0
      unfolding release_of
      at_most = go (eqb overlap.0 0) _
        where
          go : (b : Bool) (n : ℕ) → cond b 0 (climb (stops_within k o overlap) 0 n) ≤ n
          go true n = omega arith
          go false n = omega (arith, (highest (stops_within k o overlap) 0 n).to)

      pub found-weak : (r : Refusal) → weak_past k o overlap ≡ true → number r ≡ 10 → Releases k o overlap top (Err r)
      found-weak r e n = record { says = rw (e, n) refl; low = omega arith; slow = omega arith }

      pub found-speed : (v : Kmh) → weak_past k o overlap ≡ false → v.0 ≡ release_of k o overlap top → Releases k o overlap top (Ok v)
      found-speed v e h = record { says = rw (e, h) refl; low = omega (arith, at_most); slow = omega (arith, at_most) }
