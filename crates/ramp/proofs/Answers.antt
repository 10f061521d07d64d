-- What the code finds out, refusal by refusal, makes the answer of the definition.
use mathlib.Core.Path.{◌≡◌, refl, sym, ◌∙◌}
use mathlib.Core.List.{[]}
use Prim.Native.Nat.{ℕ, ◌<◌}
use native.Mathlib.Omega.{arith}
use borrow.Author.Tests.{ne_eqb}
use Rattle.train.specs.declared.Inertia.{Inertia}
use Rattle.train.specs.Coefficients.{InertiaWithin}
use Rattle.train.specs.Refusal.{first_of}
use Rattle.train.proofs.Judging.{told}
use Rattle.train.proofs.Lending.{refused-demand, given-demand}
use Rattle.ramp_motion.specs.declared.Overrun.{Overrun}
use Rattle.ramp_motion.specs.declared.Plan.{Plan}
use Rattle.ramp_plan.specs.Fair.{Fair}
use Rattle.ramp.specs.declared.Stop.{Stop}
use Rattle.ramp.specs.Answer.{inputs, ramp_refusals, refused, stop_of, RampAnswers}
use Rattle.ramp.specs.Begin.{IsReady, Stops}
use Rattle.ramp.proofs.Moment.{moment-is}
use Rattle.ramp.proofs.Kept.{promised, distance_is}
use Rattle.ramp.proofs.Judging.{inputs-judge, ramp-judges}
use Rattle.ramp.proofs.Faster.{outrun}
pub use Rattle.ramp.proofs.Deciding.{ramp-rising, by-inputs, by-weakness, by-none}

module _ (k : Inertia) (o : Overrun) where
  -- what the inputs keep where none is turned away
  pub inputs-fit : first_of (inputs k o) ≡ 0 → InertiaWithin k × Fair o
  inputs-fit h =
      let (w, (v, (g, (t, (i, u))))) = (inputs-judge k o).judged.accepted h in
      (i, record { weight = w.1.0; gradient = g; v = v.1; tm = t.0; some = t.1.0; tr = t.1.1 })

  pub ramp-refused : (n : ℕ) → 0 < n → first_of (ramp_refusals k o) ≡ n → RampAnswers k o (refused n)
  unfolding stop_of
  ramp-refused n l e = record {
    answer = rw (e, ne_eqb n 0 (λ i. omega arith));
    promise = λ z. absurd (let i : n ≡ 0 = z in omega arith);
    faster = λ z. absurd (let i : n ≡ 0 = z in omega arith);
    lent = refused-demand n _ [] (refl, (refl, tt));
    spans = (told (ramp-judges k o) (sym e)).1;
  }

  pub ramp-given : (m : Plan) (r : Stop) → IsReady k o m → Stops m r → RampAnswers k o r
  unfolding stop_of
  ramp-given m r i h =
      let t = moment-is k o m i.plan i.small.some r.moment h.turns in
      let d = h.distance ∙ distance_is k o m i.plan i.small r.moment h.turns in
      record {
        answer = rw (i.accepted, ← t, ← d, ← h.refusal) refl;
        promise = λ z. rw h.distance (promised k o m i.plan i.small r.moment h.turns);
        faster = λ z w l b. outrun k o m i.plan i.small r.moment h.turns w ((ramp-judges k o).judged.accepted i.accepted).1.0.0 l;
        lent = rw h.refusal (given-demand _ []);
        spans = (told (ramp-judges k o) (h.refusal ∙ sym i.accepted)).1;
      }
