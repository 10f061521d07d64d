-- Every accepted input keeps the promise, by the definitions alone.
use mathlib.Core.Path.{◌≡◌, ◌∙◌}
use mathlib.Core.Bool.{true}
use Prim.Native.Nat.{ℕ, ◌+◌}
use borrow.Author.Tests.{leb-true, le-leb}
use Rattle.train.specs.declared.Inertia.{Inertia}
use Rattle.train.specs.Coefficients.{InertiaWithin}
use Rattle.train.specs.Refusal.{first_of}
use Rattle.train.proofs.Refusals.{none_before}
use Rattle.ramp_motion.specs.declared.Overrun.{Overrun}
use Rattle.ramp_motion.specs.declared.Plan.{Plan}
use Rattle.ramp_motion.specs.Plan.{IsPlan}
use Rattle.ramp_motion.proofs.Planned.{plan_of, plan_of-is}
use Rattle.ramp_plan.specs.Fair.{Fair, Small, Enough}
use Rattle.ramp_plan.proofs.Whole.{plan_of-small}
use Rattle.ramp_stop.specs.Stop.{Turns, place_up}
use Rattle.ramp_stop.proofs.Rolling.{turns}
use Rattle.ramp.specs.Answer.{inputs, strong, weak, ramp_refusals, moment, distance, leeway, Promise}
use Rattle.ramp.proofs.Moment.{moment-is}
use Rattle.ramp.proofs.Kept.{strong-is, promised, distance_is}
use Rattle.ramp.proofs.Judging.{ramp-judges}
use Rattle.ramp.proofs.Answers.{inputs-fit}

module _ (k : Inertia) (o : Overrun) (z : first_of (ramp_refusals k o) ≡ 0) where
  pub is-strong : strong k o ≡ true
  unfolding strong
  is-strong = le-leb _ _ ((ramp-judges k o).judged.accepted z).1.1.1.1.1.0

  -- its motion in whole numbers, and the moment at which it turns
  fit : InertiaWithin k × Fair o
  fit = inputs-fit k o (none_before (inputs k o) (weak k o) z)

  abbrev pub m : Plan
  m = plan_of k o

  pub is : IsPlan k o m
  is = plan_of-is k o fit.1.some

  pub small : Small m
  small = plan_of-small k o fit.0 fit.1

  pub enough : Enough m
  enough = leb-true _ _ (strong-is k o m is small ∙ is-strong)

  pub gets-to : (t : ℕ) → Turns m t → place_up m t + 1 ≡ distance k o
  gets-to t h = distance_is k o m is small t h

  pub always : Promise k o leeway (distance k o) (moment k o)
  always = let (t, h) = turns m small enough in rw (← gets-to t h, ← moment-is k o m is small.some t h) (promised k o m is small t h)
