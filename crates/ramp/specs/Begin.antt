-- What the code knows before it looks for the stop, and what it finds.
use Rattle.std.specs.Prelude.{◌≡◌, ℕ, ◌+◌, ◌*◌, ◌<◌, Result, Ok, Err}
use Rattle.train.specs.declared.Inertia.{Inertia}
use Rattle.train.specs.declared.refusal.Refusal.{Refusal}
use Rattle.train.specs.Number.{number}
use Rattle.train.specs.Refusal.{first_of}
use Rattle.ramp_motion.specs.declared.Overrun.{Overrun}
use Rattle.ramp_motion.specs.declared.Plan.{Plan}
use Rattle.ramp_motion.specs.Plan.{IsPlan}
use Rattle.ramp_plan.specs.Fair.{Small, Enough}
use Rattle.ramp_stop.specs.Stop.{Turns, place_up, from}
use Rattle.ramp.specs.declared.Stop.{Stop}
use Rattle.ramp.specs.Answer.{ramp_refusals}

pub record Stops (m : Plan) (r : Stop) : Type 0 where
  pub refusal : r.refusal ≡ 0
  pub turns : Turns m r.moment
  pub distance : r.distance.0 ≡ place_up m r.moment + 1

-- the same plan from v km/h
abbrev pub from_speed : Plan → ℕ → Plan
from_speed m v = from m (50000000000 * v * m.tr)

module _ (k : Inertia) (o : Overrun) where
  pub record IsReady (m : Plan) : Type 0 where
    pub accepted : first_of (ramp_refusals k o) ≡ 0
    pub plan : IsPlan k o m
    pub small : Small m
    pub enough : Enough m

  abbrev pub Starts : Result Plan Refusal → Type 0
  Starts (Ok m) = IsReady m
  Starts (Err r) = (0 < number r) × (first_of (ramp_refusals k o) ≡ number r)
