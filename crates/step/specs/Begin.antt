-- What the code knows before it works out a distance, and the four distances by the numbers that it works with.
use Rattle.std.specs.Prelude.{◌≡◌, ◌++◌, ℕ, Result, Ok, Err}
use Rattle.train.specs.declared.Kmh.{Kmh}
use Rattle.train.specs.declared.Train.{Train}
use Rattle.train.specs.declared.Gradient.{Gradient}
use Rattle.train.specs.declared.Coefficients.{Coefficients}
use Rattle.train.specs.declared.refusal.Refusal.{Refusal}
use Rattle.train.specs.Refusal.{first_of}
use Rattle.train.specs.Number.{number}
use Rattle.step_braking.specs.declared.Course.{Course}
use Rattle.step_curve.specs.declared.Curve.TheVariants.{Ebi, Sbi, W, P}
use Rattle.step_braking.specs.Plan.{Near, Enough}
use Rattle.step_curve.specs.Plan.{place_of}
use Rattle.step_braking.specs.Agreement.{IsCourse}
use Rattle.step.specs.declared.Distances.{Distances}
use Rattle.step.specs.Answer.{inputs, weak}

-- the refusals up to 10, the strength taken at `at`
module _ (k : Coefficients) (t : Train) (g : Gradient) (v v0 at : Kmh) where
  abbrev pub refusal : ℕ
  refusal = first_of (inputs k t g v v0 ++ weak k t g at v0)

  pub record IsReady (c : Course) : Type 0 where
    pub accepted : refusal ≡ 0
    pub speeds : Near v.0 v0.0
    pub course : IsCourse k t g c
    pub enough : Enough c at.0 v0.0

  abbrev pub Starts : Result Course Refusal → Type 0
  Starts (Ok c) = IsReady c
  Starts (Err r) = refusal ≡ number r

abbrev pub places_of : Course → Kmh → Kmh → Distances
places_of c v v0 =
    record {
      refusal = 0;
      ebi = record { 0 = place_of Ebi c v.0 v0.0 };
      sbi = record { 0 = place_of Sbi c v.0 v0.0 };
      w = record { 0 = place_of W c v.0 v0.0 };
      p = record { 0 = place_of P c v.0 v0.0 };
    }
