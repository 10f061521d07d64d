-- What the code asks for and tests; nobody has to believe this.
use Rattle.std.specs.Prelude.{Bool, ◌&&◌, ℕ, ◌*◌, ◌^◌, ◌≤◌, leb}
use Rattle.train.specs.declared.Kmh.{Kmh}
use Rattle.step_braking.specs.declared.Course.{Course}
use Rattle.step_braking.specs.Plan.{strong_of, Small}
use Rattle.step_curve.specs.declared.Curve.TheVariants.{P}
use Rattle.step_curve.specs.Plan.{a_of, sum_at}

-- the fit without a division
unfoldable pub fits_by : Course → ℕ → ℕ → ℕ → Bool
fits_by c v0 d v = strong_of c v v0 && leb (sum_at P c v v0) (81 * 10 ^ 20 * a_of c v v0 * (1000 * d))

-- what a climb from v0 to the top speed asks for
pub record Climbing (c : Course) (v0 top : Kmh) : Type 0 where
  pub small : Small c
  pub ahead : v0.0 ≤ top.0
  pub high : top.0 ≤ 330
