-- What the bounds show of several speeds at once.
use Prim.Native.Nat.{ℕ, ◌+◌, ◌*◌, ◌^◌, ◌≤◌}
use native.Mathlib.Omega.{arith}
use borrow.Author.Tests.{le-leb}
use Rattle.step_braking.specs.declared.Course.{Course}
use Rattle.step_braking.specs.Plan.{Enough}
use Rattle.step_curve.specs.declared.Curve.TheVariants.{P}
use Rattle.step_curve.specs.Plan.{a_of, sum_at}
use Rattle.query_climb.specs.Sure.{Sure}
use Rattle.query_permitted.specs.Find.{fits_by}

-- what the test of the speeds after u, up to w, says
pub sure-of : (c : Course) (v0 u w d : ℕ) → ((v : ℕ) → u + 1 ≤ v → v ≤ w → Enough c v v0 × (sum_at P c v v0 ≤ 81 * 10 ^ 20 * a_of c v v0 * (1000 * d))) → Sure (fits_by c v0 d) u w
unfolding fits_by
sure-of c v0 u w d f = record { each = λ v j k. let (e, h) = f v (omega arith) k in rw (le-leb _ _ e) (le-leb _ _ h) }
