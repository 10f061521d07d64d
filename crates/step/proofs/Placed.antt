-- The four distances: by a course they are the definition's, each is exact, and so they are in order and in time.
use mathlib.Core.Path.{◌≡◌}
use Prim.Native.Nat.{◌≤◌}
use Rattle.train.specs.declared.Kmh.{Kmh}
use Rattle.train.specs.declared.Train.{Train}
use Rattle.train.specs.declared.Gradient.{Gradient}
use Rattle.train.specs.declared.Coefficients.{Coefficients}
use Rattle.step_curve.specs.declared.Curve.TheVariants.{Ebi, Sbi, W, P}
use Rattle.step_braking.specs.declared.Course.{Course}
use Rattle.step_braking.specs.Plan.{Enough}
use Rattle.step_braking.specs.Agreement.{IsCourse}
use Rattle.step_curve.specs.Order.{InOrder, InTime}
use Rattle.step_curve.proofs.Ordered.{in_order_lem}
use Rattle.step_curve.proofs.Timed.{in-time}
use Rattle.step_curve.proofs.Exact.{distance_is, distance_least}
use Rattle.step.specs.declared.Distances.{Distances}
use Rattle.step.specs.Answer.{distances, Exact}
use Rattle.step.specs.Begin.{places_of}

-- the second demand puts the four in order, and gives the time between them
module _ (k : Coefficients) (t : Train) (g : Gradient) (v v0 : Kmh) (d : Distances) (e : Exact k t g v v0 d) where
  pub exact-in-order : InOrder d.ebi.0 d.sbi.0 d.w.0 d.p.0
  exact-in-order = in_order_lem k t g v v0 e.ebi e.sbi e.w e.p

  pub exact-in-time : InTime v.0 d.sbi.0 d.w.0 d.p.0
  exact-in-time = in-time k t g v v0 e.sbi e.w e.p

-- a course that is the train's gives them
module _ (k : Coefficients) (t : Train) (g : Gradient) (v v0 : Kmh) (c : Course) (ahead : v0.0 ≤ v.0) (is : IsCourse k t g c) (enough : Enough c v.0 v0.0) where
  pub exact-at : Exact k t g v v0 (distances k t g v v0)
  exact-at = let least = distance_least k t g c is v v0 ahead enough in record { ebi = least Ebi; sbi = least Sbi; w = least W; p = least P }

  pub places-are : places_of c v v0 ≡ distances k t g v v0
  places-are = let at = distance_is k t g c is v v0 ahead enough in rw (at Ebi, at Sbi, at W, at P)
