-- A course's numbers are those of the train, the gradient and the coefficients.
use Rattle.std.specs.Prelude.{◌≡◌, ◌^◌}
use Rattle.exact.specs.Fraction.{signed, ◌over◌, ◌+q◌, ◌*q◌, ◌≈q◌}
use Rattle.train.specs.declared.Train.{Train}
use Rattle.train.specs.declared.Gradient.{Gradient}
use Rattle.train.specs.declared.Coefficients.{Coefficients}
use Rattle.train_delay.specs.Delay.{tf}
use Rattle.train_slope.specs.Slope.{di, dr}
use Rattle.step_braking.specs.declared.Course.{Course}
use Rattle.step_braking.specs.Braking.{T, t_r}
use Rattle.step_braking.specs.Plan.{Small}

pub record IsCourse (k : Coefficients) (t : Train) (g : Gradient) (c : Course) : Type 0 where
  pub T : T k t ≈q c.t8 over (10 ^ 8)
  pub R : t_r +q tf k t ≈q c.r8 over (10 ^ 8)
  pub di : di k.inertia g ≈q signed c.up7 c.dn7 (10 ^ 7)
  pub power : (k.kr over 100) *q dr t.weight ≈q c.power over (10 ^ 7)
  pub cr : c.cr ≡ k.cr
  pub plus : c.plus ≡ k.nc.plus
  pub minus : c.minus ≡ k.nc.minus
  pub vc : c.vc ≡ k.vc
  pub small : Small c
