-- The coefficients that C's record stands for (document 02, Card 5). What is signed there is a rise and a fall, or a plus and a minus.
use Rattle.std.specs.Prelude.{◌≡◌, ℕ, suc, pos, negsuc}
use Rattle.train.specs.declared.Inertia.{Inertia}
use Rattle.train.specs.declared.Coefficients.{Coefficients}
use Rattle.train.specs.Gradient.{gradient_of}
use Rattle.train.specs.Units.{kmh}
use Rattle.approach_train.specs.declared.EnteredInertia.{EnteredInertia}
use Rattle.approach_train.specs.declared.EnteredCoefficients.{EnteredCoefficients}

abbrev pub inertia_of : EnteredInertia → Inertia
inertia_of k = record { ki1 = k.ki1; ki2 = k.ki2; ki3 = k.ki3; i1 = k.i1; i2 = gradient_of k.i2 }

abbrev pub coefficients_of : EnteredCoefficients → Coefficients
coefficients_of k =
    let nc = gradient_of k.nc in
    record { dt = k.dt; h = k.h; kr = k.kr; cr = k.cr; nc = record { plus = nc.rise; minus = nc.fall }; vc = kmh k.vc; inertia = inertia_of k.inertia }

-- the records once more, in words of their own: each number as it is; n is n up, negsuc n, which is -(n + 1), is n + 1 down
pub record InertiaMeant (k : EnteredInertia) (r : Inertia) : Type 0 where
  pub ki1 : r.ki1 ≡ k.ki1
  pub ki2 : r.ki2 ≡ k.ki2
  pub ki3 : r.ki3 ≡ k.ki3
  pub i1 : r.i1 ≡ k.i1
  pub up : (n : ℕ) → k.i2 ≡ pos n → (r.i2.rise ≡ n) × (r.i2.fall ≡ 0)
  pub down : (n : ℕ) → k.i2 ≡ negsuc n → (r.i2.rise ≡ 0) × (r.i2.fall ≡ suc n)

pub record CoefficientsMeant (k : EnteredCoefficients) (r : Coefficients) : Type 0 where
  pub dt : r.dt ≡ k.dt
  pub h : r.h ≡ k.h
  pub kr : r.kr ≡ k.kr
  pub cr : r.cr ≡ k.cr
  pub up : (n : ℕ) → k.nc ≡ pos n → (r.nc.plus ≡ n) × (r.nc.minus ≡ 0)
  pub down : (n : ℕ) → k.nc ≡ negsuc n → (r.nc.plus ≡ 0) × (r.nc.minus ≡ suc n)
  pub vc : r.vc.0 ≡ k.vc
  pub inertia : InertiaMeant k.inertia r.inertia
