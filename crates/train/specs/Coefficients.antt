-- Document 002's coefficients, sections 7 to 7.3.3: their first values, and the spans and steps within which a train has its own
-- (document 02, Card 5).
use Rattle.std.specs.Prelude.{◌≡◌, ℕ, ◌*◌, ◌≤◌}
use Rattle.train.specs.declared.Inertia.{Inertia}
use Rattle.train.specs.declared.Coefficients.{Coefficients}
use Rattle.train.specs.Units.{kmh}

-- h in tenths of a second, nc in thousandths per km/h, i1 and i2 in per mille, the others in hundredths
abbrev pub first : Coefficients
first = record {
  dt = 130;
  h = 10;
  kr = 57;
  cr = 5;
  nc = record { plus = 0; minus = 0 };
  vc = kmh 150;
  inertia = record { ki1 = 90; ki2 = 100; ki3 = 110; i1 = 0; i2 = record { rise = 0; fall = 21 } };
}

-- section 7.2: Ki of 0.80 to 1.20, i1 of 0 to 35 and i2 of -35 to 0 per mille
pub record InertiaWithin (k : Inertia) : Type 0 where
  pub ki1-least : 80 ≤ k.ki1
  pub ki1 : k.ki1 ≤ 120
  pub ki2-least : 80 ≤ k.ki2
  pub ki2 : k.ki2 ≤ 120
  pub ki3-least : 80 ≤ k.ki3
  pub ki3 : k.ki3 ≤ 120
  pub i1 : k.i1 ≤ 35
  pub i2-up : k.i2.rise ≤ 0
  pub i2 : k.i2.fall ≤ 35

-- sections 7, 7.1 and 7.3: Dt of 0.00 to 2.00, h of 0.0 to 5.0, Kr of 0.30 to 1.50, cr of 0.00 to 0.10, nC of -0.010 to 0.010, VC of
-- 0 to 400 by fives
pub record Within (k : Coefficients) : Type 0 where
  pub dt : k.dt ≤ 200
  pub h : k.h ≤ 50
  pub kr-least : 30 ≤ k.kr
  pub kr : k.kr ≤ 150
  pub cr : k.cr ≤ 10
  pub plus : k.nc.plus ≤ 10
  pub minus : k.nc.minus ≤ 10
  pub vc : k.vc.0 ≤ 400
  pub vc-fives : (n : ℕ) × (k.vc.0 ≡ 5 * n)
  pub inertia : InertiaWithin k.inertia
