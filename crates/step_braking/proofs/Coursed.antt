-- Every accepted train has a course on every gradient: whole numbers that are the paper's.
use mathlib.Core.Path.{refl}
use Prim.Native.Nat.{ℕ, ◌+◌, ◌*◌, ◌^◌, ◌≤◌}
use native.Mathlib.Omega.{arith}
use Rattle.exact.specs.Fraction.{signed, ◌over◌, ◌≈q◌}
use Rattle.train.specs.declared.Train.{Train}
use Rattle.train.specs.declared.Gradient.{Gradient}
use Rattle.train.specs.declared.Coefficients.{Coefficients}
use Rattle.train.specs.Coefficients.{Within}
use Rattle.train.specs.Gradient.{Moderate}
use Rattle.train_delay.specs.Delay.{delay}
use Rattle.train_slope.specs.Slope.{factor, di, dr}
use Rattle.train_slope.proofs.Factors.{factor-small}
use Rattle.train_delay.proofs.Delays.{whole-delay}
use Rattle.train_slope.proofs.Decelerations.{di-is, dr-is, slope-small}
use Rattle.step_braking.specs.declared.Course.{Course}
use Rattle.step_braking.specs.Agreement.{IsCourse}
use Rattle.step_braking.proofs.Steady.{T-is, R-is, power-is, delay-small, power_small}

module _ (k : Coefficients) (t : Train) (g : Gradient) (w : Within k) where
  -- of the delay in millionths of a second, the slope's deceleration in 10⁻⁷ m/s² and the nominal one in 10⁻⁵ m/s²
  module _ (d up7 dn7 dr5 : ℕ) where
    abbrev pub coursed : Course
    coursed =
        record {
          t8 = k.h * 10000000 + k.dt * d;
          r8 = 100000000 + k.dt * d;
          up7 = up7;
          dn7 = dn7;
          power = k.kr * dr5;
          cr = k.cr;
          plus = k.nc.plus;
          minus = k.nc.minus;
          vc = k.vc;
        }

    pub is-course : (d over 1000000 ≈q delay t) × (d ≤ 18500000) → (di k.inertia g ≈q signed up7 dn7 (10 ^ 7)) × (up7 ≤ 4120200) × (dn7 ≤ 4120200) → (dr t.weight ≈q dr5 over (10 ^ 5)) × (dr5 ≤ 119000) → IsCourse k t g coursed
    is-course e p n =
        let late = delay-small _ _ w.dt e.1 in
        record {
          T = T-is k t d e.0;
          R = R-is k t d e.0;
          di = p.0;
          power = power-is k.kr t.weight dr5 n.0;
          cr = refl;
          plus = refl;
          minus = refl;
          vc = refl;
          small = record {
            t8 = omega (arith, w.h);
            r8 = omega arith;
            up7 = p.1;
            dn7 = p.2;
            power = power_small _ _ w.kr n.1;
            cr = w.cr;
            plus = w.plus;
            minus = w.minus;
          };
        }

  pub course : t.weight ≤ 160 → t.length.0 ≤ 1000 → Moderate g → (c : Course) × IsCourse k t g c
  course heavy long m =
      let (d, e) = whole-delay t long in
      let f = factor-small k.inertia g w.inertia in
      (coursed d (factor k.inertia g * 981 * g.rise) (factor k.inertia g * 981 * g.fall) (685 * t.weight + 9400), is-course d _ _ _ e (di-is k.inertia g, slope-small _ _ f m.rise, slope-small _ _ f m.fall) (dr-is t.weight, omega arith))
