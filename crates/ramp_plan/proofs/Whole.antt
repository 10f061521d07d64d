-- The plan's numbers are no larger than `Small` says.
use mathlib.Core.Path.{refl}
use mathlib.Core.List.{[], ◌∷◌}
use Prim.Native.Nat.{ℕ, ◌*◌, ◌≤◌}
use native.Mathlib.Omega.{arith}
use native.Mathlib.Nat.{le_refl, mul-le-mul}
use Rattle.exact.proofs.Polynomial.{num, ◌⊗◌}
use Rattle.exact.proofs.Certificate.{x0, x1, ring}
use Rattle.train.specs.declared.Inertia.{Inertia}
use Rattle.train.specs.Coefficients.{InertiaWithin}
use Rattle.train_slope.proofs.Factors.{factor-small}
use Rattle.train_slope.proofs.Decelerations.{slope-small}
use Rattle.ramp_motion.specs.declared.Overrun.{Overrun}
use Rattle.ramp_motion.proofs.Planned.{planned, plan_of}
use Rattle.ramp_plan.specs.Fair.{Fair, Small}

-- a factor of tr
pub by-rise : (x n tr : ℕ) → x ≤ n → x * tr ≤ n * tr
by-rise x n tr h = mul-le-mul h (le_refl tr)

pub is-small : (o : Overrun) (up7 dn7 dr5 : ℕ) → Fair o → up7 ≤ 4120200 → dn7 ≤ 4120200 → dr5 ≤ 119000 → Small (planned o up7 dn7 dr5)
is-small o up7 dn7 dr5 f u n d =
    let tr = 10 * o.tr in
    record {
      start = by-rise (50000000000 * o.v.0) 5000000000000 tr (omega (arith, f.v));
      up = by-rise (18 * up7) 74163600 tr (omega arith);
      down = by-rise (18 * dn7) 74163600 tr (omega arith);
      brake = omega arith;
      tm = omega (arith, f.tm);
      some = omega (arith, f.some);
      tr = omega (arith, f.tr);
      counted = record {
        speed = 50000000000 * o.v.0;
        rise = 9 * up7;
        fall = 9 * dn7;
        power = 270 * dr5;
        start_is = refl;
        up_is = ring (up7 ∷ tr ∷ []) (num 18 ⊗ x0 ⊗ x1) (num 2 ⊗ (num 9 ⊗ x0) ⊗ x1) refl;
        down_is = ring (dn7 ∷ tr ∷ []) (num 18 ⊗ x0 ⊗ x1) (num 2 ⊗ (num 9 ⊗ x0) ⊗ x1) refl;
        brake-is = omega arith;
      };
    }

pub plan_of-small : (k : Inertia) (o : Overrun) → InertiaWithin k → Fair o → Small (plan_of k o)
plan_of-small k o w f =
    let i = factor-small k o.gradient w in
    let g = f.gradient in
    is-small o _ _ _ f (slope-small _ _ i g.rise) (slope-small _ _ i g.fall) (omega (arith, f.weight))
