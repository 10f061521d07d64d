-- `bounds_with`: the bounds hold, and each product is a word long.
use Prim.Native.Nat.{◌*◌, ◌-◌, ◌≤◌}
use native.Mathlib.Nat.{le_trans}
use native.Mathlib.Omega.{arith}
use Rattle.step_braking.specs.Plan.{v9, beta_of, a_most, beta_most}
use Rattle.step_braking.proofs.Bounds.{beta-small}
use Rattle.step_quick.proofs.Pair.{Long, long, square-most, part-below, part-most, part-fits, counted}
use Rattle.step_quick.proofs.bounds_with.Goals as goal
use Rattle.step_quick.proofs.bounds_with.Goals.{After-beta-low, Start}

a-most : (c : Start) → c.args.s.gain - c.args.s.loss ≤ a_most
a-most c = omega (arith, c.requires.3)

-- the speeds that the laws of a pair ask for
speeds : (c : Start) → let a = c.args in let b = beta_of a.c a.v.0 a.v0.0 in (b ≤ beta_most) × ((v9 a.v0.0 ≤ b) × (a.v0.0 ≤ 330))
speeds c =
    let a = c.args in
    let n = c.requires.1 in
    let b = beta-small a.c a.v.0 a.v0.0 c.requires.0 n in
    (b.1, (b.0, le_trans n.ahead n.high))

known : (c : After-beta-low) → let a = c.args in Long c.beta-low.result c.from-target.result a.s.unit
known c = let k = speeds c.before.before in rw (c.beta-low.ensures, c.from-target.ensures) (long _ _ _ k.0 k.1.0 k.1.1 c.requires.2)

pub overflow_sub-part : goal.overflow_sub-part
overflow_sub-part c = (known (goal.at.overflow_sub-part c).After-beta-low).ahead

pub overflow_mul-part : goal.overflow_mul-part
overflow_mul-part c = omega (arith, (known (goal.at.overflow_mul-part c).After-beta-low).below-most)

pub overflow_mul-part-2 : goal.overflow_mul-part-2
overflow_mul-part-2 c = omega (arith, (known (goal.at.overflow_mul-part-2 c).After-beta-low).least-most)

pub overflow_sub-most : goal.overflow_sub-most
overflow_sub-most c = omega (arith, (known (goal.at.overflow_sub-most c).After-beta-low).ahead)

pub overflow_mul-most : goal.overflow_mul-most
overflow_mul-most c = omega (arith, (known (goal.at.overflow_mul-most c).After-beta-low).above_most)

pub overflow_mul-most-2 : goal.overflow_mul-most-2
overflow_mul-most-2 c = omega (arith, (known (goal.at.overflow_mul-most-2 c).After-beta-low).most-most)

pub returns : goal.returns
returns c =
    let a = c.args in
    let k = speeds (goal.at.returns c).Start in
    let l : Long (beta_of a.c a.v.0 a.v0.0) a.v0.0 a.s.unit = long _ _ _ k.0 k.1.0 k.1.1 c.requires.2 in
    let A = a.s.gain - a.s.loss in
    let d = counted A (a-most (goal.at.returns c).Start) in
    let e : 50000000000 * a.s.unit ≤ A = let p = c.requires.4 in omega arith in
    rw (c.beta-low.ensures, c.from-target.ensures)
    (record {
      beta-above = omega arith;
      beta-below = omega arith;
      a-above = d.1.0;
      a-below = d.1.1;
      part = part-below _ _ _ k.0 k.1.0 k.1.1 c.requires.2 A _ e d.1.1;
      most = square-most _ _ _ k.0 k.1.0 k.1.1 c.requires.2;
      beta-most = l.beta-most;
      a-most = d.0;
      part-most = part-most _ _ _ k.0 k.1.0 k.1.1 c.requires.2 A _ e d.1.1;
      part-fits = part-fits _ _ _ k.0 k.1.0 k.1.1 c.requires.2 A _ e d.1.1;
    })
