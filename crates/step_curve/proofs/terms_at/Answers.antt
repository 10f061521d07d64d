-- `terms_at`: the products fit, and each number is the plan's.
use mathlib.Core.Path.{◌≡◌, ◌∙◌}
use Prim.Native.Nat.{◌≤◌}
use native.Mathlib.Nat.{mul_comm, le_trans}
use native.Mathlib.Omega.{arith}
use Rattle.wide.specs.Value.{value_of}
use Rattle.step_braking.specs.Plan.{beta_most, speed_most}
use Rattle.step_braking.proofs.Bounds.{beta-small, speed-small}
use Rattle.step_curve.specs.Plan.{square_of}
use Rattle.step_curve.proofs.Bounds.{part-fits}
use Rattle.step_curve.proofs.terms_at.Goals as goal
use Rattle.step_curve.proofs.terms_at.Goals.{After-beta-beta, After-product-square}

-- the target is no more than the speed that is left
bounds : (c : After-beta-beta) → let t = c.fine-target.result in let b = c.beta-beta.result in (t ≤ b) × ((b ≤ beta_most) × (t ≤ speed_most))
bounds c =
    let n = c.requires.1 in
    let k = beta-small c.args.c c.args.v.0 c.args.v0.0 c.requires.0 n in
    rw (c.beta-beta.ensures, c.fine-target.ensures) (k.0, (k.1, speed-small c.args.v0.0 (le_trans n.ahead n.high)))

square-is : (c : After-product-square) → value_of c.product-square.result ≡ square_of c.beta-beta.result c.fine-target.result
unfolding square_of
square-is c = c.product-square.ensures

pub overflow_sub-beta : goal.overflow_sub-beta
overflow_sub-beta c = (bounds (goal.at.overflow_sub-beta c).After-beta-beta).0

pub overflow_add-beta : goal.overflow_add-beta
overflow_add-beta c = omega (arith, bounds (goal.at.overflow_add-beta c).After-beta-beta)

pub times-part-requires : goal.times-part-requires
times-part-requires c =
    let k = bounds (goal.at.times-part-requires c).After-beta-beta in
    rw (square-is (goal.at.times-part-requires c).After-product-square) (part-fits _ _ _ k.1.0 k.1.1 c.at-s.ensures.3)

pub returns : goal.returns
returns c =
    let e = c.at-s.ensures in
    let p = c.requires.2 in
    record {
      a = omega (arith, e.0, e.1, e.2);
      beta = c.beta-beta.ensures;
      speed = c.fine-speed.ensures;
      part = c.times-part.ensures ∙ rw (square-is (goal.at.returns c).After-product-square, e.0, c.beta-beta.ensures, c.fine-target.ensures) (mul_comm _ _);
      scale = c.product-scale.ensures ∙ omega arith;
    }
