-- `sum_of`: the way times 9 a and the braking part fit 192 bits, and are the plan's sum.
use mathlib.Core.Path.{◌≡◌, ◌∙◌}
use Prim.Native.Nat.{◌+◌, ◌*◌, ◌<◌}
use native.Mathlib.Nat.{mul_comm, le-add_right, lt_of_le_of_lt}
use Rattle.wide.specs.Value.{value_of, limit}
use Rattle.step_curve.specs.Plan.{run_of, sum_of}
use Rattle.step_curve.proofs.Bounds.{run_fits, sum_fits}
use Rattle.step_curve.proofs.sum_of.Goals as goal
use Rattle.step_curve.proofs.sum_of.Goals.{After-product-warning, After-sum-run}

-- the way, as it is summed
run_is : (c : After-product-warning) → value_of c.product-steady.result + value_of c.product-warning.result ≡ run_of c.args.curve c.args.c c.args.m.beta c.args.m.speed
unfolding run_of
run_is c =
    rw (c.product-steady.ensures, c.product-warning.ensures, c.ahead_of-ahead.ensures.0, c.ahead_of-ahead.ensures.1)

-- and times 9 a
term_is : (c : After-sum-run) → value_of c.sum-run.result * (9 * c.args.m.a) ≡ 9 * c.args.m.a * run_of c.args.curve c.args.c c.args.m.beta c.args.m.speed
term_is c = rw (c.sum-run.ensures ∙ run_is c.before) (mul_comm _ _)

whole-fits : (c : After-sum-run) → value_of c.sum-run.result * (9 * c.args.m.a) + value_of c.args.m.part < limit
unfolding sum_of
whole-fits c =
    rw (term_is c) (sum_fits c.args.curve c.args.c c.args.m c.requires.0 c.requires.1)

pub sum-run-requires : goal.sum-run-requires
sum-run-requires c =
    rw (run_is (goal.at.sum-run-requires c).After-product-warning) (run_fits c.args.curve c.args.c c.args.m c.requires.0 c.requires.1)

pub times-requires : goal.times-requires
times-requires c = lt_of_le_of_lt (le-add_right _ _) (whole-fits (goal.at.times-requires c).After-sum-run)

pub sum-requires : goal.sum-requires
sum-requires c = rw c.times.ensures (whole-fits (goal.at.sum-requires c).After-sum-run)

pub returns : goal.returns
unfolding sum_of
returns c = c.sum.ensures ∙ rw (c.times.ensures, term_is (goal.at.returns c).After-sum-run)
