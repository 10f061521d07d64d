-- `run_at`: the bounds hold, and each product is a word long.
use native.Mathlib.Omega.{arith}
use Rattle.step_quick.proofs.Steady.{Long, long, run-above, run-below}
use Rattle.step_quick.proofs.run_at.Goals as goal
use Rattle.step_quick.proofs.run_at.Goals.{Start}

known : (c : Start) → Long c.args.curve c.args.c c.args.beta c.args.v.0
known c = long _ _ _ _ c.requires.0 c.requires.1 c.requires.2

pub returns : goal.returns
returns c =
    let k = known (goal.at.returns c).Start in
    rw (c.ahead_of-ahead.ensures.0, c.ahead_of-ahead.ensures.1, c.from.ensures)
    (record {
      above = run-above c.args.curve c.args.c c.args.beta c.args.v.0;
      below = run-below c.args.curve c.args.c c.args.beta c.args.v.0;
      low-high = omega arith;
      high-most = omega (arith, k.run-most, k.warning-most, k.steady-most);
    })
