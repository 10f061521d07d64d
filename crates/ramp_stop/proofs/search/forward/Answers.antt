-- `forward`: every product fits up to the longest time, and the test is that of the speed.
use Prim.Native.Nat.{◌*◌, ◌≤◌}
use native.Mathlib.Omega.{arith}
use Rattle.ramp_stop.proofs.Bounds.{Tested, tested, brake-way}
use Rattle.ramp_stop.proofs.search.forward.Goals as goal
use Rattle.ramp_stop.proofs.search.forward.Goals.{After-squares_at}

fit : (c : After-squares_at) → Tested c.args.m c.args.t c.requires.0 c.requires.1
fit c = tested _ _ c.requires.0 c.requires.1

brake : (c : After-squares_at) → c.args.m.brake * c.squares_at.result ≤ 6064334438400000000
brake c = brake-way _ c.args.t _ c.requires.0 c.requires.1 c.squares_at.ensures

pub overflow_mul-result-2 : goal.overflow_mul-result-2
overflow_mul-result-2 c = omega (arith, brake (goal.at.overflow_mul-result-2 c).After-squares_at)

pub overflow_add-result : goal.overflow_add-result
overflow_add-result c = omega (arith, fit (goal.at.overflow_add-result c).After-squares_at, brake (goal.at.overflow_add-result c).After-squares_at)
