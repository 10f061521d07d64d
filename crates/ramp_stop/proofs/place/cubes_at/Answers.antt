-- `cubes_at`: the cubes of times up to the longest fit, and the later one is the greater.
use native.Mathlib.Omega.{arith}
use Rattle.ramp_stop.proofs.Bounds.{Times, times-fit, cubes-from}
use Rattle.ramp_stop.proofs.place.cubes_at.Goals as goal
use Rattle.ramp_stop.proofs.place.cubes_at.Goals.{After-saturating_sub-full}

fit : (c : After-saturating_sub-full) → Times c.saturating_sub-acted.result c.saturating_sub-full.result
fit c = times-fit _ _ _ _ _ c.saturating_sub-acted.ensures c.saturating_sub-full.ensures c.requires.1

pub overflow_mul-result-2 : goal.overflow_mul-result-2
overflow_mul-result-2 c = omega (arith, fit (goal.at.overflow_mul-result-2 c).After-saturating_sub-full)

pub overflow_mul-result-4 : goal.overflow_mul-result-4
overflow_mul-result-4 c = omega (arith, fit (goal.at.overflow_mul-result-4 c).After-saturating_sub-full)

pub returns : goal.returns
returns c = cubes-from _ _ _ _ _ c.saturating_sub-acted.ensures c.saturating_sub-full.ensures

pub overflow_sub-result : goal.overflow_sub-result
overflow_sub-result c = (fit (goal.at.overflow_sub-result c).After-saturating_sub-full).cube-less
