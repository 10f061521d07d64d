-- `squares_at`: the squares of times up to the longest fit, and the later one is the greater.
use Rattle.ramp_stop.proofs.Bounds.{squares-from}
use Rattle.ramp_stop.proofs.search.squares_at.Goals as goal

pub returns : goal.returns
returns c = squares-from _ _ _ _ _ c.saturating_sub-acted.ensures c.saturating_sub-full.ensures
