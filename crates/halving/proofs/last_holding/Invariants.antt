-- `last_holding`: at the lower number it holds, at the higher it does not, or they are those that were given.
use Rattle.std.proofs.Common.{◌≡◌, ◌<◌, ◌≤◌, true, false, ◌⊎◌, ◌-◌}
use Rattle.halving.proofs.last_holding.Given as goal

abbrev pub invariant-loop-high : goal.invariant-loop-high
invariant-loop-high g l =
    (l.from ≤ l.low)
    × (l.low < l.high)
    × (l.high ≤ l.past)
    × ((l.low ≡ l.from) ⊎ goal.F-post g l.holds l.low true)
    × ((l.high ≡ l.past) ⊎ goal.F-post g l.holds l.high false)

abbrev pub decreases-loop-high : goal.decreases-loop-high
decreases-loop-high g l = l.high - l.low
