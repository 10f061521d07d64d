-- `last_stopping`: the climb from the sure speed is the whole climb.
use mathlib.Core.Path.{◌∙◌, ap}
use borrow.Author.Rules.{rules}
use native.Mathlib.Omega.{arith}
use Rattle.query_climb.specs.Climb.{climb}
use Rattle.query_climb.proofs.Surely.{climbed}
use Rattle.query_release.specs.Release.{stops_within}
use Rattle.query_release.proofs.last_stopping.Goals as goal

pub returns : goal.returns
returns c k o is =
    let h = c.climb.ensures in
    climbed _ _ _ _ _ (omega arith) (c.surely_stopping-surely.ensures.0 k o is) h.range (λ v a b. (let t = h.each v a b in search rules)) (λ l. (let t = h.next l in search rules))
    ∙ ap (climb (stops_within k o c.args.overlap) 0) (omega arith)
