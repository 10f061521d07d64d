-- `last_fitting`: the climb from the sure speed is the whole climb.
use borrow.Author.Rules.{rules}
use Rattle.query_climb.proofs.Surely.{climbed}
use Rattle.query_permitted.proofs.last_fitting.Goals as goal

pub returns : goal.returns
returns c =
    let s = c.surely_fitting-surely.ensures in
    let h = c.climb.ensures in
    climbed _ _ _ _ _ s.1 s.0 h.range (λ v a b. (let t = h.each v a b in search rules)) (λ l. (let t = h.next l in search rules))
