-- `pull_of`: both products fit for coefficients within their spans, and are the paper's deceleration.
use Rattle.train_slope.proofs.Factors.{factor-small}
use Rattle.train_slope.proofs.Decelerations.{di-is, slope-small}
use Rattle.train_slope.proofs.pull_of.Goals as goal

pub returns : goal.returns
returns c =
    let k = c.args.k in
    let g = c.args.g in
    let f = factor-small k g c.requires.0 in
    rw (c.from-slope.ensures, c.factor_of.ensures, c.from.ensures, c.from-2.ensures) (di-is k g, slope-small _ _ f c.requires.1.rise, slope-small _ _ f c.requires.1.fall)
