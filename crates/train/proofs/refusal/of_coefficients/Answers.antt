-- `of_coefficients`: any test that holds gives the one number; where none does, those of the slope decide.
use borrow.Author.Tests.{le-ltb}
use mathlib.Core.Path.{sym, ◌∙◌}
use Rattle.train.proofs.Judging.{inertia-left}
use Rattle.train.proofs.refusal.of_coefficients.Goals as goal

pub returns : goal.returns
returns c =
    inertia-left _ _ (
      le-ltb _ _ c.if-k-gt200.false,
      (
        le-ltb _ _ c.if-k-gt50.false,
        (
          sym c.outside.ensures ∙ c.if-outside.false,
          (
            le-ltb _ _ c.if-k-gt10.false,
            (le-ltb _ _ c.if-k-gt10-2.false, (le-ltb _ _ c.if-k-gt10-3.false, (le-ltb _ _ c.if-k-gt400.false, (le-ltb _ _ c.if-k-gt0.false, tt)))),
          ),
        ),
      ),
    ) c.of_inertia.ensures.0
