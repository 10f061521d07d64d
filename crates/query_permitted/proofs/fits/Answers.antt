-- `fits`: too weak, or the products of the curve P.
use borrow.Author.Tests.{leb-true}
use mathlib.Core.Bool.{true}
use mathlib.Core.Path.{◌≡◌, refl, sym, ◌∙◌}
use Rattle.step_braking.specs.Plan.{strong_of}
use Rattle.step_curve.specs.declared.Curve.TheVariants.{P}
use Rattle.step_curve.proofs.Bounds.{bounded}
use Rattle.step_curve.proofs.Exact.{sum_is, over-is}
use Rattle.query_permitted.specs.Find.{fits_by}
use Rattle.query_permitted.proofs.fits.Goals as goal
use Rattle.query_permitted.proofs.fits.Goals.{Then-is_strong}

strong : (c : Then-is_strong) → let a = c.args in strong_of a.c a.v.0 a.v0.0 ≡ true
strong c = sym c.is_strong.ensures ∙ c.if-is_strong.true

pub fits-requires : goal.fits-requires
fits-requires c =
    let a = c.args in
    (c.requires.0, bounded a.c a.v.0 a.v0.0 c.terms_at.result c.requires.0 c.requires.1 (leb-true _ _ (strong (goal.at.fits-requires c).Then-is_strong)) c.terms_at.ensures)

pub returns-then-is_strong : goal.returns-then-is_strong
unfolding fits_by
returns-then-is_strong c =
    let a = c.args in
    let m = c.terms_at.result in
    rw (strong (goal.at.returns-then-is_strong c).Then-is_strong)
    (c.fits.ensures ∙ rw (sum_is P a.c a.v.0 a.v0.0 m c.terms_at.ensures, over-is P a.c a.v.0 a.v0.0 m c.terms_at.ensures) refl)

pub returns-else-is_strong : goal.returns-else-is_strong
unfolding fits_by
returns-else-is_strong c = rw (sym c.is_strong.ensures ∙ c.if-is_strong.false) c.if-is_strong.false
