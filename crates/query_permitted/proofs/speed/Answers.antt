-- `speed`: too weak, or the release speed does not fit, or the climb.
use mathlib.Core.Path.{◌≡◌, refl, sym, ◌∙◌}
use native.Mathlib.Nat.{le_refl}
use Rattle.step_braking.specs.Braking.{strong}
use Rattle.step_braking.proofs.Exact.{strong-is}
use Rattle.query_permitted.specs.Permitted.{fits, permitted_of, mark_of}
use Rattle.query_permitted.proofs.Fit.{tested-is, climbs-alike}
use Rattle.query_permitted.proofs.speed.Goals as goal
use Rattle.query_permitted.proofs.speed.Goals.{After-is_strong, After-fits}

-- the tests say what the definitions say
strong_so : (c : After-is_strong) → let a = c.args in c.is_strong.result ≡ strong a.k a.train a.g a.v0 a.v0
strong_so c = let a = c.args in c.is_strong.ensures ∙ strong-is a.k a.train a.g _ c.course_of-c.ensures a.v0 a.v0 (le_refl _)

fits_so : (c : After-fits) → let a = c.args in c.fits.result ≡ fits a.k a.train a.g a.v0 a.d a.v0.0
fits_so c = let a = c.args in c.fits.ensures ∙ tested-is a.k a.train a.g _ c.course_of-c.ensures a.v0 a.d a.v0.0 (le_refl _)

pub returns-then-not-is_strong : goal.returns-then-not-is_strong
returns-then-not-is_strong c = rw (sym (strong_so (goal.at.returns-then-not-is_strong c).After-is_strong) ∙ c.if-not-is_strong.true) refl

pub returns-then-not-fits : goal.returns-then-not-fits
unfolding permitted_of mark_of
returns-then-not-fits c =
    let at = goal.at.returns-then-not-fits c in
    rw (sym (strong_so at.After-is_strong) ∙ c.if-not-is_strong.false, sym (fits_so at.After-fits) ∙ c.if-not-fits.true) refl

pub returns : goal.returns
unfolding permitted_of mark_of
returns c =
    let a = c.args in
    let at = goal.at.returns c in
    rw
    (sym (strong_so at.After-is_strong) ∙ c.if-not-is_strong.false, sym (fits_so at.After-fits) ∙ c.if-not-fits.false, c.last_fitting.ensures ∙ climbs-alike a.k a.train a.g _ c.course_of-c.ensures a.v0 a.d _)
    refl
