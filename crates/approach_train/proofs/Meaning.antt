-- What C's records of coefficients mean by the definitions. Of the train the check finds it alone.
use mathlib.Core.Path.{◌≡◌, refl, sym, subst}
use Rattle.train.specs.declared.Inertia.{Inertia}
use Rattle.train.specs.declared.Coefficients.{Coefficients}
use Rattle.approach_train.specs.declared.EnteredInertia.{EnteredInertia}
use Rattle.approach_train.specs.declared.EnteredCoefficients.{EnteredCoefficients}
use Rattle.approach_train.specs.Coefficients.{inertia_of, coefficients_of, InertiaMeant, CoefficientsMeant}

inertia-meant : (k : EnteredInertia) → InertiaMeant k (inertia_of k)
inertia-meant k = record { ki1 = refl; ki2 = refl; ki3 = refl; i1 = refl; up = λ n e. rw e (refl, refl); down = λ n e. rw e (refl, refl) }

pub inertia-as-meant : (k : EnteredInertia) (r : Inertia) → r ≡ inertia_of k → (r ≡ inertia_of k) × InertiaMeant k r
inertia-as-meant k r e = (e, subst (InertiaMeant k) (sym e) (inertia-meant k))

pub coefficients-as-meant : (k : EnteredCoefficients) (r : Coefficients) → r ≡ coefficients_of k → (r ≡ coefficients_of k) × CoefficientsMeant k r
coefficients-as-meant k r e = (
  e,
  subst (CoefficientsMeant k) (sym e) (record {
    dt = refl;
    h = refl;
    kr = refl;
    cr = refl;
    up = λ n i. rw i (refl, refl);
    down = λ n i. rw i (refl, refl);
    vc = refl;
    inertia = inertia-meant k.inertia;
  }),
)
