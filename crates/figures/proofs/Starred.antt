-- Document 01, "Figures to hold": the starred rows, of the definitions, in one theorem.
use mathlib.Core.Path.{refl}
use mathlib.Core.List.{List, [], ◌∷◌}
use lib.Dec.{lit<}
use lib.IntN.{pos, negsuc}
use Rattle.exact.specs.Fraction.{raised}
use Rattle.train.specs.declared.BrakeType.TheVariants.{Passenger, Freight}
use Rattle.train.specs.Units.{speed}
use Rattle.train.specs.Coefficients.{first}
use Rattle.train_delay.specs.Delay.{delay, tf}
use Rattle.train_slope.specs.Slope.{factor, di, dr}
use Rattle.step_curve.specs.declared.Curve.TheVariants.{Ebi, P}
use Rattle.step_braking.specs.Braking.{T, K0, KC, dp, Vβ, strong}
use Rattle.step_curve.specs.Step.{EBI, SBI, distance}
use Rattle.step_curve.specs.Step as step
use Rattle.step.specs.Answer.{step_of}
use Rattle.ceilings.specs.Ceilings.{grown_to, ceiling_of, limits_of}
use Rattle.figures.proofs.Rows.{ep, freight, Row, gives, refuses, larger, limits, All}

pub rows : List Row
rows =
    gives (ep 100) 90 0 (pos 0) Ebi 842532
    ∷ gives (ep 100) 90 0 (pos 0) P 1056282
    ∷ gives (ep 100) 90 90 (pos 0) Ebi 138750
    ∷ gives (ep 100) 90 90 (pos 10) Ebi 138750
    ∷ gives (ep 100) 0 0 (pos 0) Ebi 0
    ∷ gives (ep 45) 0 0 (negsuc 17) Ebi 14551
    ∷ refuses (ep 45) 0 0 (negsuc 18) 10
    ∷ gives (freight 1000) 90 90 (pos 0) Ebi 626250
    ∷ larger (freight 953) Freight
    ∷ larger (freight 954) Passenger
    ∷ limits 111 13804 13926 14229
    ∷ limits 210 25800 26400 27000
    ∷ []

pub starred : All first rows
unfolding rows step_of distance strong EBI SBI step.W step.P Vβ dp KC K0 T tf delay dr di factor speed raised limits_of ceiling_of grown_to
starred =
    ((refl, refl), ((refl, refl), ((refl, refl), ((refl, refl), ((refl, refl), ((refl, refl), (refl, ((refl, refl), ((lit< tt, refl), ((lit< tt, refl), (refl, (refl, tt))))))))))))
