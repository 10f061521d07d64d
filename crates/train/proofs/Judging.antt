-- The lists of conditions decide by the rules in words of their own: condition by condition, then rule by rule.
use mathlib.Core.Path.{◌≡◌, sym, ◌∙◌}
use mathlib.Core.Bool.{not}
use mathlib.Core.List.{List, [], ◌∷◌}
use Prim.Native.Nat.{ℕ}
use borrow.Author.Tests.{leb-true, leb-false, not-true, not-false}
use lib.Dec.{ltb}
use Rattle.exact.specs.Fraction.{Fraction}
use Rattle.train.specs.declared.Train.{Train}
use Rattle.train.specs.declared.Gradient.{Gradient}
use Rattle.train.specs.declared.Inertia.{Inertia}
use Rattle.train.specs.declared.Coefficients.{Coefficients}
use Rattle.train.specs.Refusal.{Refusal, ◌gives◌, first_of, weight_refusals, length_refusals, train_refusals, gradient_refusals, inertia_refusals, own_refusals, coefficient_refusals, strong_enough}
use Rattle.train.specs.Judged.{Rule, ◌keeps◌, Judged, weight_rule, length_rule, TopSpeed, train_rules, gradient_rule, inertia_rule, coefficient_rule, brake_rule}
use Rattle.train.proofs.Refusals.{first-after, NoneHolds, Some, only, nothing, own-rising, inertia-only, coefficients-only}
pub use Rattle.train.proofs.Settling.{Settles, settled, Judges, ◌then◌, no_more, stays-broken, before_more, behind-kept, ◌and◌, at_least, below}
use Rattle.train.proofs.Fives.{fives}
pub use Rattle.train.proofs.Spanned.{inertia-settles, coefficients-settle}

pub weight-settles : (w : ℕ) → Settles (weight_rule w) (weight_refusals w)
weight-settles w = at_least 1 tt 45 w and at_least 1 tt w 160 and fives 1 tt w

pub length-settles : (length : ℕ) → Settles (length_rule length) (length_refusals length)
length-settles length = at_least 2 tt length 1000

pub top-settles : (t : Train) → Settles (3 keeps TopSpeed t) (ltb t.top.0 1 gives 3 ∷ ltb 330 t.top.0 gives 3 ∷ [])
top-settles t = at_least 3 tt 1 t.top.0 and at_least 3 tt t.top.0 330

pub gradient-settles : (g : Gradient) → Settles (gradient_rule g) (gradient_refusals g)
gradient-settles g =
    let s = at_least 5 tt g.rise 35 and at_least 5 tt g.fall 35 in
    record { numbers = s.numbers; yes = λ e. let (a, b) = s.yes e in record { rise = a; fall = b }; no = λ l. let (e, f) = s.no l in (e, λ m. f (m.rise, m.fall)) }

-- a brake that is strong enough
pub brake-settles : (d : Fraction) → Settles (brake_rule d) (not (strong_enough d) gives 10 ∷ [])
brake-settles d = settled (brake_rule d) tt (not (strong_enough d)) (λ e. leb-true _ _ (not-false _ e)) (λ e. leb-false _ _ (not-true _ e))

pub weight-judges : (w : ℕ) → Judges (weight_rule w ∷ []) (weight_refusals w)
weight-judges w = weight-settles w then no_more

pub train-judges : (t : Train) → Judges (train_rules t) (train_refusals t)
train-judges t = weight-settles t.weight then length-settles t.length.0 then top-settles t then no_more

pub gradient-judges : (g : Gradient) → Judges (gradient_rule g ∷ []) (gradient_refusals g)
gradient-judges g = gradient-settles g then no_more

pub inertia-judges : (k : Inertia) → Judges (inertia_rule k ∷ []) (inertia_refusals k)
inertia-judges k = inertia-settles k then no_more

pub coefficients-judge : (k : Coefficients) → Judges (coefficient_rule k ∷ []) (coefficient_refusals k)
coefficients-judge k = coefficients-settle k then no_more

-- what a function that goes through the conditions tells
pub told : {rs : List Rule} {cs : List Refusal} {n : ℕ} → Judges rs cs → n ≡ first_of cs → (n ≡ first_of cs) × Judged rs n
told j e = (e, rw e j.judged)

-- of coefficients: any of their conditions gives 12, and where none holds it is 0
pub inertia-turned : (k : Inertia) → Some (inertia_refusals k) → (12 ≡ first_of (inertia_refusals k)) × Judged (inertia_rule k ∷ []) 12
inertia-turned k s = told (inertia-judges k) (only 12 (inertia_refusals k) (inertia-only k) s)

pub inertia-taken : (k : Inertia) → NoneHolds (inertia_refusals k) → (0 ≡ first_of (inertia_refusals k)) × Judged (inertia_rule k ∷ []) 0
inertia-taken k n = told (inertia-judges k) (nothing (inertia_refusals k) n)

pub coefficients-turned : (k : Coefficients) → Some (coefficient_refusals k) → (12 ≡ first_of (coefficient_refusals k)) × Judged (coefficient_rule k ∷ []) 12
coefficients-turned k s = told (coefficients-judge k) (only 12 (coefficient_refusals k) (coefficients-only k) s)

pub inertia-left : (k : Coefficients) (n : ℕ) → NoneHolds (own_refusals k) → n ≡ first_of (inertia_refusals k.inertia) → (n ≡ first_of (coefficient_refusals k)) × Judged (coefficient_rule k ∷ []) n
inertia-left k n h e =
    told (coefficients-judge k) (e ∙ sym (first-after 0 (own_refusals k) (inertia_refusals k.inertia) (own-rising k) (sym (nothing (own_refusals k) h))))
