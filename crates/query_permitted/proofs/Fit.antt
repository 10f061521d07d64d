-- The fit that the code tests, the definition's and the exact value's are one.
use mathlib.Core.Path.{◌≡◌, refl, sym, ◌∙◌}
use mathlib.Core.Bool.{Bool, true, false, ◌&&◌}
use mathlib.Core.Logic.{◌⊎◌, inl, inr}
use Prim.Native.Nat.{ℕ, ◌*◌, ◌≤◌, ◌<◌}
use native.Mathlib.Nat.{le_of_lt}
use borrow.Author.Tests.{leb-true, leb-false}
use Rattle.exact.specs.Fraction.{whole, leq, ◌≤q◌, ◌<q◌}
use Rattle.lists.proofs.Holding.{and_left, and_right}
use Rattle.train.specs.declared.Kmh.{Kmh}
use Rattle.train.specs.declared.Metre.{Metre}
use Rattle.train.specs.declared.Train.{Train}
use Rattle.train.specs.declared.Gradient.{Gradient}
use Rattle.train.specs.declared.Coefficients.{Coefficients}
use Rattle.train.specs.Units.{kmh}
use Rattle.step_braking.specs.declared.Course.{Course}
use Rattle.step_braking.specs.Braking.{strong}
use Rattle.step_braking.specs.Plan.{Enough}
use Rattle.step_braking.specs.Agreement.{IsCourse}
use Rattle.step_braking.proofs.Exact.{strong-is}
use Rattle.step_curve.specs.declared.Curve.TheVariants as curve
use Rattle.step_curve.specs.Step.{P}
use Rattle.step_curve.proofs.Exact.{number, at-most-is, fits-is}
use Rattle.query_climb.specs.Climb.{climb}
use Rattle.query_climb.proofs.Climbing.{same-climb}
use Rattle.query_permitted.specs.Permitted.{within, fits}
use Rattle.query_permitted.specs.Find.{fits_by}

-- what is asked only where a is true
and_same : (a : Bool) {x y : Bool} → (a ≡ true → x ≡ y) → a && x ≡ a && y
and_same true h = h refl
and_same false h = refl

module _ (k : Coefficients) (t : Train) (g : Gradient) (c : Course) (is : IsCourse k t g c) (v0 : Kmh) where
  abbrev strongly : ℕ → Bool
  strongly v = strong k t g (kmh v) v0

  enough-at : (v : ℕ) → v0.0 ≤ v → strongly v ≡ true → Enough c v v0.0
  enough-at v h e = leb-true _ _ (strong-is k t g c is (kmh v) v0 h ∙ e)

  -- P is a number where the train is strong enough
  pub is_number : (v : ℕ) → v0.0 ≤ v → strongly v ≡ true → 0 < (P k t g (kmh v) v0).over
  is_number v h e = number k t g c is (kmh v) v0 h (enough-at v h e) curve.P

  module _ (d : Metre) where
    pub tested-is : (v : ℕ) → v0.0 ≤ v → fits_by c v0.0 d.0 v ≡ fits k t g v0 d v
    unfolding fits_by fits within
    tested-is v h = rw (strong-is k t g c is (kmh v) v0 h) (and_same (strongly v) (λ e. at-most-is k t g c is (kmh v) v0 h (enough-at v h e) curve.P (1000 * d.0)))

    pub climbs-alike : (n : ℕ) → climb (fits_by c v0.0 d.0) v0.0 n ≡ climb (fits k t g v0 d) v0.0 n
    climbs-alike n = same-climb _ _ v0.0 n (λ v a b. tested-is v (le_of_lt a))

    exactly : (v : ℕ) → v0.0 ≤ v → strongly v ≡ true → within k t g v0 d v ≡ leq (P k t g (kmh v) v0) (whole d.0)
    unfolding within
    exactly v h e = sym (at-most-is k t g c is (kmh v) v0 h (enough-at v h e) curve.P (1000 * d.0)) ∙ fits-is k t g c is (kmh v) v0 h (enough-at v h e) curve.P d

    -- a speed that fits is strong enough, with its exact P within the distance; one that does not is too weak, or over it
    pub fitted : (v : ℕ) → v0.0 ≤ v → fits k t g v0 d v ≡ true → (strongly v ≡ true) × (P k t g (kmh v) v0 ≤q whole d.0)
    unfolding fits
    fitted v h e = let s = and_left _ _ e in (s, leb-true _ _ (sym (exactly v h s) ∙ and_right (strongly v) _ e))

    pub misfits : (v : ℕ) → v0.0 ≤ v → fits k t g v0 d v ≡ false → (strongly v ≡ false) ⊎ ((strongly v ≡ true) × (whole d.0 <q P k t g (kmh v) v0))
    unfolding fits
    misfits v h e = go (strongly v) refl e
      where
        go : (b : Bool) → strongly v ≡ b → b && within k t g v0 d v ≡ false → (strongly v ≡ false) ⊎ ((strongly v ≡ true) × (whole d.0 <q P k t g (kmh v) v0))
        go true s e = inr (s, leb-false _ _ (sym (exactly v h s) ∙ e))
        go false s e = inl s
