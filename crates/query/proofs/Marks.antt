-- The permitted speed is the highest up to which each fits, and the mark says whether the release speed does.
use mathlib.Core.Path.{◌≡◌, refl, sym, ap, ◌∙◌}
use mathlib.Core.Bool.{Bool, true, false, cond}
use mathlib.Core.Logic.{◌⊎◌, inl, inr, ⊎_elim}
use Prim.Native.Nat.{ℕ, ◌+◌, ◌-◌, ◌≤◌, ◌<◌}
use native.Mathlib.Omega.{arith}
use native.Mathlib.Nat.{le_refl, not-le_of_lt}
use native.Mathlib.Numerals.{add-one}
use borrow.Author.Tests.{le-leb, leb-true, leb-false}
use Rattle.exact.specs.Fraction.{Fraction, ◌≤q◌, ◌<q◌}
use Rattle.lists.proofs.Split.{earlier}
use Rattle.train.specs.declared.Train.{Train}
use Rattle.train.specs.declared.Coefficients.{Coefficients}
use Rattle.train.specs.Units.{kmh}
use Rattle.step_braking.specs.declared.Course.{Course}
use Rattle.step_braking.specs.Braking.{strong}
use Rattle.step_braking.specs.Agreement.{IsCourse}
use Rattle.query_way.specs.declared.Way.{Way}
use Rattle.query_climb.specs.Climb.{climb}
use Rattle.query_permitted.specs.Permitted.{on_curve, on_release, fits, permitted_of, mark_of}
use Rattle.query_climb.proofs.Climbing.{highest}
use Rattle.query_permitted.proofs.Fit as fit
use Rattle.query.specs.Demand.{to_signal, exact_p, Strong, Weak, Marked}

module _ (k : Coefficients) (t : Train) (tm tr : ℕ) (w : Way) (R : ℕ) (c : Course) (is : IsCourse k t w.ahead c) where
  abbrev fitting : ℕ → Bool
  fitting = fits k t w.ahead (kmh R) w.distance

  abbrev exact : ℕ → Fraction
  exact = exact_p k t tm tr w R

  abbrev distance : Fraction
  distance = to_signal k t tm tr w

  abbrev enough : ℕ → Bool
  enough v = strong k t w.ahead (kmh v) (kmh R)

  strongly : (v : ℕ) → enough v ≡ true → Strong k t tm tr w R v
  unfolding strong
  strongly v e = leb-true _ _ e

  pub distances : (v : ℕ) → R ≤ v → Strong k t tm tr w R v → 0 < (exact v).over
  unfolding strong
  distances v h e = fit.is_number k t w.ahead c is (kmh R) v h (le-leb _ _ e)

  fitted : (v : ℕ) → R ≤ v → fitting v ≡ true → Strong k t tm tr w R v × (exact v ≤q distance)
  fitted v h e = let (s, l) = fit.fitted k t w.ahead c is (kmh R) w.distance v h e in (strongly v s, l)

  over : (v : ℕ) → R ≤ v → fitting v ≡ false → Weak k t tm tr w R v ⊎ (Strong k t tm tr w R v × (distance <q exact v))
  unfolding strong
  over v h e = ⊎_elim (λ s. inl (leb-false _ _ s)) (λ (s, l). inr (strongly v s, l)) (fit.misfits k t w.ahead c is (kmh R) w.distance v h e)

  module _ (strong-there : enough R ≡ true) (low : R ≤ t.top.0) where
    on-curve : fitting R ≡ true → Marked k t tm tr w R (climb fitting R (t.top.0 - R)) on_curve
    on-curve e =
        let h = highest fitting R (t.top.0 - R) in
        let P = climb fitting R (t.top.0 - R) in
        record {
          either = inl refl;
          exactly = ((λ i. absurd (let j : 1 ≡ 2 = i in omega arith)), (λ i. absurd (not-le_of_lt i (fitted R (le_refl R) e).1)));
          held = λ i. absurd (let j : 1 ≡ 2 = i in omega arith);
          from = h.from;
          to = omega (arith, h.to);
          each = λ i v a b. fitted v a (⊎_elim (λ l. h.each v l b) (λ l. ap fitting (sym l) ∙ e) (earlier R v (omega arith)));
          next = λ i l. let f = h.from in over (P + 1) (omega arith) (ap fitting (add-one P) ∙ h.next (omega arith));
        }

    -- the release speed is strong enough, so its P is over the distance
    beyond : fitting R ≡ false → distance <q exact R
    beyond e =
        ⊎_elim (λ s. absurd (not-le_of_lt s (strongly R strong-there))) (λ (s, l). l) (over R (le_refl R) e)

    on-release : fitting R ≡ false → Marked k t tm tr w R R on_release
    on-release e =
        record {
          either = inr refl;
          exactly = ((λ i. beyond e), (λ i. refl));
          held = λ i. refl;
          from = le_refl R;
          to = low;
          each = λ i. absurd (let j : 2 ≡ 1 = i in omega arith);
          next = λ i. absurd (let j : 2 ≡ 1 = i in omega arith);
        }

    pub is-marked : Marked k t tm tr w R (permitted_of k t w.ahead (kmh R) w.distance) (mark_of k t w.ahead (kmh R) w.distance)
    unfolding permitted_of mark_of
    is-marked = go (fitting R) refl
      where
        go : (b : Bool) → fitting R ≡ b → Marked k t tm tr w R (cond b (climb fitting R (t.top.0 - R)) R) (cond b on_curve on_release)
        go true e = on-curve e
        go false e = on-release e
