-- The weaker of the two ends of a span of speeds is the weakest of the span.
use mathlib.Core.Path.{◌≡◌, refl}
use mathlib.Core.List.{[], ◌∷◌}
use Prim.Native.Nat.{ℕ, ◌+◌, ◌*◌, ◌-◌, ◌≤◌, ◌<◌}
use native.Mathlib.Omega.{arith}
use native.Mathlib.Nat.{le_of_mul-le-mul_left}
use Rattle.exact.proofs.Polynomial.{num, ◌⊕◌, ◌⊗◌}
use Rattle.exact.proofs.Certificate.{x0, x1, x2, x3, x4, x5, x6, done, times, cert}
use Rattle.step_braking.specs.declared.Course.{Course}
use Rattle.step_braking.specs.Plan.{s_of, gain_of, loss_of, Small, Near, Weakest}
use Rattle.step_braking.proofs.Bounds.{s-small, gain-small, loss-small}
use Rattle.step_braking.proofs.Ends.{BrakesBy, rises_by, between-by}

-- (g - l) / s at the end itself, and at another, of which it is known
own : (s l g : ℕ) → l ≤ g → s * l + (g - l) * s ≤ s * g
own s l g h = cert (s ∷ l ∷ g ∷ (g - l) ∷ []) (times x0 (x1 ⊕ x3) x2 (omega arith) done) (x0 ⊗ x1 ⊕ x3 ⊗ x0) (x0 ⊗ x2) refl

other : (s l g z k h : ℕ) → l ≤ g → g * z + k * s ≤ h * s + l * z → s * k + (g - l) * z ≤ s * h
other s l g z k h i e =
    cert (s ∷ l ∷ g ∷ z ∷ k ∷ h ∷ (g - l) ∷ []) (times (num 1) (x2 ⊗ x3 ⊕ x4 ⊗ x0) (x5 ⊗ x0 ⊕ x1 ⊗ x3) e (times x3 (x1 ⊕ x6) x2 (omega arith) done)) (x0 ⊗ x4 ⊕ x6 ⊗ x3) (x0 ⊗ x5) refl

-- p over q is enough, so what is no less is enough
no_less : (q p s l g : ℕ) → 0 < q → 50000000000 * q ≤ p → q * l + p * s ≤ q * g → (l + 50000000000 * s ≤ g) × (p * s ≤ (g - l) * q)
no_less q p s l g some much e = (i, j)
  where
    i : l + 50000000000 * s ≤ g
    i =
        le_of_mul-le-mul_left
        (cert (q ∷ p ∷ s ∷ l ∷ g ∷ []) (times x2 (num 50000000000 ⊗ x0) x1 much (times (num 1) (x0 ⊗ x3 ⊕ x1 ⊗ x2) (x0 ⊗ x4) e done)) (x0 ⊗ (x3 ⊕ num 50000000000 ⊗ x2)) (x0 ⊗ x4) refl)
        some

    j : p * s ≤ (g - l) * q
    j = cert (q ∷ p ∷ s ∷ l ∷ g ∷ (g - l) ∷ []) (times (num 1) (x0 ⊗ x3 ⊕ x1 ⊗ x2) (x0 ⊗ x4) e (times x0 x4 (x3 ⊕ x5) (let k = i in omega arith) done)) (x1 ⊗ x2) (x5 ⊗ x0) refl

module _ (c : Course) (from to v0 : ℕ) (sm : Small c) (near : Near from v0) (on : from ≤ to) where
  part : c.cr ≤ 100
  part = omega (arith, sm.cr)

  -- at the speed u
  module _ (u : ℕ) (close : Near u v0) where
    abbrev s : ℕ
    s = s_of u

    abbrev g : ℕ
    g = gain_of c u v0

    abbrev l : ℕ
    l = loss_of c u v0

    weakest-at : (l + 50000000000 * s ≤ g → (v : ℕ) → from ≤ v → v ≤ to → BrakesBy c part v0 (g - l) s v) → Weakest c from to v0 s g l
    weakest-at h = record {
      some = (s-small u close.high).1.1;
      unit = (s-small u close.high).0;
      gain = (gain-small c u v0 sm close).0;
      loss = (loss-small c u v0 sm close).0;
      each = λ e v a b. no_less s (g - l) (s_of v) (loss_of c v v0) (gain_of c v v0) (s-small u close.high).1.1 (omega arith) (h e v a b);
    }

  -- where nC is not below 0 it is the lower end
  pub weakest-first : c.minus ≡ 0 → Weakest c from to v0 (s_of from) (gain_of c from v0) (loss_of c from v0)
  weakest-first steady =
      weakest-at from near (λ e v a b. rises_by c part v0 _ _ from v near.ahead a (omega arith) (own (s_of from) (loss_of c from v0) (gain_of c from v0) (omega arith)))

  module _ (near' : Near to v0) where
    pub weakest-lower : gain_of c from v0 * s_of to + loss_of c to v0 * s_of from ≤ gain_of c to v0 * s_of from + loss_of c from v0 * s_of to → Weakest c from to v0 (s_of from) (gain_of c from v0) (loss_of c from v0)
    weakest-lower h =
        weakest-at from near (λ e v a b.
        let i : loss_of c from v0 ≤ gain_of c from v0 = omega arith in
        between-by c part v0 _ _ from to near.ahead (own (s_of from) _ _ i) (other (s_of from) (loss_of c from v0) (gain_of c from v0) (s_of to) (loss_of c to v0) (gain_of c to v0) i h) v a b)

    pub weakest-higher : gain_of c to v0 * s_of from + loss_of c from v0 * s_of to ≤ gain_of c from v0 * s_of to + loss_of c to v0 * s_of from → Weakest c from to v0 (s_of to) (gain_of c to v0) (loss_of c to v0)
    weakest-higher h =
        weakest-at to near' (λ e v a b.
        let i : loss_of c to v0 ≤ gain_of c to v0 = omega arith in
        between-by c part v0 _ _ from to near.ahead (other (s_of to) (loss_of c to v0) (gain_of c to v0) (s_of from) (loss_of c from v0) (gain_of c from v0) i h) (own (s_of to) _ _ i) v a b)
