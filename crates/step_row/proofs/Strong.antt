-- Refusal 10 decides by the rule on the braking at each speed of the row.
use mathlib.Core.Path.{◌≡◌}
use mathlib.Core.Bool.{Bool, true, false, not}
use mathlib.Core.List.{[], ◌∷◌}
use Prim.Native.Nat.{ℕ, ◌+◌, ◌-◌}
use native.Mathlib.Omega.{arith}
use native.Mathlib.Nat.{le-add_right}
use borrow.Author.Tests.{leb-true, leb-false, not-true, not-false}
use Rattle.lists.proofs.Holding.{every-at, every-not}
use Rattle.exact.specs.Fraction.{◌over◌, ◌≤q◌, ◌<q◌}
use Rattle.train.specs.declared.Kmh.{Kmh}
use Rattle.train.specs.declared.Train.{Train}
use Rattle.train.specs.declared.Gradient.{Gradient}
use Rattle.train.specs.Units.{kmh}
use Rattle.train.specs.declared.Coefficients.{Coefficients}
use Rattle.train.specs.Refusal.{◌gives◌}
use Rattle.train.proofs.Judging.{Settles, settled}
use Rattle.step_braking.specs.Braking.{strong}
use Rattle.step_row.specs.Answer.{speeds, strong_row, braking, row_brake_rule}

module _ (k : Coefficients) (t : Train) (g : Gradient) (v0 : Kmh) where
  strong-so : (v : ℕ) → strong k t g (kmh v) v0 ≡ true → (5 over 100) ≤q braking k t g v0 v
  unfolding strong
  strong-so v e = leb-true _ _ e

  weak-so : (v : ℕ) → strong k t g (kmh v) v0 ≡ false → braking k t g v0 v <q (5 over 100)
  unfolding strong
  weak-so v e = leb-false _ _ e

  abbrev each : ℕ → Bool
  each i = strong k t g (kmh (v0.0 + i)) v0

  pub brakes-settle : Settles (row_brake_rule k t g v0) (not (strong_row k t g v0) gives 10 ∷ [])
  unfolding strong_row
  brakes-settle =
      settled (row_brake_rule k t g v0) tt (not (strong_row k t g v0))
      (λ e v a b.
      let i : v0.0 + (v - v0.0) ≡ v = omega arith in
      let s : each (v - v0.0) ≡ true = every-at (speeds t v0) each (not-false _ e) (v - v0.0) (omega arith) in
      strong-so v (rw i at s))
      (λ e. let (i, (l, f)) = every-not (speeds t v0) each (not-true _ e) in (v0.0 + i, (le-add_right v0.0 i, (omega arith, weak-so (v0.0 + i) f))))
