-- Rows of the four curves are in order, place by place, and 1.5 s at V apart: by the second demand in their answers, with any coefficients.
use mathlib.Core.List.{List}
use Prim.Native.Nat.{ℕ, ◌+◌, ◌<◌}
use lib.ListN.{get_or}
use Rattle.train.specs.declared.Kmh.{Kmh}
use Rattle.train.specs.declared.Train.{Train}
use Rattle.train.specs.declared.Written.{Written}
use Rattle.train.specs.declared.Gradient.{Gradient}
use Rattle.train.specs.declared.Coefficients.{Coefficients}
use Rattle.train.specs.Units.{kmh}
use Rattle.step_curve.specs.declared.Curve.TheVariants.{Ebi, Sbi, W, P}
use Rattle.step_curve.specs.Order.{InOrder, InTime}
use Rattle.step_curve.proofs.Ordered.{in_order_lem}
use Rattle.step_curve.proofs.Timed.{in-time}
use Rattle.step_row.specs.Answer.{RowAnswers}

-- whatever lists were lent, at each place that all of them have written
module _ (k : Coefficients) (t : Train) (g : Gradient) (v0 : Kmh)
    {lent₁ lent₂ lent₃ lent₄ ebi sbi w p : List ℕ} {r₁ r₂ r₃ r₄ : Written} where
  pub rows-in-order :
      RowAnswers k t g Ebi v0 lent₁ r₁ ebi → RowAnswers k t g Sbi v0 lent₂ r₂ sbi → RowAnswers k t g W v0 lent₃ r₃ w → RowAnswers k t g P v0 lent₄ r₄ p →
      (i : ℕ) → i < r₁.length → i < r₂.length → i < r₃.length → i < r₄.length → InOrder (get_or ebi i 0) (get_or sbi i 0) (get_or w i 0) (get_or p i 0)
  rows-in-order e s h l i i₁ i₂ i₃ i₄ = in_order_lem k t g (kmh (v0.0 + i)) v0 (e.least i i₁) (s.least i i₂) (h.least i i₃) (l.least i i₄)

module _ (k : Coefficients) (t : Train) (g : Gradient) (v0 : Kmh) {lent₂ lent₃ lent₄ sbi w p : List ℕ} {r₂ r₃ r₄ : Written} where
  pub rows-in-time :
      RowAnswers k t g Sbi v0 lent₂ r₂ sbi → RowAnswers k t g W v0 lent₃ r₃ w → RowAnswers k t g P v0 lent₄ r₄ p →
      (i : ℕ) → i < r₂.length → i < r₃.length → i < r₄.length → InTime (v0.0 + i) (get_or sbi i 0) (get_or w i 0) (get_or p i 0)
  rows-in-time s h l i i₂ i₃ i₄ = in-time k t g (kmh (v0.0 + i)) v0 (s.least i i₂) (h.least i i₃) (l.least i i₄)
