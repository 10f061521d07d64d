-- Which stretch holds a point, and that one does.
use mathlib.Core.Path.{◌≡◌}
use mathlib.Core.Logic.{⊎_elim}
use Prim.Native.Nat.{ℕ, zero, suc, ◌-◌, ◌<◌}
use native.Mathlib.Omega.{arith}
use Rattle.lists.proofs.Split.{below}
use Rattle.sheet_line.specs.Line.{Line}
use Rattle.sheet.specs.Kept.{Kept}
use Rattle.sheet_span.specs.Least.{reach, Holds, stretch_at}
pub use Rattle.sheet_span.proofs.Reaches.{reach-next, reach-last, starts-ordered, own-start, none-later}
use Rattle.sheet_span.proofs.Reaches.{up_to}

module _ (l : Line) (h : Kept l) where
  pub at-point : (k p : ℕ) → Holds l k p → stretch_at l p ≡ k
  at-point k p a = let n = a.number in up_to l h k p a (l.stretches - 1) (omega arith) (omega arith)

  -- every point of the line is held
  held-up-to : (p m : ℕ) → m < l.stretches → p < reach l m → (k : ℕ) × Holds l k p
  held-up-to p zero n r = (0, record { number = n; from = let o = h.origin in omega arith; before = r })
  held-up-to p (suc m) n r =
      ⊎_elim
      (λ q. held-up-to p m (omega arith) (rw (reach-next l m n) q))
      (λ q. (suc m, record { number = n; from = q; before = r }))
      (below p (l.start (suc m)))

  pub held : (p : ℕ) → p < l.end → (k : ℕ) × Holds l k p
  held p e = let some = h.counts.some in held-up-to p (l.stretches - 1) (omega arith) (rw (reach-last l (l.stretches - 1) (omega arith)) e)
