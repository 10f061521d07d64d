-- The stretches that hold a point of a span are those from the one at its first point to the one at its last.
use mathlib.Core.Logic.{⊎_elim}
use Prim.Native.Nat.{ℕ, suc, ◌≤◌}
use native.Mathlib.Omega.{arith}
use Rattle.lists.proofs.Split.{earlier}
use Rattle.sheet_line.specs.Line.{Line}
use Rattle.sheet.specs.Kept.{Kept}
use Rattle.sheet_span.specs.Least.{Holds, Meets}
use Rattle.sheet_span.proofs.Stretches.{reach-next, starts-ordered, own-start, none-later}

-- the points from `from` to `last`, both included, with the stretches that hold the two
pub record Ends (l : Line) (from last a b : ℕ) : Type 0 where
  pub ordered : from ≤ last
  pub first : Holds l a from
  pub end : Holds l b last

module _ (l : Line) (h : Kept l) (from last a b : ℕ) (e : Ends l from last a b) where
  pub ends-ordered : a ≤ b
  ends-ordered = let w = e.ordered in let f = e.first.from in none-later l h a b last e.end e.first.number (omega arith)

  pub meets-within : (k : ℕ) → Meets l from (suc last) k → (a ≤ k) × (k ≤ b)
  meets-within k m =
      let x = m.first in
      let y = m.last in
      let f = e.first.from in
      let z = m.held.from in
      (none-later l h a k m.point m.held e.first.number (omega arith), none-later l h k b last e.end m.held.number (omega arith))

  pub within-meets : (k : ℕ) → a ≤ k → k ≤ b → Meets l from (suc last) k
  within-meets k c d =
      let n = e.end.number in
      let s = e.end.from in
      let w = e.ordered in
      let o = starts-ordered l h k b d n in
      ⊎_elim
      (λ i.
      let r = reach-next l a (omega arith) in
      let q = starts-ordered l h (suc a) k i (omega arith) in
      let f = e.first.before in
      record { point = l.start k; first = omega arith; last = omega arith; held = own-start l h k (omega arith) })
      (λ i. record { point = from; first = omega arith; last = omega arith; held = rw (← i) e.first })
      (earlier a k (omega arith))
