-- The governing stretch of the first point is at it, and the next point's takes its place if it is less.
use mathlib.Core.Path.{◌≡◌, refl, ap}
use mathlib.Core.Bool.{Bool, true, false, cond}
use mathlib.Core.Logic.{⊎_elim}
use Prim.Native.Nat.{ℕ, suc, ◌+◌, ◌≤◌, ◌<◌}
use native.Mathlib.Omega.{arith}
use borrow.Author.Tests.{leb-true, leb-false}
use lib.Dec.{leb}
use Rattle.lists.proofs.Split.{earlier}
use Rattle.sheet_line.specs.Line.{Line}
use Rattle.sheet.specs.Kept.{Kept}
use Rattle.sheet_span.specs.Least.{◌≼◌, slope, stretch_at, slope_at, governor}
use Rattle.sheet_span.proofs.Stretches.{none-later, at-point, held}

-- of the stretches at `from` and the n points behind it, k governs
pub record Governs (l : Line) (from n k : ℕ) : Type 0 where
  pub at : (i : ℕ) × ((i ≤ n) × (k ≡ stretch_at l (from + i)))
  pub least : (i : ℕ) → i ≤ n → slope l k ≼ slope_at l (from + i)
  pub lowest : (i : ℕ) → i ≤ n → slope_at l (from + i) ≡ slope l k → k ≤ stretch_at l (from + i)

module _ (l : Line) (h : Kept l) where
  -- a later point is at the same stretch or at a later one
  in_order_lem : (p q : ℕ) → p ≤ q → q < l.end → stretch_at l p ≤ stretch_at l q
  in_order_lem p q i on =
      let (j, a) = held l h p (omega arith) in
      let (k, b) = held l h q on in
      let s = a.from in
      rw (at-point l h j p a, at-point l h k q b) (none-later l h j k q b a.number (omega arith))

  module _ (from : ℕ) where
    pub alone : Governs l from 0 (stretch_at l from)
    alone =
        record {
          at = (0, (omega arith, ap (stretch_at l) (let e : from ≡ from + 0 = omega arith in e)));
          least = λ i b. let e : from + i ≡ from = omega arith in rw e (omega arith);
          lowest = λ i b s. let e : from + i ≡ from = omega arith in rw e (omega arith);
        }

    -- the stretch at the next point takes its place if it is less
    pub one_more : (n k m : ℕ) → from + suc n < l.end → m ≡ stretch_at l (from + suc n) → Governs l from n k → Governs l from (suc n) (governor l k m)
    one_more n k m on is g = go (leb ((slope l k).rise + (slope l m).fall) ((slope l m).rise + (slope l k).fall)) refl
      where
        go : (b : Bool) → leb ((slope l k).rise + (slope l m).fall) ((slope l m).rise + (slope l k).fall) ≡ b → Governs l from (suc n) (cond b k m)
        go true e =
            let (i, (j, a)) = g.at in
            let o = in_order_lem (from + i) (from + suc n) (omega arith) on in
            record {
              at = (i, (omega arith, a));
              least = λ i b. ⊎_elim (λ j. g.least i (omega arith)) (λ j. let f : m ≡ stretch_at l (from + i) = rw j is in rw (← f) (leb-true ((slope l k).rise + (slope l m).fall) ((slope l m).rise + (slope l k).fall) e)) (earlier i (suc n) (omega arith));
              lowest = λ i b s. ⊎_elim (λ j. g.lowest i (omega arith) s) (λ j. rw j (omega (arith, a, o))) (earlier i (suc n) (omega arith));
            }
        go false e =
            let d = leb-false ((slope l k).rise + (slope l m).fall) ((slope l m).rise + (slope l k).fall) e in
            record {
              at = (suc n, (omega arith, is));
              least = λ i b. ⊎_elim (λ j. let q = g.least i (omega arith) in omega (arith, d)) (λ j. let e : m ≡ stretch_at l (from + i) = rw j is in rw (← e) (omega arith)) (earlier i (suc n) (omega arith));
              lowest = λ i b s.
                  ⊎_elim
                  (λ j. absurd (let q = rw s at (g.least i (omega arith)) in omega (arith, d)))
                  (λ j. let e : m ≡ stretch_at l (from + i) = rw j is in omega arith)
                  (earlier i (suc n) (omega arith));
            }
