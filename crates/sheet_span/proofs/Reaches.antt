-- How far each stretch reaches, that later ones start later, and that the one that holds a point is the definition's.
use mathlib.Core.Path.{◌≡◌, sym}
use mathlib.Core.Logic.{⊎_elim}
use Prim.Native.Nat.{ℕ, zero, suc, ◌≤◌, ◌<◌}
use native.Mathlib.Omega.{arith}
use borrow.Author.Tests.{le-leb, lt-leb, lt-ltb, le-ltb}
use Rattle.lists.proofs.Split.{below, earlier}
use Rattle.sheet_line.specs.Line.{Line}
use Rattle.sheet_line.specs.Records.{Along}
use Rattle.sheet.specs.Kept.{Kept}
use Rattle.sheet_span.specs.Least.{reach, Holds, stretch_up_to}

-- how far a stretch reaches
pub reach-next : (l : Line) (k : ℕ) → suc k < l.stretches → reach l k ≡ l.start (suc k)
reach-next l k h = simp (lt-ltb (suc k) l.stretches h)

pub reach-last : (l : Line) (k : ℕ) → l.stretches ≤ suc k → reach l k ≡ l.end
reach-last l k h = simp (le-ltb (suc k) l.stretches h)

-- a later stretch starts later
later : (x : ℕ → ℕ) (R : ℕ → Type 0) (n : ℕ) → Along x R n → (i j : ℕ) → i < j → j < n → x i < x j
later x R n a i zero h l = absurd (let z : i < 0 = h in omega arith)
later x R n a i (suc j) h l =
    let q = a.rising j l in
    ⊎_elim (λ m. let p = later x R n a i j m (omega arith) in omega arith) (λ k. rw k q) (earlier i j h)

module _ (l : Line) (h : Kept l) where
  pub starts-ordered : (i j : ℕ) → i ≤ j → j < l.stretches → l.start i ≤ l.start j
  starts-ordered i j a n =
      ⊎_elim (λ m. let q = later l.start _ l.stretches h.stretches i j m n in omega arith) (λ e. rw e (omega arith)) (earlier i j (omega arith))

  -- a stretch holds its own start
  pub own-start : (k : ℕ) → k < l.stretches → Holds l k (l.start k)
  own-start k n =
      record {
        number = n;
        from = omega arith;
        before =
            ⊎_elim
            (λ m. rw (reach-next l k m) (h.stretches.rising k m))
            (λ m. rw (reach-last l k m) (h.stretches.each k n).0)
            (below (suc k) l.stretches);
      }

  -- of the stretches that start at or before a point the one that holds it is the last
  pub none-later : (j k p : ℕ) → Holds l k p → j < l.stretches → l.start j ≤ p → j ≤ k
  none-later j k p a n s =
      ⊎_elim
      (λ i. absurd (let r = reach-next l k (omega arith) in let q = starts-ordered (suc k) j i n in let b = a.before in omega arith))
      (λ i. i)
      (below k j)

  -- so it is the definition's
  pub up_to : (k p : ℕ) → Holds l k p → (m : ℕ) → k ≤ m → m < l.stretches → stretch_up_to l m p ≡ k
  unfolding stretch_up_to
  up_to k p a zero i n = omega arith
  up_to k p a (suc m) i n =
      ⊎_elim
      (λ e.
      let r : reach l k ≡ l.start (suc k) = reach-next l k (omega arith) in
      let q = starts-ordered (suc k) (suc m) e n in
      let b = a.before in
      simp (lt-leb (l.start (suc m)) p (omega arith)) (up_to k p a m (omega arith) (omega arith)))
      (λ e. simp (le-leb (l.start (suc m)) p (rw (← e) a.from)) (sym e))
      (earlier k (suc m) (omega arith))
