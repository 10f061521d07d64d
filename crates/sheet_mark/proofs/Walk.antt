-- The mark along an accepted sheet: n moves from a fresh one give the stretches 0 to n - 1 in order, then "end" for ever.
use mathlib.Core.Path.{◌≡◌, refl, ap, subst, ◌∙◌}
use mathlib.Core.Bool.{true}
use mathlib.Core.List.{List}
use mathlib.Core.Logic.{◌⊎◌, inl, inr, ⊎_elim}
use Prim.Native.Nat.{ℕ, zero, suc, ◌≤◌, ◌<◌}
use native.Mathlib.Omega.{arith}
use native.Mathlib.Numerals.{add-one}
use borrow.Author.Tests.{lt-ltb, le-ltb}
use Rattle.lists.proofs.Split.{below}
use Rattle.sheet_line.specs.Line.{Line}
use Rattle.sheet.specs.Sheet.{line_of, accepted}
use Rattle.sheet.proofs.Kth.{stretch-count, kth-stretch}
use Rattle.sheet_mark.specs.declared.Mark.{Mark}
use Rattle.sheet_mark.specs.declared.Move.{Move}
use Rattle.sheet_mark.specs.Answer.{step_on, step_off, step_of, move_of, after_moves, Moves}

-- a step before the end, and at it
pub step-on : (l : Line) (m : Mark) → m.next < l.stretches → step_of l m ≡ step_on l m
step-on l m h = simp (lt-ltb m.next l.stretches h)

pub step-off : (l : Line) (m : Mark) → l.stretches ≤ m.next → step_of l m ≡ step_off m
step-off l m h = simp (le-ltb m.next l.stretches h)

module _ (s : List ℕ) (sheet : accepted s ≡ true) where
  abbrev at : ℕ → Mark
  at k = record { next = k }

  move-on : (m : Mark) → m.next < (line_of s).stretches → move_of s m ≡ step_on (line_of s) m
  unfolding move_of
  move-on m h = simp sheet (step-on (line_of s) m h)

  -- any mark that is not before a stretch is at the end, and stays
  pub stays : (m : Mark) → (line_of s).stretches ≤ m.next → move_of s m ≡ step_off m
  unfolding move_of
  stays m h = simp sheet (step-off (line_of s) m h)

  -- so a move gives the stretch that the mark stands before, or the end
  pub moves : (m : Mark) → Moves s m.next m (move_of s m)
  moves m =
      let n = stretch-count s in
      ⊎_elim
      (λ l. rw (move-on m l) (record { on = λ h. record { more = refl; fields = kth-stretch s m.next l; behind = refl }; off = λ h. absurd (omega arith) }))
      (λ l. rw (stays m l) (record { on = λ h. absurd (omega arith); off = λ h. record { told = refl; zeros = (refl, (refl, (refl, tt))); same = refl } }))
      (below m.next (line_of s).stretches)

  before : (k : ℕ) → k ≤ (line_of s).stretches → after_moves s k ≡ at k
  unfolding after_moves
  before zero h = refl
  before (suc k) h = ap (λ m. (move_of s m).mark) (before k (omega arith)) ∙ ap (λ (r : Move). r.mark) (move-on (at k) h) ∙ ap at (add-one k)

  behind : (k : ℕ) → (line_of s).stretches ≤ k → after_moves s k ≡ at (line_of s).stretches
  unfolding after_moves
  behind zero h = ap at (let z : 0 ≡ (line_of s).stretches = omega arith in z)
  behind (suc k) h =
      ⊎_elim
      (λ l. before (suc k) l ∙ ap at (let z : suc k ≡ (line_of s).stretches = omega arith in z))
      (λ l. ap (λ m. (move_of s m).mark) (behind k l) ∙ ap (λ (r : Move). r.mark) (stays (at (line_of s).stretches) (omega arith)))
      (below k (line_of s).stretches)

  -- after k moves the mark stands before stretch k, or both are at the end
  stands : (k : ℕ) → ((after_moves s k).next ≡ k) ⊎ (((line_of s).stretches ≤ k) × ((line_of s).stretches ≤ (after_moves s k).next))
  stands k =
      ⊎_elim
      (λ l. inl (ap (λ (m : Mark). m.next) (before k (omega arith))))
      (λ l. inr (l, let e = ap (λ (m : Mark). m.next) (behind k l) in omega arith))
      (below k (line_of s).stretches)

  pub moves-in-order : (k : ℕ) → Moves s k (after_moves s k) (move_of s (after_moves s k))
  moves-in-order k =
      let n = stretch-count s in
      let a = moves (after_moves s k) in
      ⊎_elim
      (λ e. subst (λ (i : ℕ). Moves s i (after_moves s k) (move_of s (after_moves s k))) e a)
      (λ (l, i). record { on = λ h. absurd (omega arith); off = λ h. a.off (omega arith) })
      (stands k)
