-- What a move promises, along bytes that are no sheet and along a sheet.
use mathlib.Core.Path.{◌≡◌, refl, sym, ap, subst, ◌∙◌}
use mathlib.Core.Bool.{true, false}
use mathlib.Core.List.{List}
use mathlib.Core.Logic.{⊎_elim}
use Prim.Native.Nat.{ℕ, suc}
use native.Mathlib.Omega.{arith}
use Rattle.lists.proofs.Split.{below}
use Rattle.train.proofs.Judging.{no_more, ◌then◌, told}
use Rattle.train.proofs.Lending.{refused-demand, given-demand}
use Rattle.sheet_line.specs.Line.{Line}
use Rattle.sheet.specs.Sheet.{line_of, accepted}
use Rattle.sheet.specs.Fields.{sheet_of, fields_of}
use Rattle.sheet.proofs.Kept.{sheet-settles}
use Rattle.sheet_mark.specs.declared.Mark.{Mark}
use Rattle.sheet_mark.specs.declared.Move.{Move}
use Rattle.sheet_mark.specs.Answer.{refused, step_of, move_of, Moves, MoveAnswers}
use Rattle.sheet_mark.proofs.Walk.{step-on, step-off, moves, moves-in-order}

never : {A : Type 0} (n : ℕ) → suc n ≡ 0 → A
never n e = absurd (let z : suc n ≡ 0 = e in omega arith)

-- a step is never refused
no-refusal : (l : Line) (m : Mark) → (step_of l m).refusal ≡ 0
no-refusal l m = ⊎_elim (λ i. ap (λ (r : Move). r.refusal) (step-on l m i)) (λ i. ap (λ (r : Move). r.refusal) (step-off l m i)) (below m.next l.stretches)

module _ (s : List ℕ) (m : Mark) where
  pub no-sheet : accepted s ≡ false → MoveAnswers s m (refused 7) s
  unfolding move_of
  no-sheet h =
      record {
        answer = simp h;
        lent = refused-demand 7 _ s (refl, (refl, (refl, (refl, (refl, tt)))));
        spans = (told {n = 7} (sheet-settles s then no_more) (simp h)).1;
        again = record { again = never 6 };
        next = never 6;
        in_order = never 6;
      }

  pub along : (r : Move) → accepted s ≡ true → sheet_of (fields_of s) ≡ s → r ≡ step_of (line_of s) m → MoveAnswers s m r s
  unfolding move_of
  along r h w e =
      let i : r ≡ move_of s m = e ∙ simp h in
      let z : r.refusal ≡ 0 = ap (λ (r : Move). r.refusal) e ∙ no-refusal (line_of s) m in
      record {
        answer = i;
        lent = rw z (given-demand _ s);
        spans = rw z (told {n = 0} (sheet-settles s then no_more) (simp h)).1;
        again = record { again = λ y. w };
        next = λ y. rw i (moves s h m);
        in_order = λ y k j. subst (λ (p : Mark). Moves s k p r) (sym j) (rw (i ∙ ap (move_of s) j) (moves-in-order s h k));
      }
