-- What a step promises, refused and not.
use mathlib.Core.Path.{◌≡◌, refl, sym, ap, ◌∙◌}
use mathlib.Core.Bool.{Bool, true, false, cond}
use mathlib.Core.List.{List}
use Prim.Native.Nat.{ℕ, ◌+◌, ◌<◌}
use native.Mathlib.Omega.{arith}
use borrow.Author.Tests.{ne_eqb}
use lib.Dec.{leb}
use Rattle.train.specs.Refusal.{first_of}
use Rattle.train.proofs.Refusals.{Rising}
use Rattle.train.proofs.Judging.{told}
use Rattle.train.proofs.Lending.{refused-demand, given-demand}
use Rattle.sheet.specs.Sheet.{line_of}
use Rattle.sheet_walk.specs.declared.Back.{Back}
use Rattle.sheet_span.specs.Least.{stretch_at}
use Rattle.sheet_walk.specs.Walk.{walk_at}
use Rattle.sheet_walk.specs.Back.{shown, ended, back_on, Steps}
use Rattle.query_way.specs.Way.{tail_of}
use Rattle.query_way.proofs.Ways.{tail-behind}
use Rattle.query_back.specs.Answer.{refused, back_refusals, back_of, BackAnswers}
use Rattle.query_back.proofs.Judging.{back-judges}
pub use Rattle.query_back.proofs.Judging.{by-the-length, by-the-sheet}

module _ (s : List ℕ) (signal head length : ℕ) where
  abbrev first : ℕ
  first = first_of (back_refusals s signal head length)

  -- the refusals go by the one order, so the first that applies is the answer (the train's `soonest` and `applies`)
  pub back-rising : Rising 1 (back_refusals s signal head length)
  back-rising = (tt, (tt, (tt, (tt, tt))))

  module _ (n : ℕ) where
    pub back-refused : (k : ℕ) → first ≡ k → 0 < k → BackAnswers s signal head length n (refused k) s
    unfolding back_of
    back-refused k e h =
        record {
          answer = rw (e, ne_eqb k 0 (λ z. omega arith)) refl;
          lent = refused-demand k _ s (refl, (refl, (refl, (refl, (refl, (refl, (refl, tt)))))));
          spans = (told (back-judges s signal head length) (sym e)).1;
          steps = λ z. absurd (let i : k ≡ 0 = z in omega arith);
        }

    -- a step of the walk is not refused
    given : (back_on (line_of s) (tail_of head length) ((line_of s).place signal) n).refusal ≡ 0
    unfolding back_on
    given = go (leb (stretch_at (line_of s) (tail_of head length) + n) (stretch_at (line_of s) ((line_of s).place signal)))
      where
        go : (b : Bool) → (cond b (shown (walk_at (line_of s) (stretch_at (line_of s) ((line_of s).place signal)) n)) ended).refusal ≡ 0
        go true = refl
        go false = refl

    pub back-given : (r : Back) → first ≡ 0 → r ≡ back_on (line_of s) (tail_of head length) ((line_of s).place signal) n → Steps s (tail_of head length) ((line_of s).place signal) n r → BackAnswers s signal head length n r s
    unfolding back_of
    back-given r e i steps =
        let z : r.refusal ≡ 0 = ap (λ (r : Back). r.refusal) i ∙ given in
        record {
          answer = rw e i;
          lent = rw z (given-demand _ s);
          spans = (told (back-judges s signal head length) (z ∙ sym e)).1;
          steps = λ y. (tail_of head length, (tail-behind head length, steps));
        }
