-- Two accepted sheets that agree on the chosen signal and on the gradient at each point of the span, from the tail on, get the same answer
-- but for the numbers of their stretches (Card 4).
use mathlib.Core.Path.{◌≡◌, refl, sym, ap, subst, ◌∙◌}
use mathlib.Core.Bool.{Bool, true, false, cond}
use mathlib.Core.List.{List, ◌++◌}
use mathlib.Core.Logic.{⊎_elim}
use Prim.Native.Nat.{ℕ, ◌≤◌, ◌<◌}
use native.Mathlib.Omega.{arith}
use native.Mathlib.Nat.{not-le_of_lt}
use borrow.Author.Tests.{lt-leb}
use lib.Dec.{eqb}
use Rattle.lists.proofs.Split.{below}
use Rattle.train.specs.declared.Train.{Train}
use Rattle.train.specs.declared.Coefficients.{Coefficients}
use Rattle.train.specs.Refusal.{Refusal, first_of, train_refusals, coefficient_refusals}
use Rattle.ramp.specs.Answer.{time_refusals}
use Rattle.sheet.specs.Sheet as sheet
use Rattle.sheet.specs.Sheet.{line_of}
use Rattle.query_way.specs.declared.Way.{Way}
use Rattle.query_way.specs.declared.Governing.{Governing}
use Rattle.query_way.specs.Way.{way_refusals, Agree}
use Rattle.query_way.proofs.Ways.{same_way}
use Rattle.query.specs.declared.Answer.{Answer}
use Rattle.query.specs.Answer.{refused, brake_refusals, accepted, inputs, way_to, governing_to, AllButTheStretches, answer_of, QueryAnswers}
use Rattle.query.proofs.Answers.{inputs-judge, by-inputs}

module _ (k : Coefficients) (t : Train) (tm tr : ℕ) (s z : List ℕ) (i j head : ℕ) where
  -- the answer from what the sheet turns away, what it says of the way, and which stretches it has there
  abbrev from : List Refusal → Way → Governing → Answer
  from r w n =
      let m = first_of ((train_refusals t ++ (time_refusals tm tr ++ (coefficient_refusals k ++ r))) ++ brake_refusals k t tm tr w) in
      cond (eqb m 0) (accepted k t tm tr w n) (refused m)

  -- which do not matter to the rest
  any-stretches : (r : List Refusal) (w : Way) (n o : Governing) → AllButTheStretches (from r w n) (from r w o)
  any-stretches r w n o =
      let m = first_of ((train_refusals t ++ (time_refusals tm tr ++ (coefficient_refusals k ++ r))) ++ brake_refusals k t tm tr w) in
      go m (eqb m 0)
    where
      go : (m : ℕ) (b : Bool) → AllButTheStretches (cond b (accepted k t tm tr w n) (refused m)) (cond b (accepted k t tm tr w o) (refused m))
      go m true = record { refusal = refl; release = refl; permitted = refl; mark = refl; w = refl; sbi = refl; ebi = refl }
      go m false = record { refusal = refl; release = refl; permitted = refl; mark = refl; w = refl; sbi = refl; ebi = refl }

  module _ (is : sheet.accepted s ≡ true) (other : sheet.accepted z ≡ true) (first : i < (line_of s).signals) (second : j < (line_of z).signals) (a : Agree (line_of s) (line_of z) i j head t.length.0) where
    same-refusals : way_refusals s i head ≡ way_refusals z j head
    same-refusals = rw (is, other, lt-leb _ _ first, lt-leb _ _ second, a.place) refl

    same_inputs : inputs k t tm tr s i head ≡ inputs k t tm tr z j head
    same_inputs = rw same-refusals refl

    same-on-way : head ≤ (line_of s).place i → AllButTheStretches (answer_of k t tm tr s i head) (answer_of k t tm tr z j head)
    unfolding answer_of
    same-on-way h =
        let n = governing_to t s i head in
        let e = ap (λ r. from r (way_to t s i head) n) same-refusals ∙ ap (λ w. from (way_refusals z j head) w n) (same_way (line_of s) (line_of z) i j head t.length.0 a h) in
        subst (λ (r : Answer). AllButTheStretches r (answer_of k t tm tr z j head)) (sym e) (any-stretches (way_refusals z j head) (way_to t z j head) n (governing_to t z j head))

    same-beyond : (line_of s).place i < head → answer_of k t tm tr s i head ≡ answer_of k t tm tr z j head
    same-beyond h =
        ⊎_elim
        (λ l. sym (by-inputs k t tm tr s i head _ l refl).answer ∙ (by-inputs k t tm tr z j head _ l (ap first_of (sym same_inputs))).answer)
        (λ l. absurd (not-turned (omega arith)))
        (below 0 (first_of (inputs k t tm tr s i head)))
      where
        not-turned : first_of (inputs k t tm tr s i head) ≡ 0 → ⊥
        not-turned e = not-le_of_lt h ((inputs-judge k t tm tr s i head).judged.accepted e).1.1.1.1.1.1.1.0

    pub agreed : AllButTheStretches (answer_of k t tm tr s i head) (answer_of k t tm tr z j head)
    agreed = ⊎_elim (λ h. alike _ _ (same-beyond h)) same-on-way (below ((line_of s).place i) head)
      where
        alike : (r q : Answer) → r ≡ q → AllButTheStretches r q
        alike r q e = rw e (record { refusal = refl; release = refl; permitted = refl; mark = refl; w = refl; sbi = refl; ebi = refl })

    -- so two calls do
    pub same_answer : (r q : Answer) (x y : List ℕ) → QueryAnswers k t tm tr s i head r x → QueryAnswers k t tm tr z j head q y → AllButTheStretches r q
    same_answer r q x y b c = rw (b.answer, c.answer) agreed
