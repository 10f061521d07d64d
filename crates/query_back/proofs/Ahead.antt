-- Cards 3 and 4, of two calls: the last step's least is the gradient ahead, and its stretch the one that governs there, on every way that
-- leads to the signal, and so on the query's.
use mathlib.Core.Path.{◌≡◌, sym, ap, ◌∙◌}
use mathlib.Core.List.{List}
use mathlib.Core.Logic.{⊎_elim}
use Prim.Native.Nat.{ℕ, suc, ◌+◌, ◌≤◌, ◌<◌}
use native.Mathlib.Omega.{arith}
use Rattle.lists.proofs.Split.{below}
use Rattle.train.specs.Gradient.{gradient_of}
use Rattle.sheet_line.specs.Line.{Line}
use Rattle.sheet.specs.Sheet.{line_of}
use Rattle.sheet.specs.Kept.{Kept}
use Rattle.sheet_span.specs.Least.{stretch_at, least_over, governing_over}
use Rattle.sheet_span.proofs.Stretches.{at-point}
use Rattle.sheet_walk.specs.declared.Back.{Back}
use Rattle.sheet_walk.specs.Back.{Steps}
use Rattle.query_way.specs.declared.Way.{Way}
use Rattle.query_way.specs.declared.Governing.{Governing}
use Rattle.query_way.specs.Way.{Behind, Leads}
use Rattle.query_back.specs.Answer.{BackAnswers}

-- there is one place for the tail
one-tail : (head length a b : ℕ) → Behind head length a → Behind head length b → a ≡ b
one-tail head length a b p q = ⊎_elim (λ i. ⊎_elim (λ j. omega arith) (λ (j, k). omega arith) q) (λ (i, k). ⊎_elim (λ j. omega arith) (λ (j, l). omega arith) q) p

module _ (s : List ℕ) (signal head length : ℕ) where
  abbrev line : Line
  line = line_of s

  -- a step that was answered goes along the walk, whose two ends are the same for every step
  module _ {n : ℕ} {r : Back} {after : List ℕ} (a : BackAnswers s signal head length n r after) (z : r.refusal ≡ 0) where
    abbrev tail : ℕ
    tail = (a.steps z).0

    steps : Steps s tail (line.place signal) n r
    steps = (a.steps z).1.1

    kept : Kept line
    kept = (a.spans.accepted z).1.0.line

    from_tail : stretch_at line tail ≡ steps.first
    from_tail = at-point line kept steps.first tail steps.behind

    from-signal : stretch_at line (line.place signal) ≡ steps.last
    from-signal = at-point line kept steps.last (line.place signal) steps.ahead

    -- not over, and over
    going : r.end ≡ 0 → steps.first + n ≤ steps.last
    going e = ⊎_elim (λ i. absurd (let o = (steps.off i).told in omega arith)) (λ i. i) (below steps.last (steps.first + n))

    gone : r.end ≡ 1 → steps.last < steps.first + n
    gone e = ⊎_elim (λ i. i) (λ i. absurd (let o = (steps.on i).more in omega arith)) (below steps.last (steps.first + n))

  -- a step that is over was not refused
  unrefused : {n : ℕ} {r : Back} {after : List ℕ} → BackAnswers s signal head length n r after → r.end ≡ 1 → r.refusal ≡ 0
  unrefused {n} {r} a e = ⊎_elim (λ i. absurd (let o = (a.lent.zeros i).0 in omega arith)) (λ i. omega arith) (below 0 r.refusal)

  -- one step is on the way, and the next is the end
  pub last-least : (n : ℕ) (r e : Back) (after behind : List ℕ) (w : Way) (g : Governing) → BackAnswers s signal head length n r after → BackAnswers s signal head length (suc n) e behind → r.refusal ≡ 0 → r.end ≡ 0 → e.end ≡ 1 → Leads line signal head length w g → (gradient_of r.least ≡ w.ahead) × (r.least_stretch ≡ g.ahead)
  last-least n r e after behind w g a b z on off leads =
      let y = unrefused b off in
      let same = one-tail head length (tail a z) (tail b y) (a.steps z).1.0 (b.steps y).1.0 in
      let begin : (steps a z).first ≡ (steps b y).first = sym (from_tail a z) ∙ ap (stretch_at line) same ∙ from_tail b y in
      let end : (steps a z).last ≡ (steps b y).last = sym (from-signal a z) ∙ from-signal b y in
      let i = going a z on in
      let j = gone b y off in
      let all = (steps a z).whole (omega arith) in
      let (t, (p, o)) = leads.ahead in
      let from : tail a z ≡ t = one-tail head length (tail a z) t (a.steps z).1.0 p in
      let to = line.place signal + 1 in (
        all.value ∙ ap (λ (k : ℕ). least_over line k to) from ∙ sym o.value,
        all.number ∙ ap (λ (k : ℕ). governing_over line k to) from ∙ sym o.number,
      )
