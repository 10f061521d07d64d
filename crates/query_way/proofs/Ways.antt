-- Lines that agree have the same way; a way leads to the signal, its gradients are of the sheet's span; what is turned away.
use mathlib.Core.Path.{◌≡◌, refl, sym, ap, subst, ◌∙◌}
use mathlib.Core.Bool.{true, false}
use mathlib.Core.List.{List, [], ◌∷◌}
use Prim.Native.Nat.{ℕ, ◌+◌, ◌-◌, ◌≤◌, ◌<◌}
use native.Mathlib.Omega.{arith}
use borrow.Author.Tests.{lt-leb, le-leb, lt-ltb, le-ltb, ne_eqb}
use mathlib.Core.Logic.{⊎_elim}
use lib.Dec.{ltb, lit≤}
use Rattle.lists.proofs.Split.{below, earlier}
use Rattle.train.specs.declared.Metre.{Metre}
use Rattle.train.specs.Refusal.{◌gives◌}
use Rattle.train.specs.Units.{metres}
use Rattle.train.proofs.Refusals.{first-before}
use Rattle.train.proofs.Judging as rules
use Rattle.train.proofs.Judging.{Judges, ◌then◌, no_more, at_least}
use Rattle.sheet_line.specs.Line.{Line}
use Rattle.sheet.specs.Sheet.{line_of, accepted}
use Rattle.sheet.proofs.Kept.{headed-of, sheet-settles}
use Rattle.sheet.specs.Kept.{Kept}
use Rattle.sheet_lookup.specs.Answer.{read_refusals, signal_of}
use Rattle.sheet_lookup.proofs.Read.{read-refusal}
use Rattle.sheet_span.specs.Least.{slope_at, least_over, governing_over, LeastOver}
use Rattle.sheet_span.proofs.Points.{same-least}
use Rattle.sheet_walk.specs.declared.Grade.{Grade}
use Rattle.query_way.specs.Way.{way_refusals, way_rules, tail_of, past_of, way_of, governing_past, governing_on, Leads, Agree}
use Rattle.query_way.specs.Find.{refusal, GradeOver, Past}
pub use Rattle.query_way.proofs.Behind.{tail-behind}

-- the least is its stretch's
pub grade-over : (l : Line) (from to : ℕ) (g : Grade) → Kept l → LeastOver l from to g.gradient g.stretch → GradeOver l from to g
grade-over l from to g h o = record { least = o; moderate = rw (← o.own) (h.stretches.each g.stretch o.holds.held.number).1 }

module _ (s : List ℕ) (k head : ℕ) where
  -- no such signal: the read's refusal
  pub unread : (n : ℕ) → (signal_of s k).refusal ≡ n → 0 < n → refusal s k head ≡ n
  unread n e h = let f = sym (read-refusal s k) ∙ e in first-before (read_refusals s (line_of s).signals k) (ltb ((line_of s).place k) head gives 9 ∷ []) (λ z. omega (arith, f)) ∙ f

  pub no-sheet : accepted s ≡ false → refusal s k head ≡ 7
  no-sheet e = unread 7 (read-refusal s k ∙ simp e) (omega arith)

  pub no-signal : accepted s ≡ true → (line_of s).signals ≤ k → refusal s k head ≡ 8
  no-signal e h = unread 8 (read-refusal s k ∙ simp (e, le-leb _ _ h)) (omega arith)

  there : accepted s ≡ true → k < (line_of s).signals → (signal_of s k).refusal ≡ 0
  there e h = read-refusal s k ∙ simp (e, lt-leb _ _ h)

  -- of an accepted sheet a signal's read is refused where there is no such signal
  pub no-such : accepted s ≡ true → 0 < (signal_of s k).refusal → refusal s k head ≡ 8
  no-such e p = ⊎_elim (λ h. absurd (let z = there e h in let i : ⊥ = omega (arith, p, z) in i)) (no-signal e) (below k (line_of s).signals)

  module _ (e : accepted s ≡ true) (h : k < (line_of s).signals) where
    pub beyond : (line_of s).place k < head → refusal s k head ≡ 9
    beyond i = rw (e, lt-leb _ _ h, lt-ltb _ _ i) refl

    pub reached : head ≤ (line_of s).place k → refusal s k head ≡ 0
    reached i = rw (e, lt-leb _ _ h, le-ltb _ _ i) refl

    -- the signal stands on the line, and its overlap ends there
    pub on_line : ((line_of s).place k < (line_of s).end) × ((line_of s).place k + (line_of s).overlap k ≤ (line_of s).end)
    on_line = (headed-of s e).1.signals.each k h

-- the governing grade of an overlap
module _ (l : Line) (place overlap length : ℕ) where
  past-none : overlap ≡ 0 → past_of l place overlap length ≡ record { rise = 0; fall = 0 }
  unfolding past_of
  past-none e = rw e refl

  past_is : 0 < overlap → past_of l place overlap length ≡ least_over l (tail_of place length) (place + overlap)
  unfolding past_of
  past_is h = rw (ne_eqb overlap 0 (λ e. omega arith)) refl

  number-none : overlap ≡ 0 → governing_past l place overlap length ≡ 65535
  unfolding governing_past
  number-none e = rw e refl

  number_is : 0 < overlap → governing_past l place overlap length ≡ governing_over l (tail_of place length) (place + overlap)
  unfolding governing_past
  number_is h = rw (ne_eqb overlap 0 (λ e. omega arith)) refl

  pub no-overlap : overlap ≡ 0 → Past l place overlap length (record { gradient = record { rise = 0; fall = 0 }; stretch = 65535 })
  no-overlap e =
      record {
        value = sym (past-none e);
        number = sym (number-none e);
        moderate = record { rise = lit≤ tt; fall = lit≤ tt };
        least = λ h. absurd (let i : ⊥ = omega arith in i);
        none = λ z. refl;
      }

  -- `last` is the last point of the overlap
  pub some-overlap : (g : Grade) (last : ℕ) → Kept l → 0 < overlap → last + 1 ≡ place + overlap → LeastOver l (tail_of place length) (last + 1) g.gradient g.stretch → Past l place overlap length g
  some-overlap g last k h e q =
      let o = rw e at q in
      record {
        value = o.value ∙ sym (past_is h);
        number = o.number ∙ sym (number_is h);
        moderate = (grade-over l (tail_of place length) (place + overlap) g k o).moderate;
        least = λ i. o;
        none = λ z. absurd (let i : ⊥ = omega arith in i);
      }

-- lines with the same gradient at each point of a span have the same least over it
same_over : (l m : Line) (from to : ℕ) → from < to → ((p : ℕ) → from ≤ p → p < to → slope_at l p ≡ slope_at m p) → least_over l from to ≡ least_over m from to
same_over l m from to h f = same-least l m from (to - from - 1) (λ n b. f (from + n) (omega arith) (omega arith))

-- lines that agree have the same way, where the head is not beyond the signal
module _ (l m : Line) (i j head length : ℕ) (a : Agree l m i j head length) (h : head ≤ l.place i) where
  abbrev place : ℕ
  place = l.place i

  abbrev overlap : ℕ
  overlap = l.overlap i

  same-past : past_of l place overlap length ≡ past_of m place overlap length
  same-past =
      ⊎_elim
      (λ o. past_is l place overlap length o ∙ same_over l m (tail_of place length) (place + overlap) (omega arith) (λ p b c. a.gradient p (omega arith) c) ∙ sym (past_is m place overlap length o))
      (λ e. let z : overlap ≡ 0 = omega arith in past-none l place overlap length z ∙ sym (past-none m place overlap length z))
      (below 0 overlap)

  same_ahead : least_over l (tail_of head length) (place + 1) ≡ least_over m (tail_of head length) (place + 1)
  same_ahead =
      same_over l m (tail_of head length) (place + 1) (omega arith)
      (λ p b c. ⊎_elim (λ o. a.gradient p (omega arith) (omega arith)) (λ e. rw e a.own) (earlier p place (omega arith)))

  pub same_way : way_of l i head length ≡ way_of m j head length
  unfolding way_of
  same_way = rw (← a.place, ← a.overlap, same_ahead, same-past) refl

-- what the code has read and found: the way, what governs it, and that it leads to the signal
module _ (l : Line) (k head length : ℕ) (place overlap : Metre) (ahead past : Grade) (e : place ≡ metres (l.place k)) (f : overlap ≡ metres (l.overlap k)) where
  pub way-of : ahead.gradient ≡ least_over l (tail_of head length) (place.0 + 1) → past.gradient ≡ past_of l place.0 overlap.0 length → record { distance = metres (place.0 - head); ahead = ahead.gradient; overlap = overlap; past = past.gradient } ≡ way_of l k head length
  unfolding way_of
  way-of a b = rw (a, b, e, f) refl

  pub governing-of : ahead.stretch ≡ governing_over l (tail_of head length) (place.0 + 1) → past.stretch ≡ governing_past l place.0 overlap.0 length → record { overlap = past.stretch; ahead = ahead.stretch } ≡ governing_on l k head length
  unfolding governing_on
  governing-of a b = rw (a, b, e, f) refl

  pub leads-of : head ≤ place.0 → GradeOver l (tail_of head length) (place.0 + 1) ahead → Past l place.0 overlap.0 length past → Leads l k head length (record { distance = metres (place.0 - head); ahead = ahead.gradient; overlap = overlap; past = past.gradient }) (record { overlap = past.stretch; ahead = ahead.stretch })
  leads-of h a b =
      let p : place.0 ≡ l.place k = ap (λ (m : Metre). m.0) e in
      let o : overlap.0 ≡ l.overlap k = ap (λ (m : Metre). m.0) f in
      record {
        signal = omega (arith, p);
        overlap = o;
        ahead = (tail_of head length, (tail-behind head length, subst (λ x. LeastOver l (tail_of head length) (x + 1) ahead.gradient ahead.stretch) p a.least));
        past =
            λ i. (
              tail_of (l.place k) length,
              (
                tail-behind (l.place k) length,
                subst (λ x. LeastOver l (tail_of x length) (x + l.overlap k) past.gradient past.stretch) p (subst (λ y. LeastOver l (tail_of place.0 length) (place.0 + y) past.gradient past.stretch) o (b.least i)),
              ),
            );
        none = b.none;
      }

-- the conditions decide by the rules
pub way-judges : (s : List ℕ) (k head : ℕ) → Judges (way_rules s k head) (way_refusals s k head)
way-judges s k head = sheet-settles s then rules.below 8 tt k (line_of s).signals then at_least 9 tt head ((line_of s).place k) then no_more
