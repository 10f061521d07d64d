-- What a read promises beside its answer.
use mathlib.Core.Path.{◌≡◌, refl, sym, ap, ◌∙◌}
use mathlib.Core.Bool.{false}
use mathlib.Core.List.{List, [], ◌∷◌}
use mathlib.Core.Logic.{⊎_elim}
use Prim.Native.Nat.{ℕ, ◌<◌}
use borrow.Author.Tests.{leb-false, ne_eqb}
use lib.IntN.{pos}
use native.Mathlib.Omega.{arith}
use Rattle.lists.proofs.Split.{below}
use Rattle.train.specs.Units.{metres}
use Rattle.train.specs.Refusal.{first_of}
use Rattle.train.specs.Judged.{◌keeps◌, Judged}
use Rattle.train.proofs.Refusals.{Rising, none-holds}
use Rattle.train.proofs.Judging.{below as under, no_more, ◌then◌, told}
use Rattle.train.proofs.Lending.{refused-demand, given-demand}
use Rattle.sheet.specs.Sheet.{line_of, accepted}
use Rattle.sheet.specs.Fields.{KthStretch, KthSignal}
use Rattle.sheet.specs.Kept.{sheet_rule}
use Rattle.sheet.proofs.Kept.{sheet-settles}
use Rattle.sheet.proofs.Kth.{stretch-count, signal-count, kth-stretch, kth-signal}
use Rattle.sheet_mark.specs.Answer.{Again}
use Rattle.sheet_lookup.specs.declared.Stretch.{Stretch}
use Rattle.sheet_lookup.specs.declared.Signal.{Signal}
use Rattle.sheet_lookup.specs.Answer.{read_refusals, stretch_of, signal_of, StretchAnswers, SignalAnswers}

-- the refusals go by the one order, so the first that applies is the answer (the train's `soonest` and `applies`)
pub read-rising : (s : List ℕ) (count k : ℕ) → Rising 1 (read_refusals s count k)
read-rising s count k = (tt, (tt, tt))

module _ (s : List ℕ) (k : ℕ) where
  -- a list is as long as the count that the number is held to
  spans : (n count r : ℕ) → n ≡ count → r ≡ first_of (read_refusals s count k) → Judged (sheet_rule s ∷ 8 keeps (k < n) ∷ []) r
  spans n count r e i = rw e (told (sheet-settles s then under 8 tt k count then no_more) i).1

  number : (count : ℕ) → first_of (read_refusals s count k) ≡ 0 → k < count
  number count z = let (a, (b, _)) = none-holds 0 (read_refusals s count k) (read-rising s count k) z in leb-false _ _ b

  -- a refusal promises nothing of the bytes
  not-again : Again s 7
  not-again = record { again = λ e. absurd (let z : 7 ≡ 0 = e in omega arith) }

  -- of a stretch, without a refusal and with one
  abbrev first-of-stretch : ℕ
  first-of-stretch = first_of (read_refusals s (line_of s).stretches k)

  given-stretch : first-of-stretch ≡ 0 → ((stretch_of s k).refusal ≡ 0) × KthStretch s k (stretch_of s k).start.0 (stretch_of s k).gradient
  unfolding stretch_of
  given-stretch z = rw z (refl, kth-stretch s k (number _ z))

  refused-stretch : 0 < first-of-stretch → stretch_of s k ≡ record { refusal = first-of-stretch; start = metres 0; gradient = pos 0 }
  unfolding stretch_of
  refused-stretch l = rw (ne_eqb first-of-stretch 0 (λ e. omega arith)) refl

  pub stretch-answers : (r : Stretch) → r ≡ stretch_of s k → Again s r.refusal → StretchAnswers s k r s
  stretch-answers r e a =
      ⊎_elim
      (λ j.
      let z : first-of-stretch ≡ 0 = omega arith in
      let (i, p) = given-stretch z in
      let y : r.refusal ≡ 0 = ap (λ (r : Stretch). r.refusal) e ∙ i in
      record { answer = e; lent = rw y (given-demand _ s); spans = spans _ _ _ (stretch-count s) (y ∙ sym z); again = a; read = λ y. rw e p })
      (λ l.
      let i = e ∙ refused-stretch l in
      let y = ap (λ (r : Stretch). r.refusal) i in
      record { answer = e; lent = rw i (refused-demand _ _ s (refl, (refl, (refl, tt)))); spans = spans _ _ _ (stretch-count s) y; again = a; read = λ z. absurd (omega arith) })
      (below first-of-stretch 1)

  pub no-stretch : accepted s ≡ false → StretchAnswers s k (record { refusal = 7; start = metres 0; gradient = pos 0 }) s
  unfolding stretch_of
  no-stretch h = stretch-answers _ (simp h) not-again

  -- of a signal, without a refusal and with one
  abbrev first-of-signal : ℕ
  first-of-signal = first_of (read_refusals s (line_of s).signals k)

  given-signal : first-of-signal ≡ 0 → ((signal_of s k).refusal ≡ 0) × KthSignal s k (signal_of s k).place.0 (signal_of s k).overlap.0
  unfolding signal_of
  given-signal z = rw z (refl, kth-signal s k (number _ z))

  refused-signal : 0 < first-of-signal → signal_of s k ≡ record { refusal = first-of-signal; place = metres 0; overlap = metres 0 }
  unfolding signal_of
  refused-signal l = rw (ne_eqb first-of-signal 0 (λ e. omega arith)) refl

  pub signal-answers : (r : Signal) → r ≡ signal_of s k → Again s r.refusal → SignalAnswers s k r s
  signal-answers r e a =
      ⊎_elim
      (λ j.
      let z : first-of-signal ≡ 0 = omega arith in
      let (i, p) = given-signal z in
      let y : r.refusal ≡ 0 = ap (λ (r : Signal). r.refusal) e ∙ i in
      record { answer = e; lent = rw y (given-demand _ s); spans = spans _ _ _ (signal-count s) (y ∙ sym z); again = a; read = λ y. rw e p })
      (λ l.
      let i = e ∙ refused-signal l in
      let y = ap (λ (r : Signal). r.refusal) i in
      record { answer = e; lent = rw i (refused-demand _ _ s (refl, (refl, tt))); spans = spans _ _ _ (signal-count s) y; again = a; read = λ z. absurd (omega arith) })
      (below first-of-signal 1)

  pub no-signal : accepted s ≡ false → SignalAnswers s k (record { refusal = 7; place = metres 0; overlap = metres 0 }) s
  unfolding signal_of
  no-signal h = signal-answers _ (simp h) not-again
