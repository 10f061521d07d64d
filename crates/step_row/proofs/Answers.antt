-- What the code finds out, refusal by refusal, makes a row's answer.
use mathlib.Core.Path.{◌≡◌, refl, sym, ap, ◌∙◌}
use mathlib.Core.Bool.{Bool, true, false, not, cond}
use mathlib.Core.List.{List, [], ◌∷◌, ◌++◌}
use mathlib.Core.Logic.{⊎_elim}
use Prim.Native.Nat.{ℕ, ◌+◌, ◌-◌, ◌≤◌, ◌<◌}
use native.Mathlib.Omega.{arith}
use native.Mathlib.Nat.{le_refl, le-add_right, add-zero}
use borrow.Author.Tests.{lt-ltb, le-ltb, ltb-true, ltb-false, ne_eqb, le-leb}
use lib.Dec.{ltb, lit<}
use lib.ListN.{length, drop, length-append, length-drop}
use lib.Seq.{drop_at}
use Rattle.lists.specs.Counted.{up_to}
use Rattle.lists.proofs.Split.{below}
use Rattle.lists.proofs.Holding.{no, refuted, every-at, every_of}
use Rattle.lists.proofs.Places.{same-places, places-length, place_at}
use Rattle.train.specs.declared.Kmh.{Kmh}
use Rattle.train.specs.declared.Train.{Train}
use Rattle.train.specs.declared.Written.{Written}
use Rattle.train.specs.declared.Gradient.{Gradient}
use Rattle.train.specs.Units.{kmh}
use Rattle.train.specs.declared.Coefficients.{Coefficients}
use Rattle.train.specs.Refusal.{Refusal, ◌gives◌, first_of}
use Rattle.train.proofs.Refusals.{Rising, rising-before, first-after, first-before}
use Rattle.train.specs.Judged.{◌keeps◌}
use Rattle.train.proofs.Judging.{Settles, Judges, settled, ◌then◌, no_more, told}
use Rattle.train.proofs.Lending.{refused-demand}
use Rattle.step_braking.specs.Braking.{strong}
use Rattle.step_curve.specs.declared.Curve.{Curve}
use Rattle.step_braking.specs.declared.Course.{Course}
use Rattle.step_curve.specs.Step.{distance}
use Rattle.step_braking.specs.Plan.{Enough}
use Rattle.step_curve.specs.Plan.{place_of}
use Rattle.step_braking.specs.Agreement.{IsCourse}
use Rattle.step_curve.proofs.Exact.{distance_is, distance_least}
use Rattle.step_braking.proofs.Exact.{strong-is}
use Rattle.step_braking.proofs.Ends.{between}
use Rattle.step.specs.Answer.{inputs, weak}
use Rattle.step.proofs.Answers.{inputs-rising, inputs-fit, inputs-then}
use Rattle.step_row.proofs.Strong.{brakes-settle}
use Rattle.step_row.specs.Answer.{speeds, strong_row, row_refusals, row_rules, row_answer, row_after, RowAnswers}

-- the refusals go by the one order, so the first that applies is the answer (the train's `soonest` and `applies`)
pub row-rising : (k : Coefficients) (t : Train) (g : Gradient) (v0 : Kmh) (room : ℕ) → Rising 1 (row_refusals k t g v0 room)
row-rising k t g v0 room = (tt, (tt, (tt, (tt, (tt, (tt, (tt, (tt, (tt, (tt, (tt, (tt, (tt, (tt, (tt, (tt, (tt, (tt, (tt, (tt, (tt, (tt, (tt, (tt, (tt, (tt, (tt, tt)))))))))))))))))))))))))))

-- the conditions decide by the rules in words of their own
room-settles : (t : Train) (v0 : Kmh) (room : ℕ) → Settles (11 keeps (t.top.0 + 1 ≤ v0.0 + room)) (ltb room (speeds t v0) gives 11 ∷ [])
room-settles t v0 room = settled (11 keeps (t.top.0 + 1 ≤ v0.0 + room)) tt (ltb room (speeds t v0)) (λ e. omega (arith, ltb-false room (speeds t v0) e)) (λ e i. omega (arith, i, ltb-true room (speeds t v0) e))

module _ (k : Coefficients) (t : Train) (g : Gradient) (v0 : Kmh) where
  pub row-judges : (room : ℕ) → Judges (row_rules k t g v0 room) (row_refusals k t g v0 room)
  row-judges room = inputs-then k t g t.top v0 (brakes-settle k t g v0 then room-settles t v0 room then no_more)

-- a row's answer, the list afterwards, and that each place is exact
module _ (k : Coefficients) (t : Train) (g : Gradient) (x : Curve) (v0 : Kmh) (lent : List ℕ) where
  abbrev Row : Written → List ℕ → Type 0
  Row = RowAnswers k t g x v0 lent

  abbrev short : List Refusal
  short = ltb (length lent) (speeds t v0) gives 11 ∷ []

  abbrev given : List Refusal
  given = inputs k t g t.top v0

  abbrev weak_row : List Refusal
  weak_row = not (strong_row k t g v0) gives 10 ∷ []

  abbrev before : List Refusal
  before = given ++ weak_row

  before-rising : Rising 1 before
  before-rising = rising-before 1 before short (row-rising k t g v0 (length lent))

  abbrev turned : ℕ
  turned = first_of (row_refusals k t g v0 (length lent))

  -- a refusal leaves the list as it was
  refused-row : (n : ℕ) → 0 < n → turned ≡ n → (after : List ℕ) → after ≡ row_after k t g x v0 lent → after ≡ lent → Row (record { refusal = n; length = 0 }) after
  unfolding row_answer
  refused-row n l e after m same =
      record {
        answer = rw (e, ne_eqb n 0 (λ i. omega arith));
        memory = m;
        least = λ i h. absurd (let j : i < 0 = h in omega arith);
        reaches = λ i. absurd (let j : n ≡ 0 = i in omega arith);
        lent = rw same (refused-demand n _ lent (refl, tt));
        spans = (told (row-judges k t g v0 (length lent)) (sym e)).1;
      }

  refused-before : (n : ℕ) → 0 < n → first_of before ≡ n → Row (record { refusal = n; length = 0 }) lent
  unfolding row_after
  refused-before n l e =
      let r : turned ≡ n = first-before before short (λ i. omega arith) ∙ e in
      let z = ne_eqb n 0 (λ i. omega arith) in
      refused-row n l r lent (rw (r, z)) refl

  -- where the inputs are accepted, refusal 10 decides
  module _ (z : first_of given ≡ 0) where
    decides : first_of before ≡ cond (not (strong_row k t g v0)) 10 0
    decides = first-after 0 given weak_row (inputs-rising k t g t.top v0) z

    -- too weak at one of the speeds
    weak-at : (i : ℕ) → i < speeds t v0 → strong k t g (kmh (v0.0 + i)) v0 ≡ false → Row (record { refusal = 10; length = 0 }) lent
    unfolding strong_row
    weak-at i l e =
        let w : strong_row k t g v0 ≡ false = refuted _ (λ h. no (sym e ∙ every-at (speeds t v0) _ h i l)) in
        refused-before 10 (lit< tt) (decides ∙ rw w refl)

    pub weak-top : v0.0 ≤ t.top.0 → strong k t g t.top v0 ≡ false → Row (record { refusal = 10; length = 0 }) lent
    weak-top ahead e =
        let i : v0.0 + (t.top.0 - v0.0) ≡ t.top.0 = omega arith in
        weak-at (t.top.0 - v0.0) (omega arith) (rw i e)

  -- what `start` turns away
  pub row-refused : (n : ℕ) → 0 < n → first_of (given ++ weak k t g v0 v0) ≡ n → Row (record { refusal = n; length = 0 }) lent
  row-refused n l e =
      ⊎_elim
      (λ h. refused-before n l (first-before given weak_row (λ i. omega arith) ∙ (sym (first-before given (weak k t g v0 v0) (λ i. omega arith)) ∙ e)))
      (λ h. at_first (omega arith))
      (below 0 (first_of given))
    where
      at_first : first_of given ≡ 0 → Row (record { refusal = n; length = 0 }) lent
      at_first z = go (strong k t g v0 v0) refl (sym (first-after 0 given (weak k t g v0 v0) (inputs-rising k t g t.top v0) z) ∙ e)
        where
          go : (b : Bool) → strong k t g v0 v0 ≡ b → cond (not b) 10 0 ≡ n → Row (record { refusal = n; length = 0 }) lent
          go true s i = absurd (let j : 0 ≡ n = i in omega arith)
          go false s i =
              let a = (inputs-fit k t g t.top v0 z).speeds.ahead in
              rw (← i) (weak-at z 0 (omega arith) (rw (add-zero v0.0) s))

  -- strong enough at both ends
  module _ (z : first_of given ≡ 0) (ahead : v0.0 ≤ t.top.0) (c : Course) (is : IsCourse k t g c) (low : Enough c v0.0 v0.0) (high : Enough c t.top.0 v0.0) where
    abbrev n : ℕ
    n = speeds t v0

    pub enough-on : (i : ℕ) → i < n → Enough c (v0.0 + i) v0.0
    enough-on i l = between c (omega (arith, is.small.cr)) v0.0 50000000000 v0.0 t.top.0 (le_refl _) low high (v0.0 + i) (omega arith) (omega arith)

    accepted : first_of before ≡ 0
    unfolding strong_row
    accepted =
        let s : strong_row k t g v0 ≡ true = every_of n _ (λ i l. sym (strong-is k t g c is (kmh (v0.0 + i)) v0 (le-add_right v0.0 i)) ∙ le-leb _ _ (enough-on i l)) in
        decides z ∙ rw s refl

    pub row-short : (after : List ℕ) → after ≡ lent → length lent < n → Row (record { refusal = 11; length = 0 }) after
    unfolding row_after
    row-short after m l =
        let r : turned ≡ 11 = first-after 0 before short before-rising accepted ∙ rw (lt-ltb (length lent) n l) in
        refused-row 11 (lit< tt) r after (rw r m) m

    abbrev exactly : ℕ → ℕ
    exactly i = (distance k t g (kmh (v0.0 + i)) v0 x).0

    pub row_is : (m : ℕ) → m ≤ n → up_to (λ i. place_of x c (v0.0 + i) v0.0) m ≡ up_to exactly m
    row_is m l = same-places _ exactly m (λ i h. distance_is k t g c is (kmh (v0.0 + i)) v0 (le-add_right v0.0 i) (enough-on i (omega arith)) x)

    pub row-given : (after : List ℕ) → n ≤ length lent → after ≡ up_to (λ i. place_of x c (v0.0 + i) v0.0) n ++ drop n lent → Row (record { refusal = 0; length = n }) after
    unfolding row_answer row_after
    row-given after l e =
        let r : turned ≡ 0 = first-after 0 before short before-rising accepted ∙ rw (le-ltb (length lent) n l) in
        let p : after ≡ up_to exactly n ++ drop n lent = e ∙ ap (λ q. q ++ drop n lent) (row_is n (le_refl n)) in
        let s = (told (row-judges k t g v0 (length lent)) (sym r)).1 in
        let q : length after ≡ n + (length lent - n) = rw (p, length-append (up_to exactly n) (drop n lent), places-length exactly n, length-drop n lent) in
        record {
          answer = rw r;
          memory = rw r p;
          reaches = λ i. omega (arith, ahead);
          lent = record {
            untouched = λ i. absurd (omega (arith, i));
            zeros = λ i. absurd (omega (arith, i));
            room = l;
            size = omega arith;
            beyond = rw p (drop_at (up_to exactly n) (drop n lent) n (places-length exactly n));
          };
          spans = s;
          least = λ i h. rw (p, place_at exactly n i 0 (drop n lent) h) (distance_least k t g c is (kmh (v0.0 + i)) v0 (le-add_right v0.0 i) (enough-on i h) x);
        }
