-- What the code finds out, refusal by refusal, makes the answer of the definition; an accepted one keeps the third demand.
use mathlib.Core.Path.{◌≡◌, refl, sym, ◌∙◌}
use mathlib.Core.Bool.{Bool, true, false, not, cond}
use mathlib.Core.List.{List}
use mathlib.Core.Logic.{inl}
use Prim.Native.Nat.{ℕ, ◌<◌}
use native.Mathlib.Omega.{arith}
use borrow.Author.Tests.{le-ltb, ne_eqb}
use lib.Dec.{lit<}
use Rattle.train.specs.declared.Train.{Train}
use Rattle.train.specs.declared.Coefficients.{Coefficients}
use Rattle.train.specs.Units.{kmh}
use Rattle.train.specs.Refusal.{first_of}
use Rattle.train.specs.Judged.{Judged}
use Rattle.train.proofs.Judging.{Judges, ◌then◌, no_more, told, before_more, behind-kept, at_least, below, weight-settles, length-settles, top-settles, coefficients-settle}
use Rattle.train.proofs.Lending.{refused-demand, given-demand}
use Rattle.train.proofs.Refusals.{Rising, rising-before, first-after, first-before}
use Rattle.step_braking.specs.Braking.{strong}
use Rattle.ceilings.specs.Ceilings.{limits_of}
use Rattle.ceilings.proofs.Agrees.{as-printed}
use Rattle.ramp.proofs.Judging.{times-settles}
use Rattle.sheet.specs.Sheet.{line_of}
use Rattle.sheet.proofs.Kept.{sheet-settles}
use Rattle.query_way.specs.declared.Way.{Way}
use Rattle.query_way.specs.declared.Governing.{Governing}
use Rattle.query_way.specs.Way.{Leads}
use Rattle.query_release.specs.Release.{weak_past}
use Rattle.query_permitted.specs.Permitted.{permitted_of}
use Rattle.query.specs.declared.Answer.{Answer}
use Rattle.query.specs.Demand.{past_at}
use Rattle.query.specs.Answer.{refused, release, brake_refusals, accepted, inputs, way_to, governing_to, query_refusals, answer_of, QueryAnswers}
use Rattle.query.specs.Rules.{TooWeak, input_rules, brake_rules, query_rules}
use Rattle.query.specs.Begin.{Fit, answer_at, answer_on}
use Rattle.query.proofs.Third.{fit-ahead, creeps, kept}
use Rattle.query.proofs.Brake.{weak-past, weak-ahead}
pub use Rattle.query.proofs.Cases.{refuses, as-permitted, as-released}

-- the refusals go by the one order, so the first that applies is the answer (the train's `soonest` and `applies`)
pub query-rising : (k : Coefficients) (t : Train) (tm tr : ℕ) (s : List ℕ) (signal head : ℕ) → Rising 1 (query_refusals k t tm tr s signal head)
query-rising k t tm tr s signal head = (tt, (tt, (tt, (tt, (tt, (tt, (tt, (tt, (tt, (tt, (tt, (tt, (tt, (tt, (tt, (tt, (tt, (tt, (tt, (tt, (tt, (tt, (tt, (tt, (tt, (tt, (tt, (tt, tt))))))))))))))))))))))))))))

module _ (k : Coefficients) (t : Train) (tm tr : ℕ) (s : List ℕ) (signal head : ℕ) where
  abbrev Answers : Answer → Type 0
  Answers r = QueryAnswers k t tm tr s signal head r s

  pub inputs-rising : Rising 1 (inputs k t tm tr s signal head)
  inputs-rising = rising-before 1 (inputs k t tm tr s signal head) (brake_refusals k t tm tr (way_to t s signal head)) (query-rising k t tm tr s signal head)

  pub inputs-judge : Judges (input_rules k t tm tr s signal head) (inputs k t tm tr s signal head)
  inputs-judge =
      weight-settles t.weight then length-settles t.length.0 then top-settles t then times-settles tm tr then coefficients-settle k then sheet-settles s then below 8 tt signal (line_of s).signals then at_least 9 tt head ((line_of s).place signal) then no_more

  refused-by : (n : ℕ) → 0 < n → first_of (query_refusals k t tm tr s signal head) ≡ n → Judged (query_rules k t tm tr s signal head) n → Answers (refused n)
  unfolding answer_of
  refused-by n l e j =
      record {
        answer = rw (e, ne_eqb n 0 (λ i. omega arith));
        lent = refused-demand n _ s (refl, (refl, (refl, (refl, (refl, (refl, (refl, (refl, tt))))))));
        spans = j;
        demand = λ z. absurd (let i : n ≡ 0 = z in omega arith);
        ceilings = λ z. absurd (let i : n ≡ 0 = z in omega arith);
      }

  pub by-inputs : (n : ℕ) → 0 < n → first_of (inputs k t tm tr s signal head) ≡ n → Answers (refused n)
  by-inputs n l e =
      refused-by n l (first-before (inputs k t tm tr s signal head) (brake_refusals k t tm tr (way_to t s signal head)) (λ i. omega arith) ∙ e)
      (before_more (input_rules k t tm tr s signal head) (brake_rules k t tm tr s signal head) n l (told inputs-judge (sym e)).1)

  module _ (z : first_of (inputs k t tm tr s signal head) ≡ 0) (f : Fit k t tm tr (way_to t s signal head)) (leads : Leads (line_of s) signal head t.length.0 (way_to t s signal head) (governing_to t s signal head)) where
    abbrev w : Way
    w = way_to t s signal head

    abbrev n : Governing
    n = governing_to t s signal head

    abbrev weak : Bool
    weak = weak_past k.inertia (past_at t tm tr w 1) w.overlap

    abbrev enough : Bool
    enough = strong k t w.ahead (release k t tm tr w) (release k t tm tr w)

    decides : first_of (query_refusals k t tm tr s signal head) ≡ cond weak 10 (cond (not enough) 10 0)
    decides = first-after 0 (inputs k t tm tr s signal head) (brake_refusals k t tm tr w) inputs-rising z

    -- the inputs keep their rules, so the brake's decides
    by-brake : (m : ℕ) → Judged (brake_rules k t tm tr s signal head) m → Judged (query_rules k t tm tr s signal head) m
    by-brake m j = behind-kept (input_rules k t tm tr s signal head) (brake_rules k t tm tr s signal head) m ((told inputs-judge (sym z)).1.accepted refl) j

    weak-brake : TooWeak k t tm tr w → Judged (query_rules k t tm tr s signal head) 10
    weak-brake h = by-brake 10 (record { accepted = λ i. absurd (let j : 10 ≡ 0 = i in omega arith); refused = λ l. inl (refl, (n, (w, (leads, h)))) })

    given : weak ≡ false → enough ≡ true → Answers (accepted k t tm tr w n)
    unfolding answer_of limits_of
    given a b =
        let d = kept k t tm tr w f a b in
        let h = (fit-ahead k t tm tr w f).top in
        let i = d.marked.to in
        let P = permitted_of k t w.ahead (release k t tm tr w) w.distance in
        record {
          answer = rw (decides, a, b) refl;
          lent = given-demand _ s;
          spans = by-brake 0 (record { accepted = λ i. ((n, (w, (leads, ((release k t tm tr w).0, (d.creeps, d.enough))))), tt); refused = λ l. absurd (let j : 0 < 0 = l in omega arith) });
          demand = λ y. (w, (leads, d));
          ceilings = λ y. rw (le-ltb 330 P (omega arith)) (as-printed (kmh P));
        }

    pub on-way : Answers (answer_on k t tm tr w n)
    unfolding answer_on answer_at
    on-way = go weak enough refl refl
      where
        go : (a b : Bool) → weak ≡ a → enough ≡ b → Answers (cond a (refused 10) (cond b (accepted k t tm tr w n) (refused 10)))
        go true b e g = refused-by 10 (lit< tt) (decides ∙ rw e refl) (weak-brake (weak-past k t tm tr w e))
        go false true e g = given e g
        go false false e g = refused-by 10 (lit< tt) (decides ∙ rw (e, g) refl) (weak-brake (weak-ahead k t tm tr w (creeps k t tm tr w f e) g))
