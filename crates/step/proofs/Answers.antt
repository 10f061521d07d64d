-- What the code finds out, refusal by refusal, makes the answers of the definitions.
use mathlib.Core.Path.{◌≡◌, refl, sym}
use mathlib.Core.List.{[]}
use Prim.Native.Nat.{ℕ, ◌≤◌, ◌<◌}
use native.Mathlib.Omega.{arith}
use borrow.Author.Tests.{ne_eqb}
use lib.Dec.{lit≤}
use Rattle.train.specs.declared.Kmh.{Kmh}
use Rattle.train.specs.declared.Train.{Train}
use Rattle.train.specs.declared.Gradient.{Gradient}
use Rattle.train.specs.declared.Coefficients.{Coefficients}
use Rattle.train.specs.Refusal.{first_of}
use Rattle.train.proofs.Judging.{told}
use Rattle.train.proofs.Lending.{refused-demand, given-demand}
use Rattle.step_braking.specs.declared.Course.{Course}
use Rattle.step_braking.specs.Plan.{Enough}
use Rattle.step_braking.specs.Agreement.{IsCourse}
use Rattle.step.specs.Answer.{refused, step_refusals, distances, step_of, StepAnswers}
use Rattle.step.specs.Begin.{places_of}
pub use Rattle.step.proofs.Judged.{Accepted, inputs-rising, inputs-then, inputs-fit, step-judges}
use Rattle.step.proofs.Placed.{exact-in-order, exact-in-time, exact-at, places-are}

-- a single distance's answer, and that it is exact where it is given
module _ (k : Coefficients) (t : Train) (g : Gradient) (v v0 : Kmh) where
  pub step-refused : (n : ℕ) → 0 < n → first_of (step_refusals k t g v v0) ≡ n → StepAnswers k t g v v0 (refused n)
  unfolding step_of
  step-refused n l e =
      record {
        answer = rw (e, ne_eqb n 0 (λ i. omega arith));
        least = λ z. absurd (let i : n ≡ 0 = z in omega arith);
        in_order = record { ebi-sbi = lit≤ tt; sbi-w = lit≤ tt; w-p = lit≤ tt };
        in_time = λ z. absurd (let i : n ≡ 0 = z in omega arith);
        lent = refused-demand n _ [] (refl, (refl, (refl, (refl, tt))));
        spans = (told (step-judges k t g v v0) (sym e)).1;
      }

  pub step_given : (c : Course) → first_of (step_refusals k t g v v0) ≡ 0 → v0.0 ≤ v.0 → IsCourse k t g c → Enough c v.0 v0.0 → StepAnswers k t g v v0 (places_of c v v0)
  unfolding step_of
  step_given c z ahead is enough =
      let exact = exact-at k t g v v0 c ahead is enough in
      rw (places-are k t g v v0 c ahead is enough) (record {
        answer = rw z;
        least = λ i. exact;
        in_order = exact-in-order k t g v v0 (distances k t g v v0) exact;
        in_time = λ i. exact-in-time k t g v v0 (distances k t g v v0) exact;
        lent = given-demand _ [];
        spans = (told (step-judges k t g v v0) (sym z)).1;
      })
