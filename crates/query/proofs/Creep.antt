-- The release speed is safe at every moment, and tight at the next km/h.
use mathlib.Core.Path.{◌≡◌, ap, ◌∙◌}
use mathlib.Core.Bool.{false}
use mathlib.Core.List.{◌++◌}
use mathlib.Core.Logic.{⊎_elim}
use Prim.Native.Nat.{ℕ, ◌+◌, ◌*◌, ◌≤◌, ◌<◌, min}
use native.Mathlib.Omega.{arith}
use native.Mathlib.Numerals.{add-one}
use borrow.Author.Tests.{le-ltb, leb-true, leb-false}
use lib.Dec.{lit<}
use Rattle.exact.specs.Fraction.{whole, ◌over◌, ◌-q◌, ◌≤q◌, ◌<q◌}
use Rattle.exact.proofs.Order.{≤q-trans, ≤q-<q-trans}
use Rattle.lists.proofs.Split.{below}
use Rattle.train.specs.declared.Train.{Train}
use Rattle.train.specs.declared.Inertia.{Inertia}
use Rattle.train.specs.declared.Coefficients.{Coefficients}
use Rattle.train.specs.Units.{kmh}
use Rattle.train.specs.Refusal.{first_of, weight_refusals, length_and_top_refusals, gradient_refusals, inertia_refusals}
use Rattle.train.proofs.Refusals.{weight-rising, inertia-too, first-after, none_before}
use Rattle.ramp_motion.specs.declared.Overrun.{Overrun}
use Rattle.ramp_motion.specs.Motion.{place_at}
use Rattle.ramp_motion.proofs.Planned.{plan_of, plan_of-is}
use Rattle.ramp_motion.proofs.Phases.{place_is}
use Rattle.ramp.specs.Answer as ramp
use Rattle.ramp.specs.Answer.{leeway, Promise, distance, moment, speed_refusals, time_refusals}
use Rattle.ramp.proofs.Answers.{inputs-fit}
use Rattle.ramp.proofs.Always.{always}
use Rattle.query_way.specs.declared.Way.{Way}
use Rattle.query_release.specs.Release.{stops_within, release_of, weak_past}
use Rattle.query_climb.proofs.Climbing.{Highest, highest}
use Rattle.query_release.proofs.Past.{any-speed, no-overlap, release-is, accepted-past}
use Rattle.query.specs.Demand.{past_at, place, Safe, Tight}
use Rattle.query.specs.Begin.{Fit}

-- what the ramp promises, for an overlap: an answer within it keeps the place within it at every moment,
-- and one beyond it is a place beyond it, but for the leeway
module _ (k : Inertia) (o : Overrun) (mm ms : ℕ) (h : Promise k o leeway mm ms) (overlap : ℕ) where
  inside : mm ≤ 1000 * overlap → (p q : ℕ) → 0 < q → place_at k o (p over q) ≤q whole overlap
  inside l p q z = ≤q-trans (place_at k o (p over q)) (mm over 1000) (whole overlap) (lit< tt) (h.never p q z) (omega arith)

  outside : 1000 * overlap < mm → whole overlap -q (leeway over 1000) <q place_at k o (ms over 1000)
  outside l =
      ≤q-<q-trans (whole overlap -q (leeway over 1000)) ((mm over 1000) -q (leeway over 1000)) (place_at k o (ms over 1000)) (lit< tt) (lit< tt) (omega arith) h.near

module _ (k : Coefficients) (t : Train) (tm tr : ℕ) (w : Way) (f : Fit k t tm tr w) where
  abbrev past : ℕ → Overrun
  past = past_at t tm tr w

  abbrev slope : Inertia
  slope = k.inertia

  -- but for its brake, the ramp accepts the motion past the signal
  pub inputs-past : first_of (ramp.inputs slope (past 1)) ≡ 0
  inputs-past =
      first-after 0 (weight_refusals t.weight) (speed_refusals (kmh 1) ++ (gradient_refusals w.past ++ (time_refusals tm tr ++ inertia_refusals slope))) (weight-rising t.weight) (none_before (weight_refusals t.weight) (length_and_top_refusals t) f.train)
      ∙ rw (le-ltb 35 w.past.rise f.past.rise, le-ltb 35 w.past.fall f.past.fall) (first-after 0 (time_refusals tm tr) (inertia_refusals slope) (tt, (tt, (tt, tt))) f.times ∙ inertia-too k f.coefficients)

  -- every place is a number
  pub places : (v p q : ℕ) → 0 < q → 0 < (place k t tm tr w v p q).over
  places v p q l =
      let some = (inputs-fit slope (past 1) inputs-past).1.some in
      (place_is slope (past v) (plan_of slope (past v)) (plan_of-is slope (past v) some) p q l (omega arith)).left

  abbrev R : ℕ
  R = release_of slope (past 1) w.overlap t.top

  abbrev least : ℕ
  least = min 100 t.top.0

  climbed : 0 < w.overlap.0 → Highest (stops_within slope (past 1) w.overlap) 0 least R
  climbed h = rw (← release-is slope (past 1) w.overlap h t.top) (highest (stops_within slope (past 1) w.overlap) 0 least)

  -- without an overlap it is 0
  none : w.overlap.0 ≤ 0 → 0 ≡ R
  none h = (no-overlap slope (past 1) w.overlap t.top (omega arith)).1

  -- at most the lower of 100 and the top speed
  pub low : R ≤ least
  low = ⊎_elim (λ h. omega (arith, (climbed h).to)) (λ h. let e = none h in omega arith) (below 0 w.overlap.0)

  some-overlap : 1 ≤ R → 0 < w.overlap.0
  some-overlap l = ⊎_elim (λ h. h) (λ h. absurd (let e = none h in omega arith)) (below 0 w.overlap.0)

  module _ (strong : weak_past slope (past 1) w.overlap ≡ false) where
    promise : 0 < w.overlap.0 → (v : ℕ) → 1 ≤ v → v ≤ 100 → Promise slope (past v) leeway (distance slope (past v)) (moment slope (past v))
    promise h v a b = always slope (past v) (any-speed slope (past 1) v a b ∙ accepted-past slope (past 1) w.overlap h inputs-past strong)

    pub is-safe : Safe k t tm tr w R
    is-safe v p q a b l =
        let h = some-overlap (omega arith) in
        let s = leb-true _ _ ((climbed h).each v a b) in
        inside slope (past v) _ _ (promise h v a (omega (arith, low))) w.overlap.0 s p q l

    pub is-tight : Tight k t tm tr w R
    is-tight h a b =
        let s = leb-false _ _ (ap (stops_within slope (past 1) w.overlap) (add-one R) ∙ (climbed h).next (omega arith)) in
        (moment slope (past (R + 1)), (1000, (lit< tt, outside slope (past (R + 1)) _ _ (promise h (R + 1) (omega arith) a) w.overlap.0 s)))
