-- The desk's third demand, of an answer to an accepted query; document 01, "Approach"; document 02, Cards 5 and 13.
use Rattle.std.specs.Prelude.{◌≡◌, ◌⊎◌, ◌↔◌, ℕ, ◌+◌, ◌≤◌, ◌<◌}
use Rattle.exact.specs.Fraction.{Fraction, whole, ◌over◌, ◌+q◌, ◌-q◌, ◌≤q◌, ◌<q◌}
use Rattle.train.specs.declared.Train.{Train}
use Rattle.train.specs.declared.Coefficients.{Coefficients}
use Rattle.train.specs.Units.{kmh}
use Rattle.train_slope.specs.Slope.{di}
use Rattle.step_braking.specs.Braking.{dp}
use Rattle.ramp_motion.specs.declared.Overrun.{Overrun}
use Rattle.ramp_motion.specs.Motion.{place_at}
use Rattle.ramp_motion.specs.Motion as ramp
use Rattle.ramp.specs.Answer.{overrun}
use Rattle.step_curve.specs.Step.{P}
use Rattle.query_way.specs.declared.Way.{Way}

-- the motion past the signal at a whole speed: the ramp's, with the train, TM and TR, the gradient of the overlap and place 0 at the signal
abbrev pub past_at : Train → ℕ → ℕ → Way → ℕ → Overrun
past_at t tm tr w v = overrun t.weight w.past (kmh v) tm tr

module _ (k : Coefficients) (t : Train) (tm tr : ℕ) (w : Way) where
  -- in metres: the place past the signal, p / q seconds after it; the overlap's end; the distance to the signal
  abbrev pub place : ℕ → ℕ → ℕ → Fraction
  place v p q = place_at k.inertia (record { weight = t.weight; gradient = w.past; v = kmh v; tm = tm; tr = tr }) (p over q)

  abbrev pub end : Fraction
  end = whole w.overlap.0

  abbrev pub to_signal : Fraction
  to_signal = whole w.distance.0

  -- dp + di past the signal, and ahead of it at a speed that is braked to the release speed
  abbrev pub braking_past : Fraction
  braking_past = let o : Overrun = record { weight = t.weight; gradient = w.past; v = kmh 1; tm = tm; tr = tr } in ramp.dp o +q ramp.di k.inertia o

  abbrev pub braking_ahead : ℕ → ℕ → Fraction
  braking_ahead release v = dp k t w.ahead (kmh v) (kmh release) +q di k.inertia w.ahead

  module _ (release : ℕ) where
    -- a speed's exact P distance, in metres, with V0 the release speed and the gradient ahead
    abbrev pub exact_p : ℕ → Fraction
    exact_p v = P k t w.ahead (kmh v) (kmh release)

    -- 0.05 m/s² or more ahead at a speed, or less
    abbrev pub Strong : ℕ → Type 0
    Strong v = (5 over 100) ≤q braking_ahead release v

    abbrev pub Weak : ℕ → Type 0
    Weak v = braking_ahead release v <q (5 over 100)

    -- every place and every P that is spoken of is a number; a P is spoken of where the brake is strong enough
    pub record Numbers : Type 0 where
      pub places : (v p q : ℕ) → 0 < q → 0 < (place v p q).over
      pub distances : (v : ℕ) → release ≤ v → Strong v → 0 < (exact_p v).over

    -- at every whole speed from 1 km/h to the release speed, whatever the moment, the train is not beyond the overlap's end
    abbrev pub Safe : Type 0
    Safe = (v p q : ℕ) → 1 ≤ v → v ≤ release → 0 < q → place v p q ≤q end

    -- one km/h more, unless over 100, over the top speed or with an overlap of no length:
    -- some moment finds it less than 2 mm (Card 13) short of that end, or past it
    abbrev pub Tight : Type 0
    Tight = 0 < w.overlap.0 → release + 1 ≤ 100 → release + 1 ≤ t.top.0 → (p : ℕ) × ((q : ℕ) × ((0 < q) × (end -q (2 over 1000) <q place (release + 1) p q)))

    -- the release speed is both, at most 100 and at most the top speed
    pub record Creeps : Type 0 where
      pub safe : Safe
      pub tight : Tight
      pub most : release ≤ 100
      pub top : release ≤ t.top.0

    -- the brake has 0.05 m/s² or more along an overlap that has a length, where the ramp is consulted, and ahead
    pub record Enough : Type 0 where
      pub past : 0 < w.overlap.0 → (5 over 100) ≤q braking_past
      pub ahead : Strong release

    -- marked "release", 2, exactly when the release speed's own P is over the distance; the permitted speed is then the release speed.
    -- Otherwise marked "curve", 1: of the speeds from the release speed to the top speed, the permitted speed is the highest up to
    -- which each is strong enough (Card 5) and has its P within the distance.
    pub record Marked (permitted mark : ℕ) : Type 0 where
      pub either : (mark ≡ 1) ⊎ (mark ≡ 2)
      pub exactly : (mark ≡ 2) ↔ (to_signal <q exact_p release)
      pub held : mark ≡ 2 → permitted ≡ release
      pub from : release ≤ permitted
      pub to : permitted ≤ t.top.0
      pub each : mark ≡ 1 → (v : ℕ) → release ≤ v → v ≤ permitted → Strong v × (exact_p v ≤q to_signal)
      pub next : mark ≡ 1 → permitted < t.top.0 → Weak (permitted + 1) ⊎ (Strong (permitted + 1) × (to_signal <q exact_p (permitted + 1)))

    pub record Demand (permitted mark : ℕ) : Type 0 where
      pub numbers : Numbers
      pub creeps : Creeps
      pub enough : Enough
      pub marked : Marked permitted mark
