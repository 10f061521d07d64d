-- Document 01, "Ramp" and "What is turned away", and document 02, Cards 5 and 13: what the call answers, and what it promises.
use Rattle.std.specs.Prelude.{◌≡◌, Bool, not, cond, List, [], ◌∷◌, ◌++◌, ℕ, zero, suc, ◌+◌, ◌^◌, ◌≤◌, ◌<◌, ltb, eqb}
use Rattle.exact.specs.Fraction.{Fraction, whole, ◌over◌, ◌+q◌, ◌-q◌, leq, ◌≤q◌, ◌<q◌}
use Rattle.train.specs.declared.Kmh.{Kmh}
use Rattle.train.specs.declared.Gradient.{Gradient}
use Rattle.train.specs.declared.Inertia.{Inertia}
use Rattle.train.specs.Units.{kmh, in_millimetres}
use Rattle.train.specs.Refusal.{Refusal, ◌gives◌, first_of, weight_refusals, gradient_refusals, inertia_refusals, strong_enough}
use Rattle.train.specs.Judged.{Rule, ◌keeps◌, Judged, weight_rule, gradient_rule, inertia_rule, brake_rule}
use Rattle.train.specs.Lent.{NoneLent}
use Rattle.ramp_motion.specs.declared.Overrun.{Overrun}
use Rattle.ramp_motion.specs.Motion.{di, dp, speed_at, place_at}
use Rattle.ramp.specs.declared.Stop.{Stop}

-- a call's arguments as a record; the contracts have it written out
abbrev pub overrun : ℕ → Gradient → Kmh → ℕ → ℕ → Overrun
overrun weight g v tm tr = record { weight = weight; gradient = g; v = v; tm = tm; tr = tr }

-- the same run at another speed
abbrev pub at_speed : Overrun → ℕ → Overrun
at_speed o v = overrun o.weight o.gradient (kmh v) o.tm o.tr

-- 1 to 100 km/h
abbrev pub speed_refusals : Kmh → List Refusal
speed_refusals v = ltb v.0 1 gives 3 ∷ ltb 100 v.0 gives 3 ∷ []

-- TM of 0 to 2,000, TR of 1 to 3,000 hundredths of a second
abbrev pub time_refusals : ℕ → ℕ → List Refusal
time_refusals tm tr = ltb 2000 tm gives 6 ∷ ltb tr 1 gives 6 ∷ ltb 3000 tr gives 6 ∷ []

-- what the inputs alone turn away
abbrev pub inputs : Inertia → Overrun → List Refusal
inputs k o = weight_refusals o.weight ++ (speed_refusals o.v ++ (gradient_refusals o.gradient ++ (time_refusals o.tm o.tr ++ inertia_refusals k)))

-- what is kept, in words of its own: of the times, and of all that the call looks at
abbrev pub times_rule : ℕ → ℕ → Rule
times_rule tm tr = 6 keeps ((tm ≤ 2000) × ((1 ≤ tr) × (tr ≤ 3000)))

abbrev pub input_rules : Inertia → Overrun → List Rule
input_rules k o =
    weight_rule o.weight ∷ 3 keeps ((1 ≤ o.v.0) × (o.v.0 ≤ 100)) ∷ gradient_rule o.gradient ∷ times_rule o.tm o.tr ∷ inertia_rule k ∷ []

abbrev pub ramp_rules : Inertia → Overrun → List Rule
ramp_rules k o = input_rules k o ++ (brake_rule (dp o +q di k o) ∷ [])

-- the last number below n at which b holds, 0 where it holds at none
unfoldable pub last_below : ℕ → (ℕ → Bool) → ℕ
last_below zero b = 0
last_below (suc n) b = cond (b n) n (last_below n b)

-- a refusal, with zeros
abbrev pub refused : ℕ → Stop
refused n = record { refusal = n; distance = record { 0 = 0 }; moment = 0 }

-- Card 13: the place at the given moment is more than the answer less so many millimetres; the promises have the number itself
abbrev pub leeway : ℕ
leeway = 2

module _ (k : Inertia) (o : Overrun) where
  unfoldable pub strong : Bool
  strong = strong_enough (dp o +q di k o)

  abbrev pub weak : List Refusal
  weak = not strong gives 10 ∷ []

  abbrev pub ramp_refusals : List Refusal
  ramp_refusals = inputs k o ++ weak

  -- the last whole millisecond at which the speed is not below 0; by 2²⁰ ms every accepted train rolls back
  unfoldable pub moment : ℕ
  moment = last_below (2 ^ 20) (λ t. leq (whole 0) (speed_at k o (t over 1000)))

  -- the place then, raised to the least whole millimetre not below it, and one more for what is still gone before the next
  unfoldable pub distance : ℕ
  distance = (in_millimetres (place_at k o (moment over 1000))).0 + 1

  unfoldable pub stop_of : Stop
  stop_of = cond (eqb (first_of ramp_refusals) 0) (record { refusal = 0; distance = record { 0 = distance }; moment = moment }) (refused (first_of ramp_refusals))

  -- at every moment p / q from 0 on the place is a number and not beyond mm, and at ms it is more than mm less so many millimetres
  pub record Promise (slack mm ms : ℕ) : Type 0 where
    pub number : (p q : ℕ) → 0 < q → 0 < (place_at k o (p over q)).over
    pub never : (p q : ℕ) → 0 < q → place_at k o (p over q) ≤q (mm over 1000)
    pub near : (mm over 1000) -q (slack over 1000) <q place_at k o (ms over 1000)

  -- Card 13: a place, in metres, that this run is beyond at no moment p / q, and a millisecond at which the run at w km/h, alike in
  -- all else, is past it
  pub record Outrun (w : ℕ) : Type 0 where
    pub place : Fraction
    pub number : 0 < place.over
    pub never : (p q : ℕ) → 0 < q → place_at k o (p over q) ≤q place
    pub ms : ℕ
    pub reached : 0 < (place_at k (record { weight = o.weight; gradient = o.gradient; v = record { 0 = w }; tm = o.tm; tr = o.tr }) (ms over 1000)).over
    pub past : place <q place_at k (record { weight = o.weight; gradient = o.gradient; v = record { 0 = w }; tm = o.tm; tr = o.tr }) (ms over 1000)

  -- what the call gives: the answer by definition, the promise of every answer, that every faster run gets further, the first
  -- demand, and what is turned away
  pub record RampAnswers (r : Stop) : Type 0 where
    pub answer : r ≡ stop_of
    pub promise : r.refusal ≡ 0 → Promise 2 r.distance.0 r.moment
    pub faster : r.refusal ≡ 0 → (w : ℕ) → o.v.0 < w → w ≤ 100 → Outrun w
    pub lent : NoneLent r.refusal (r.distance.0 ∷ r.moment ∷ [])
    pub spans : Judged (ramp_rules k o) r.refusal
