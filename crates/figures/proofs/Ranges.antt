-- Document 01's three ramp rows lie in the ranges of document 02's Card 13, whatever keeps the ramp's contract.
use mathlib.Core.Path.{◌≡◌, refl}
use Prim.Native.Nat.{ℕ, ◌+◌, ◌≤◌}
use lib.Dec.{lit≤, lit<}
use lib.IntN.{pos}
use Rattle.exact.specs.Fraction.{raised}
use Rattle.train.specs.declared.Inertia.{Inertia}
use Rattle.train.specs.Coefficients.{first}
use Rattle.train.specs.Gradient.{gradient_of}
use Rattle.train.specs.Refusal.{first_of}
use Rattle.train.specs.Units.{kmh}
use Rattle.train_slope.specs.Slope.{factor, di, dr}
use Rattle.ramp_motion.specs.declared.Overrun.{Overrun}
use Rattle.ramp_motion.specs.Motion as motion
use Rattle.ramp_motion.specs.Plan.{squares, cubes}
use Rattle.ramp_motion.proofs.Planned.{plan_of}
use Rattle.ramp_stop.specs.Stop.{Turns, place_up}
use Rattle.ramp.specs.declared.Stop.{Stop}
use Rattle.ramp.specs.Answer.{overrun, strong, ramp_refusals, stop_of, RampAnswers}
use Rattle.ramp.proofs.Always.{gets-to}
use Rattle.ramp.proofs.Rising.{given}

-- the slope's coefficients
abbrev slope : Inertia
slope = first.inertia

-- every answer to this run is accepted, and from low to high millimetres
abbrev pub Ranges : Overrun → ℕ → ℕ → Type 0
Ranges o low high = (r : Stop) → RampAnswers slope o r → (r.refusal ≡ 0) × ((low ≤ r.distance.0) × (r.distance.0 ≤ high))

-- t is where it turns
ranges : (o : Overrun) (low high t : ℕ) → first_of (ramp_refusals slope o) ≡ 0 → Turns (plan_of slope o) t → low ≤ place_up (plan_of slope o) t + 1 → place_up (plan_of slope o) t + 1 ≤ high → Ranges o low high
unfolding stop_of
ranges o low high t z h a b r i =
    let e : r.refusal ≡ 0 = rw (i.answer, z) refl in
    (e, rw ((given slope o r i e).distance_is, ← gets-to slope o z t h) (a, b))

abbrev pub row : ℕ → ℕ → ℕ → ℕ → Overrun
row i v tm tr = overrun 100 (gradient_of (pos i)) (kmh v) tm tr

pub ramp-rows : Ranges (row 0 36 200 400) 110850 110851 × (Ranges (row 0 1 0 3000) 903 904 × Ranges (row 35 1 2000 1) 125 126)
unfolding strong motion.dp dr di factor squares cubes place_up raised
ramp-rows = (
  ranges (row 0 36 200 400) 110850 110851 18263 refl (record { still = lit≤ tt; back = lit< tt; early = lit< tt }) (lit≤ tt) (lit≤ tt),
  (
    ranges (row 0 1 0 3000) 903 904 4875 refl (record { still = lit≤ tt; back = lit< tt; early = lit< tt }) (lit≤ tt) (lit≤ tt),
    ranges (row 35 1 2000 1) 125 126 898 refl (record { still = lit≤ tt; back = lit< tt; early = lit< tt }) (lit≤ tt) (lit≤ tt),
  ),
)
