-- Card 4: two sheets that agree on the span, whose answers differ in the numbers of the stretches and in nothing else.
use mathlib.Core.Path.{◌≡◌, refl, sym, ◌∙◌}
use mathlib.Core.Bool.{Bool, true, false, cond}
use mathlib.Core.List.{List, [], ◌∷◌}
use Prim.Native.Nat.{ℕ, ◌<◌}
use native.Mathlib.Omega.{arith}
use borrow.Author.Tests.{eqb-false}
use lib.Dec.{leb, eqb}
use Rattle.lists.specs.Counted.{every, all_hold}
use Rattle.train.specs.declared.BrakeType.TheVariants.{Passenger}
use Rattle.train.specs.declared.Train.{Train}
use Rattle.train.specs.Units.{kmh, metres}
use Rattle.train.specs.Coefficients.{first}
use Rattle.train.specs.Refusal.{first_of}
use Rattle.train_slope.specs.Slope.{factor, di, dr}
use Rattle.step_braking.specs.Braking.{K0, KC, dp, strong}
use Rattle.ramp_motion.specs.Motion as motion
use Rattle.ramp.specs.Answer as ramp
use Rattle.sheet_line.specs.Bytes.{u16_at, u32_at, signed}
use Rattle.sheet.specs.Sheet as sheet
use Rattle.sheet.specs.Sheet.{keeps, line_of}
use Rattle.sheet_span.specs.Least.{slope, stretch_up_to, least_of, governing_of}
use Rattle.query_way.specs.Way.{past_of, way_of, governing_past, governing_on, Agree}
use Rattle.query_release.specs.Release.{stops_within, release_of, weak_past}
use Rattle.query_climb.specs.Climb.{climb}
use Rattle.query.specs.declared.Answer.{Answer}
use Rattle.query.specs.Demand.{past_at}
use Rattle.query.specs.Answer.{refused, release, accepted, way_to, governing_to, query_refusals, governing, AllButTheStretches, answer_of}
use Rattle.query.proofs.Agreement.{agreed}

-- a rise of 3 from 0 to the line end at 12, and a signal at 6 with an overlap of 3
abbrev whole : List ℕ
whole =
    1 ∷ 0 ∷ 1 ∷ 0 ∷ 20 ∷ 0 ∷ 0 ∷ 0 ∷ 26 ∷ 0 ∷ 0 ∷ 0 ∷ 32 ∷ 0 ∷ 0 ∷ 0 ∷ 12 ∷ 0 ∷ 0 ∷ 0
    ∷ 0 ∷ 0 ∷ 0 ∷ 0 ∷ 3 ∷ 0
    ∷ 6 ∷ 0 ∷ 0 ∷ 0 ∷ 3 ∷ 0 ∷ []

-- the same in two stretches, the second from 3
abbrev parted : List ℕ
parted =
    2 ∷ 0 ∷ 1 ∷ 0 ∷ 20 ∷ 0 ∷ 0 ∷ 0 ∷ 32 ∷ 0 ∷ 0 ∷ 0 ∷ 38 ∷ 0 ∷ 0 ∷ 0 ∷ 12 ∷ 0 ∷ 0 ∷ 0
    ∷ 0 ∷ 0 ∷ 0 ∷ 0 ∷ 3 ∷ 0
    ∷ 3 ∷ 0 ∷ 0 ∷ 0 ∷ 3 ∷ 0
    ∷ 6 ∷ 0 ∷ 0 ∷ 0 ∷ 3 ∷ 0 ∷ []

-- an engine that goes 1 km/h at most, so that its release speed is 0 or 1, with its head at the signal
abbrev engine : Train
engine = record { brake = Passenger; electropneumatic = true; weight = 100; length = metres 0; top = kmh 1 }

abbrev answer : List ℕ → Answer
answer s = answer_of first engine 200 400 s 0 6

both-sheets : (sheet.accepted whole ≡ true) × (sheet.accepted parted ≡ true)
unfolding sheet.accepted keeps all_hold every u32_at u16_at signed
both-sheets = (refl, refl)

both-signals : (0 < (line_of whole).signals) × (0 < (line_of parted).signals)
unfolding u16_at
both-signals = (omega arith, omega arith)

agree : Agree (line_of whole) (line_of parted) 0 0 6 0
unfolding stretch_up_to u32_at u16_at signed
agree = record { place = refl; overlap = refl; gradient = λ p h i. level (leb 3 p); own = refl }
  where
    level : (b : Bool) → slope (line_of whole) 0 ≡ slope (line_of parted) (cond b 1 0)
    level true = refl
    level false = refl

-- it is braked well enough at either
strong-enough : (b : Bool) → strong first engine (way_to engine whole 0 6).ahead (kmh (cond b 1 0)) (kmh (cond b 1 0)) ≡ true
unfolding strong dp KC K0 dr di factor way_of least_of stretch_up_to u32_at u16_at signed
strong-enough true = refl
strong-enough false = refl

one-or-none : release first engine 200 400 (way_to engine whole 0 6) ≡ kmh (cond (stops_within first.inertia (past_at engine 200 400 (way_to engine whole 0 6) 1) (metres 3) 1) 1 0)
unfolding release_of climb way_of u32_at u16_at signed
one-or-none = refl

-- so nothing turns the query away
not-refused : first_of (query_refusals first engine 200 400 whole 0 6) ≡ 0
unfolding weak_past ramp.strong motion.dp dr di factor sheet.accepted keeps all_hold every way_of past_of least_of stretch_up_to u32_at u16_at signed
not-refused = rw (one-or-none, strong-enough (stops_within first.inertia (past_at engine 200 400 (way_to engine whole 0 6) 1) (metres 3) 1)) refl

given : (answer whole).refusal ≡ 0
unfolding answer_of
given = rw not-refused refl

-- an answer that was not refused names the stretches of the definition
numbered : (s : List ℕ) → (answer s).refusal ≡ 0 → governing (answer s) ≡ governing_to engine s 0 6
unfolding answer_of
numbered s = let n = first_of (query_refusals first engine 200 400 s 0 6) in go n (eqb n 0) refl
  where
    go : (n : ℕ) (b : Bool) → eqb n 0 ≡ b → (cond b (accepted first engine 200 400 (way_to engine s 0 6) (governing_to engine s 0 6)) (refused n)).refusal ≡ 0 → governing (cond b (accepted first engine 200 400 (way_to engine s 0 6) (governing_to engine s 0 6)) (refused n)) ≡ governing_to engine s 0 6
    go n true e z = refl
    go n false e z = absurd (eqb-false n 0 e z)

stretches : (governing_to engine whole 0 6 ≡ record { overlap = 0; ahead = 0 }) × (governing_to engine parted 0 6 ≡ record { overlap = 1; ahead = 1 })
unfolding governing_on governing_past governing_of stretch_up_to u32_at u16_at signed
stretches = (refl, refl)

-- the numbers differ, and nothing else does: nobody may count on them from one sheet to another
pub differ : ((answer whole).refusal ≡ 0) × (AllButTheStretches (answer whole) (answer parted) × ((governing (answer whole) ≡ record { overlap = 0; ahead = 0 }) × (governing (answer parted) ≡ record { overlap = 1; ahead = 1 })))
differ =
    let same = agreed first engine 200 400 whole parted 0 0 6 both-sheets.0 both-sheets.1 both-signals.0 both-signals.1 agree in
    (given, (same, (numbered whole given ∙ stretches.0, numbered parted (sym same.refusal ∙ given) ∙ stretches.1)))
