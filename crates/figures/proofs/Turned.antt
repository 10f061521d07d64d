-- Document 01, "What is turned away": the examples of its table, and Card 5's, of the definitions, in one theorem; beside each the nearest
-- that is not.
use mathlib.Core.Path.{◌≡◌, refl}
use mathlib.Core.Bool.{true}
use mathlib.Core.List.{List, [], ◌∷◌}
use Prim.Native.Nat.{ℕ}
use lib.IntN.{ℤ, pos, negsuc}
use Rattle.lists.specs.Counted.{every, all_hold}
use Rattle.train.specs.declared.BrakeType.TheVariants.{Passenger}
use Rattle.train.specs.declared.Train.{Train}
use Rattle.train.specs.Units.{kmh}
use Rattle.train.specs.declared.Coefficients.{Coefficients}
use Rattle.train.specs.Coefficients.{first}
use Rattle.train.specs.Gradient.{gradient_of}
use Rattle.train_slope.specs.Slope.{factor, di, dr}
use Rattle.step_braking.specs.Braking.{K0, KC, dp, strong}
use Rattle.step.specs.Answer.{step_of}
use Rattle.step_row.specs.Answer.{strong_row, row_answer}
use Rattle.ramp_motion.specs.Motion as motion
use Rattle.ramp.specs.Answer as answer
use Rattle.ramp.specs.Answer.{overrun, stop_of}
use Rattle.sheet_line.specs.Bytes.{u16_at, u32_at, signed}
use Rattle.sheet.specs.Sheet.{keeps, accepted}
use Rattle.sheet_lookup.specs.Answer.{stretch_of, signal_of}
use Rattle.sheet_span.specs.Least.{stretch_up_to, least_of}
use Rattle.query_way.specs.Way.{way_of}
use Rattle.query_release.specs.Release.{release_of, weak_past}
use Rattle.query.specs.Answer.{answer_of}
use Rattle.figures.proofs.Rows.{train, ep}
use Rattle.figures.proofs.Own.{braked, sloped}

-- what is asked for
pub data Call : Type 0 where
  -- train, V, V0, i
  step : Train → ℕ → ℕ → ℤ → Call
  -- V0, and how many places are lent
  row : ℕ → ℕ → Call
  -- coefficients, V0, and how many places are lent
  row_with : Coefficients → ℕ → ℕ → Call
  -- V, TM, TR
  ramp : ℕ → ℕ → ℕ → Call
  -- coefficients, V, TR
  ramp_with : Coefficients → ℕ → ℕ → Call
  -- sheet, number
  stretch : List ℕ → ℕ → Call
  signal : List ℕ → ℕ → Call
  -- sheet, signal, head
  query : List ℕ → ℕ → ℕ → Call
  -- coefficients, i of a single distance, sheet of a query
  step_with : Coefficients → ℤ → Call
  query_with : Coefficients → List ℕ → Call

-- an EP train, BW 100, top speed 100, on the level where nothing else is said
abbrev pub refusal_of : Call → ℕ
refusal_of (step t v v0 i) = (step_of first t (gradient_of i) (kmh v) (kmh v0)).refusal
refusal_of (row v0 room) = (row_answer first (ep 100) (gradient_of (pos 0)) (kmh v0) room).refusal
refusal_of (row_with k v0 room) = (row_answer k (ep 100) (gradient_of (pos 0)) (kmh v0) room).refusal
refusal_of (ramp_with k v tr) = (stop_of k.inertia (overrun 100 (gradient_of (pos 0)) (kmh v) 200 tr)).refusal
refusal_of (step_with k i) = (step_of k (ep 100) (gradient_of i) (kmh 50) (kmh 0)).refusal
refusal_of (query_with k s) = (answer_of k (ep 100) 200 400 s 0 0).refusal
refusal_of (ramp v tm tr) = (stop_of first.inertia (overrun 100 (gradient_of (pos 0)) (kmh v) tm tr)).refusal
refusal_of (stretch s k) = (stretch_of s k).refusal
refusal_of (signal s k) = (signal_of s k).refusal
refusal_of (query s k head) = (answer_of first (ep 100) 200 400 s k head).refusal

-- one level stretch up to 10 m and signals at 5 and 8 without overlaps: n is 1 and m is 2
abbrev pub sheet : List ℕ
sheet =
    1 ∷ 0 ∷ 2 ∷ 0 ∷ 20 ∷ 0 ∷ 0 ∷ 0 ∷ 26 ∷ 0 ∷ 0 ∷ 0 ∷ 38 ∷ 0 ∷ 0 ∷ 0 ∷ 10 ∷ 0 ∷ 0 ∷ 0
    ∷ 0 ∷ 0 ∷ 0 ∷ 0 ∷ 0 ∷ 0
    ∷ 5 ∷ 0 ∷ 0 ∷ 0 ∷ 0 ∷ 0
    ∷ 8 ∷ 0 ∷ 0 ∷ 0 ∷ 0 ∷ 0 ∷ []

-- the same without its stretch
abbrev pub bare : List ℕ
bare =
    0 ∷ 0 ∷ 2 ∷ 0 ∷ 20 ∷ 0 ∷ 0 ∷ 0 ∷ 20 ∷ 0 ∷ 0 ∷ 0 ∷ 32 ∷ 0 ∷ 0 ∷ 0 ∷ 10 ∷ 0 ∷ 0 ∷ 0
    ∷ 5 ∷ 0 ∷ 0 ∷ 0 ∷ 0 ∷ 0
    ∷ 8 ∷ 0 ∷ 0 ∷ 0 ∷ 0 ∷ 0 ∷ []

-- a refusal's number, a call that it turns away, and one that nothing does
pub record Example : Type 0 where
  pub number : ℕ
  pub turned : Call
  pub taken : Call

infix 80 ◌turns-away◌but-not◌
abbrev pub ◌turns-away◌but-not◌ : ℕ → Call → Call → Example
n turns-away a but-not b = record { number = n; turned = a; taken = b }

abbrev pub All : List Example → Type 0
All [] = Unit
All (e ∷ es) = ((refusal_of e.turned ≡ e.number) × (refusal_of e.taken ≡ 0)) × All es

pub examples : List Example
examples =
    1 turns-away step (ep 47) 50 0 (pos 0) but-not step (ep 45) 50 0 (pos 0)
    ∷ 2 turns-away step (train Passenger true 100 1001) 50 0 (pos 0) but-not step (train Passenger true 100 1000) 50 0 (pos 0)
    ∷ 3 turns-away ramp 0 200 400 but-not ramp 1 200 400
    ∷ 3 turns-away step (ep 100) 50 400 (pos 0) but-not step (ep 100) 50 50 (pos 0)
    ∷ 4 turns-away step (ep 100) 50 51 (pos 0) but-not step (ep 100) 50 50 (pos 0)
    ∷ 5 turns-away step (ep 100) 50 0 (pos 36) but-not step (ep 100) 50 0 (pos 35)
    ∷ 6 turns-away ramp 50 200 0 but-not ramp 50 200 1
    ∷ 7 turns-away signal bare 0 but-not signal sheet 0
    ∷ 8 turns-away signal sheet 2 but-not signal sheet 1
    ∷ 8 turns-away stretch sheet 1 but-not stretch sheet 0
    ∷ 9 turns-away query sheet 0 6 but-not query sheet 0 5
    ∷ 10 turns-away step (ep 45) 50 0 (negsuc 18) but-not step (ep 45) 50 0 (negsuc 17)
    ∷ 11 turns-away row 98 2 but-not row 98 3
    -- Card 5: 0.44403 · (1 - 0.010 · (100 - VC)) at the top speed is 0.044403 with a VC of 10, 0.0666045 with 15; 10 before 11
    ∷ 10 turns-away row_with (braked 130 10 57 5 (negsuc 9) 10) 0 0 but-not row_with (braked 130 10 57 5 (negsuc 9) 15) 0 101
    -- each end of Kr and of VC's steps; an i2 uphill; coefficients left 0
    ∷ 12 turns-away step_with (braked 130 10 29 5 (pos 0) 150) (pos 0) but-not step_with (braked 130 10 30 5 (pos 0) 150) (pos 0)
    ∷ 12 turns-away step_with (braked 130 10 57 5 (pos 0) 152) (pos 0) but-not step_with (braked 130 10 57 5 (pos 0) 155) (pos 0)
    ∷ 12 turns-away ramp_with (sloped 90 100 110 0 (pos 1)) 50 400 but-not ramp_with (sloped 90 100 110 0 (pos 0)) 50 400
    ∷ 12 turns-away row_with (braked 0 0 0 0 (pos 0) 0) 98 3 but-not row_with (braked 0 0 30 0 (pos 0) 0) 98 3
    -- behind 5 and 6, before 7 and 10
    ∷ 5 turns-away step_with (braked 130 10 29 5 (pos 0) 150) (pos 36) but-not step_with (braked 130 10 30 5 (pos 0) 150) (pos 35)
    ∷ 6 turns-away ramp_with (sloped 79 100 110 0 (negsuc 20)) 50 0 but-not ramp_with (sloped 80 100 110 0 (negsuc 20)) 50 1
    ∷ 12 turns-away query_with (braked 130 10 57 5 (negsuc 10) 150) bare but-not query_with (braked 130 10 57 5 (negsuc 9) 150) sheet
    ∷ 12 turns-away step_with (sloped 90 100 121 0 (negsuc 20)) (negsuc 34) but-not step_with (sloped 90 100 80 0 (negsuc 20)) (negsuc 34)
    ∷ []

pub turned-away : All examples
unfolding examples step_of strong dp KC K0 dr di factor row_answer strong_row stop_of answer.strong motion.dp stretch_of signal_of accepted keeps all_hold every u32_at u16_at signed answer_of weak_past release_of way_of least_of stretch_up_to
turned-away =
    ((refl, refl), ((refl, refl), ((refl, refl), ((refl, refl), ((refl, refl), ((refl, refl), ((refl, refl), ((refl, refl), ((refl, refl), ((refl, refl), ((refl, refl), ((refl, refl), ((refl, refl), ((refl, refl), ((refl, refl), ((refl, refl), ((refl, refl), ((refl, refl), ((refl, refl), ((refl, refl), ((refl, refl), ((refl, refl), tt))))))))))))))))))))))
