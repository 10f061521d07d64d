-- A figure to hold, and that it holds of the definitions with the coefficients k: the words of the lists of figures.
use mathlib.Core.Path.{◌≡◌}
use mathlib.Core.Bool.{Bool, true, false}
use mathlib.Core.List.{List, [], ◌∷◌}
use Prim.Native.Nat.{ℕ}
use lib.IntN.{ℤ}
use Rattle.exact.specs.Fraction.{Fraction, ◌<q◌}
use Rattle.train.specs.declared.BrakeType.{BrakeType}
use Rattle.train.specs.declared.BrakeType.TheVariants.{Passenger, Freight}
use Rattle.train.specs.declared.Train.{Train}
use Rattle.train.specs.declared.Coefficients.{Coefficients}
use Rattle.train.specs.Units.{kmh, metres, in_millimetres}
use Rattle.train.specs.Gradient.{gradient_of}
use Rattle.train_delay.specs.Delay.{passenger_delay, freight_delay, delay}
use Rattle.step_curve.specs.declared.Curve.{Curve}
use Rattle.step_curve.specs.declared.Curve.TheVariants.{Ebi, Sbi, W, P}
use Rattle.step.specs.declared.Distances.{Distances}
use Rattle.step.specs.Answer.{step_of}
use Rattle.ramp_motion.specs.declared.Overrun.{Overrun}
use Rattle.ramp_motion.specs.Motion.{place_at}
use Rattle.ceilings.specs.Ceilings.{limits_of}

-- brake type, electropneumatic brake working or not, BW, L
abbrev pub train : BrakeType → Bool → ℕ → ℕ → Train
train brake electropneumatic weight length =
    record { brake = brake; electropneumatic = electropneumatic; weight = weight; length = metres length; top = kmh 100 }

-- "EP" is passenger, brake working
abbrev pub ep : ℕ → Train
ep weight = train Passenger true weight 200

abbrev pub freight : ℕ → Train
freight length = train Freight false 100 length

abbrev pub field : Curve → Distances → ℕ
field Ebi d = d.ebi.0
field Sbi d = d.sbi.0
field W d = d.w.0
field P d = d.p.0

pub data Row : Type 0 where
  -- train, V, V0, i: one curve's millimetres, or a refusal
  gives : Train → ℕ → ℕ → ℤ → Curve → ℕ → Row
  refuses : Train → ℕ → ℕ → ℤ → ℕ → Row
  -- which row is the larger, the train's delay
  larger : Train → BrakeType → Row
  -- a motion past a signal, a moment in seconds: the place then, in millimetres, raised
  reaches : Overrun → Fraction → ℕ → Row
  -- a permitted speed's ceilings for W, SBI, EBI
  limits : ℕ → ℕ → ℕ → ℕ → Row

abbrev pub Holds : Coefficients → Row → Type 0
Holds k (gives t v v0 i c n) = let d = step_of k t (gradient_of i) (kmh v) (kmh v0) in (d.refusal ≡ 0) × (field c d ≡ n)
Holds k (refuses t v v0 i n) = (step_of k t (gradient_of i) (kmh v) (kmh v0)).refusal ≡ n
Holds k (larger t Passenger) = (freight_delay t <q passenger_delay t) × (delay t ≡ passenger_delay t)
Holds k (larger t Freight) = (passenger_delay t <q freight_delay t) × (delay t ≡ freight_delay t)
Holds k (reaches o t n) = (in_millimetres (place_at k.inertia o t)).0 ≡ n
Holds k (limits v w sbi ebi) = limits_of (kmh v) ≡ record { refusal = 0; w = record { 0 = w }; sbi = record { 0 = sbi }; ebi = record { 0 = ebi } }

abbrev pub All : Coefficients → List Row → Type 0
All k [] = Unit
All k (r ∷ rs) = Holds k r × All k rs
