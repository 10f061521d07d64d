-- Document 01, "Train and slope"; document 002, section 7.1.
use Rattle.std.specs.Prelude.{cond}
use Rattle.exact.specs.Fraction.{Fraction, ◌over◌, ◌+q◌, ◌*q◌, maxq}
use Rattle.train.specs.declared.BrakeType.{BrakeType}
use Rattle.train.specs.declared.BrakeType.TheVariants.{Passenger, Freight}
use Rattle.train.specs.declared.Metre.{Metre}
use Rattle.train.specs.declared.Train.{Train}
use Rattle.train.specs.declared.Coefficients.{Coefficients}
use Rattle.train_delay.specs.declared.DelayRow.{DelayRow}
use Rattle.train.specs.Units.{metres}

-- the first values, in hundredths; b is 0
abbrev pub row_of : BrakeType → DelayRow
row_of Passenger = record { a = 350; c = 15 }
row_of Freight = record { a = 1350; c = 4 }

-- a + c · (L / 100)², in seconds
abbrev pub row_delay : BrakeType → Metre → Fraction
row_delay b l = ((row_of b).a over 100) +q ((row_of b).c over 100) *q ((l.0 over 100) *q (l.0 over 100))

module _ (t : Train) where
  -- with the electropneumatic brake working the passenger row takes the length as 0; the freight row never does
  abbrev pub passenger_delay : Fraction
  passenger_delay = row_delay Passenger (cond t.electropneumatic (metres 0) t.length)

  abbrev pub freight_delay : Fraction
  freight_delay = row_delay Freight t.length

  -- a freight train's is the larger of both rows
  abbrev pub delay_by : BrakeType → Fraction
  delay_by Passenger = passenger_delay
  delay_by Freight = maxq passenger_delay freight_delay

  -- tf', in seconds
  unfoldable pub delay : Fraction
  delay = delay_by t.brake

-- tf, in seconds
unfoldable pub tf : Coefficients → Train → Fraction
tf k t = (k.dt over 100) *q delay t
