-- Document 01: "One km/h is 5/18 m/s".
use Rattle.std.specs.Prelude.{ℕ}
use Rattle.exact.specs.Fraction.{Fraction, whole, ◌over◌, ◌*q◌, raised}
use Rattle.train.specs.declared.Kmh.{Kmh}
use Rattle.train.specs.declared.Metre.{Metre}
use Rattle.train.specs.declared.Millimetre.{Millimetre}

abbrev pub kmh : ℕ → Kmh
kmh n = record { 0 = n }

abbrev pub metres : ℕ → Metre
metres n = record { 0 = n }

-- a speed in m/s
unfoldable pub speed : Kmh → Fraction
speed v = whole v.0 *q (5 over 18)

-- metres, raised to the least whole millimetre not below
abbrev pub in_millimetres : Fraction → Millimetre
in_millimetres x = record { 0 = raised (whole 1000 *q x) }
