-- Every train's delay is a whole number of millionths of a second.
use mathlib.Core.Bool.{Bool, true, false, cond}
use Prim.Native.Nat.{ℕ, ◌+◌, ◌*◌, ◌≤◌, max}
use native.Mathlib.Omega.{arith}
use lib.Dec.{lit≤}
use Rattle.exact.specs.Fraction.{Fraction, ◌over◌, ◌≈q◌}
use Rattle.train.specs.declared.BrakeType.{BrakeType}
use Rattle.train.specs.declared.BrakeType.TheVariants.{Passenger, Freight}
use Rattle.train.specs.declared.Metre.{Metre}
use Rattle.train.specs.declared.Train.{Train}
use Rattle.train.specs.Units.{metres}
use Rattle.train_delay.specs.Delay.{row_of, row_delay, passenger_delay, delay_by, delay}
use Rattle.train_delay.proofs.Rows.{row_is, row_small, larger-is}

abbrev pub Whole : Fraction → Type 0
Whole x = (d : ℕ) × ((d over 1000000 ≈q x) × (d ≤ 18500000))

by_row : (b : BrakeType) (l : Metre) → l.0 ≤ 1000 → Whole (row_delay b l)
by_row b l h = ((row_of b).a * 10000 + (row_of b).c * (l.0 * l.0), (row_is _ _ l.0, (row_small b l.0 h).1.1.1))

module _ (t : Train) (h : t.length.0 ≤ 1000) where
  passenger : Whole (passenger_delay t)
  passenger = by_row Passenger (cond t.electropneumatic (metres 0) t.length) (go t.electropneumatic)
    where
      go : (b : Bool) → (cond b (metres 0) t.length).0 ≤ 1000
      go true = lit≤ tt
      go false = h

  by-brake : (b : BrakeType) → Whole (delay_by t b)
  by-brake Passenger = passenger
  by-brake Freight =
      let (p, (e, i)) = passenger in
      let (f, (g, j)) = by_row Freight t.length h in
      (max p f, (larger-is p f 1000000 e g, omega arith))

  pub whole-delay : Whole (delay t)
  unfolding delay
  whole-delay = by-brake t.brake
