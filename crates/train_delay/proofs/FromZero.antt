-- No train's delay is below 0, whatever its length and the coefficients.
use lib.Dec.{lit<}
use Rattle.exact.specs.Fraction.{whole, ◌over◌, ◌*q◌, ◌≤q◌}
use Rattle.exact.proofs.Order.{maxq-left, ≤q-trans}
use Rattle.exact.proofs.FromZero.{over-from-0, +q-from-0, *q-from-0}
use Rattle.train.specs.declared.BrakeType.{BrakeType}
use Rattle.train.specs.declared.BrakeType.TheVariants.{Passenger, Freight}
use Rattle.train.specs.declared.Metre.{Metre}
use Rattle.train.specs.declared.Train.{Train}
use Rattle.train.specs.declared.Coefficients.{Coefficients}
use Rattle.train_delay.specs.Delay.{row_of, row_delay, passenger_delay, freight_delay, delay_by, delay, tf}

row-from-0 : (b : BrakeType) (l : Metre) → whole 0 ≤q row_delay b l
row-from-0 b l =
    let c = (row_of b).c over 100 in
    let x = l.0 over 100 in
    +q-from-0 ((row_of b).a over 100) (c *q (x *q x)) (over-from-0 _ 100) (*q-from-0 c (x *q x) (over-from-0 _ 100) (*q-from-0 x x (over-from-0 _ 100) (over-from-0 _ 100)))

by-brake : (t : Train) (b : BrakeType) → whole 0 ≤q delay_by t b
by-brake t Passenger = row-from-0 Passenger _
by-brake t Freight = ≤q-trans (whole 0) (passenger_delay t) (delay_by t Freight) (lit< tt) (row-from-0 Passenger _) (maxq-left (passenger_delay t) (freight_delay t))

delay-from-0 : (t : Train) → whole 0 ≤q delay t
unfolding delay
delay-from-0 t = by-brake t t.brake

pub tf-from-0 : (k : Coefficients) (t : Train) → whole 0 ≤q tf k t
unfolding tf
tf-from-0 k t = *q-from-0 (k.dt over 100) (delay t) (over-from-0 k.dt 100) (delay-from-0 t)
