-- `of_train`: the passenger row by the brake, then the larger of both for freight.
use mathlib.Core.Bool.{cond}
use mathlib.Core.Path.{◌≡◌}
use Prim.Native.Nat.{◌≤◌}
use native.Mathlib.Omega.{arith}
use Rattle.exact.specs.Fraction.{◌over◌, ◌≈q◌}
use Rattle.train.specs.Units.{metres}
use Rattle.train_delay.specs.Delay.{delay, passenger_delay}
use Rattle.train_delay.proofs.Rows.{larger-is}
use Rattle.train_delay.proofs.of_train.Goals as goal
use Rattle.train_delay.proofs.of_train.Goals.{After-row_delay-passenger, then-train, else-train}

-- the length that the passenger row counts, where the two arms meet
passenger-is : (c : After-row_delay-passenger) → (c.row_delay-passenger.result over 1000000 ≈q passenger_delay c.args.train) × (c.row_delay-passenger.result ≤ 18500000)
passenger-is c =
    let counted : c.if-train.counted ≡ cond c.args.train.electropneumatic (metres 0) c.args.train.length = elim c.if-train.branch [
      | then-train w ↦ rw w.if-train.true w.counted-is
      | else-train w ↦ rw w.if-train.false w.counted-is
    ] in
    rw counted at c.row_delay-passenger.ensures

pub returns-in-Passenger : goal.returns-in-Passenger
unfolding delay
returns-in-Passenger c = rw c.in-Passenger.is (passenger-is (goal.at.returns-in-Passenger c).After-row_delay-passenger)

pub returns-in-Freight : goal.returns-in-Freight
unfolding delay
returns-in-Freight c =
    let p = passenger-is (goal.at.returns-in-Freight c).After-row_delay-passenger in
    let f = c.row_delay.ensures in
    rw (c.in-Freight.is, c.max.ensures) (larger-is _ _ 1000000 p.0 f.0, omega arith)
