-- The speed's conditions decide by its rule. In a file of its own, since the lists' laws rest on it.
use Prim.Native.Nat.{◌≤◌}
use Rattle.train.specs.declared.Kmh.{Kmh}
use Rattle.train.specs.Judged.{◌keeps◌}
use Rattle.train.proofs.Judging.{Settles, ◌and◌, at_least}
use Rattle.ramp.specs.Answer.{speed_refusals}

pub speed-settles : (v : Kmh) → Settles (3 keeps ((1 ≤ v.0) × (v.0 ≤ 100))) (speed_refusals v)
speed-settles v = at_least 3 tt 1 v.0 and at_least 3 tt v.0 100
