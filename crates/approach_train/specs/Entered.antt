-- The train that C's record stands for. What is yes or no is a byte there, and C can pass any.
use Rattle.std.specs.Prelude.{Bool, true, false, cond, ◌≡◌, ℕ, ◌<◌, ltb}
use Rattle.train.specs.declared.BrakeType.TheVariants.{Passenger, Freight}
use Rattle.train.specs.declared.Train.{Train}
use Rattle.train.specs.Units.{kmh, metres}
use Rattle.approach_train.specs.declared.Entered.{Entered}

-- 0 is no, any other byte yes
abbrev pub yes : ℕ → Bool
yes byte = ltb 0 byte

abbrev pub train_of : Entered → Train
train_of t =
    record { brake = cond (yes t.freight) Freight Passenger; electropneumatic = yes t.electropneumatic; weight = t.weight; length = metres t.length; top = kmh t.top }

-- the record once more, in words of its own: what 0 means, and what each of the other 255 bytes; its numbers as they are
pub record Meant (t : Entered) (r : Train) : Type 0 where
  pub passenger : t.freight ≡ 0 → r.brake ≡ Passenger
  pub freight : 0 < t.freight → r.brake ≡ Freight
  pub off : t.electropneumatic ≡ 0 → r.electropneumatic ≡ false
  pub working : 0 < t.electropneumatic → r.electropneumatic ≡ true
  pub weight : r.weight ≡ t.weight
  pub length : r.length.0 ≡ t.length
  pub top : r.top.0 ≡ t.top
