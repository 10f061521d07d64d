-- Document 01, "Figures to hold": the train that the program takes. EP, BW 100, L 200, top speed 100.
use Rattle.std.specs.Prelude.{true}
use Rattle.train.specs.declared.BrakeType.TheVariants.{Passenger}
use Rattle.train.specs.declared.Train.{Train}
use Rattle.train.specs.Units.{kmh, metres}

abbrev pub example_train : Train
example_train = record { brake = Passenger; electropneumatic = true; weight = 100; length = metres 200; top = kmh 100 }
