-- Document 01, "What is turned away", with Card 5: a refusal's number, and that of an answer that may be a refusal, 0 where it is none.
use Rattle.std.specs.Prelude.{ℕ, Result, Ok, Err}
use Rattle.train.specs.declared.refusal.Refusal.{Refusal}
use Rattle.train.specs.declared.refusal.Refusal.TheVariants.{BrakedWeight, Length, Speed, Target, Gradient, Times, Sheet, Number, Head, WeakBrake, Room, Coefficient}

abbrev pub number : Refusal → ℕ
number BrakedWeight = 1
number Length = 2
number Speed = 3
number Target = 4
number Gradient = 5
number Times = 6
number Sheet = 7
number Number = 8
number Head = 9
number WeakBrake = 10
number Room = 11
number Coefficient = 12

abbrev pub refusal_of : {A : Type 0} → Result A Refusal → ℕ
refusal_of (Ok a) = 0
refusal_of (Err r) = number r
