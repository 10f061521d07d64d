-- The record that the caller reads: a refusal's number, or 0 and the sheet's length.
use Rattle.std.specs.Prelude.{ℕ, Result, Ok, Err}
use Rattle.train.specs.declared.Written.{Written}
use Rattle.train.specs.declared.refusal.Refusal.{Refusal}
use Rattle.train.specs.Number.{number}

abbrev pub answered : Result ℕ Refusal → Written
answered (Ok n) = record { refusal = 0; length = n }
answered (Err r) = record { refusal = number r; length = 0 }
