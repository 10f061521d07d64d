-- Room in the lent buffer: its test, and the refusals by the rules. In a file of its own, in which no law rests on another.
use mathlib.Core.Path.{◌≡◌}
use mathlib.Core.Bool.{true, false}
use mathlib.Core.List.{List, [], ◌∷◌}
use Prim.Native.Nat.{ℕ, ◌≤◌, ◌<◌}
use borrow.Author.Tests.{lt-ltb, le-ltb}
use lib.Dec.{ltb}
use lib.ListN.{length}
use Rattle.train.specs.Judged.{◌keeps◌, Judged}
use Rattle.train.specs.Refusal.{first_of}
use Rattle.train.proofs.Judging.{at_least, no_more, ◌then◌, told}
use Rattle.sheet.specs.Fields.{Fields, Writable}
use Rattle.sheet.proofs.Writable.{writable-settles}
use Rattle.sheet_writer.specs.Answer.{size, write_refusals}

module _ (f : Fields) (lent : List ℕ) where
  abbrev pub Short : Type 0
  Short = length lent < size f

  abbrev pub Roomy : Type 0
  Roomy = size f ≤ length lent

  pub short : Short → ltb (length lent) (size f) ≡ true
  short h = lt-ltb (length lent) (size f) h

  pub roomy : Roomy → ltb (length lent) (size f) ≡ false
  roomy h = le-ltb (length lent) (size f) h

  -- the refusals by the rules
  pub spans : (n : ℕ) → n ≡ first_of (write_refusals f (length lent)) → Judged (7 keeps Writable f ∷ 11 keeps (size f ≤ length lent) ∷ []) n
  spans n e = (told (writable-settles f then at_least 11 tt (size f) (length lent) then no_more) e).1
