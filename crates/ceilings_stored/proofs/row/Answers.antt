-- `row`: the three places of a speed have its three ceilings.
use mathlib.Core.Path.{refl, ◌∙◌}
use native.Mathlib.Omega.{arith}
use lib.Dec.{lit<}
use Rattle.ceilings_stored.proofs.Places.{entry_of}
use Rattle.ceilings_stored.proofs.row.Goals as goal

pub returns : goal.returns
returns c =
    let v = c.args.speed in
    rw (
      c.entry.ensures ∙ entry_of v 0 (lit< tt) (omega arith),
      c.entry-2.ensures ∙ entry_of v 1 (lit< tt) (omega arith),
      c.entry-3.ensures ∙ entry_of v 2 (lit< tt) (omega arith),
    )
    refl
