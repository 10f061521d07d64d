-- Document 02, Cards 3 and 4: a walk from a stretch towards the line's beginning, and where it stands after each step.
use Rattle.std.specs.Prelude.{cond, ℕ, zero, suc, ◌-◌}
use Rattle.std.specs.Int.Signed.{le_z}
use Rattle.sheet_line.specs.Line.{Line}
use Rattle.sheet_walk.specs.declared.Walk.{Walk}

module _ (l : Line) where
  -- step 0: at a stretch, whose gradient is the least so far
  abbrev pub begun : ℕ → Walk
  begun k = record { stretch = k; gradient = l.gradient k; least = l.gradient k; least_stretch = k }

  -- a step on: at the stretch before, which has the least gradient if the least so far is not below its own. Numbers fall along the
  -- walk, so the later of equals has the lower one (Card 4).
  abbrev pub further : Walk → Walk
  further w =
      let k = w.stretch - 1 in
      cond (le_z (l.gradient k) w.least) (begun k) (record { stretch = k; gradient = l.gradient k; least = w.least; least_stretch = w.least_stretch })

  -- step n of the walk from stretch k
  unfoldable pub walk_at : ℕ → ℕ → Walk
  walk_at k zero = begun k
  walk_at k (suc n) = further (walk_at k n)
