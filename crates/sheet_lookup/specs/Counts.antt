-- An accepted sheet and what was read of it once: its counts, or a signal.
use Rattle.std.specs.Prelude.{◌≡◌, true, List, ℕ, ◌<◌}
use Rattle.train.specs.Units.{metres}
use Rattle.sheet.specs.Sheet.{line_of, accepted}
use Rattle.sheet_lookup.specs.declared.opened.Counts.{Counts}
use Rattle.sheet_lookup.specs.declared.Signal.{Signal}

pub record IsCounts (s : List ℕ) (c : Counts) : Type 0 where
  pub sheet : accepted s ≡ true
  pub stretches : c.stretches ≡ (line_of s).stretches
  pub signals : c.signals ≡ (line_of s).signals

-- the k-th
pub record IsSignal (s : List ℕ) (k : ℕ) (r : Signal) : Type 0 where
  pub sheet : accepted s ≡ true
  pub number : k < (line_of s).signals
  pub place : r.place ≡ metres ((line_of s).place k)
  pub overlap : r.overlap ≡ metres ((line_of s).overlap k)
