-- How many bytes an accepted sheet has, and the most records of each table.
use mathlib.Core.Path.{◌≡◌}
use mathlib.Core.Bool.{true}
use mathlib.Core.List.{List}
use lib.ListN.{length}
use Prim.Native.Nat.{ℕ, ◌+◌, ◌*◌, ◌≤◌}
use Rattle.sheet_line.specs.Bytes.{u16_at}
use Rattle.sheet.specs.Sheet.{accepted}
use Rattle.sheet.proofs.Kept.{headed-of}

pub room : (s : List ℕ) → accepted s ≡ true → (length s ≡ 20 + 6 * u16_at s 0 + 6 * u16_at s 2) × ((u16_at s 0 ≤ 512) × (u16_at s 2 ≤ 64))
room s h = let (a, b) = headed-of s h in (a.lent, (b.counts.stretches, b.counts.signals))
