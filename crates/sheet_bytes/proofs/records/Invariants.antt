-- `records`: the buffer with the records up to the k-th laid over it.
use lib.ListN.{length}
use mathlib.Core.Path.{◌≡◌}
use Rattle.lists.specs.Put.{put}
use Rattle.sheet.specs.Sheet.{records}
use Rattle.sheet_bytes.proofs.records.Given as goal

abbrev pub invariant-loop-k : goal.invariant-loop-k
invariant-loop-k g l = (length l.out ≡ length l.initial.out) × (l.out ≡ put l.at (records (λ k. (g.kept k).0) (λ k. (g.kept k).1) l.k) l.initial.out)
