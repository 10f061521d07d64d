-- `records_keep`: the records up to the k-th keep their rules, and the next may not start before `low`.
use Rattle.std.proofs.Common.{◌≡◌}
use Rattle.sheet_line.specs.Records.{KeepsItself, Along, lowest}
use Rattle.sheet_line.proofs.rules.records_keep.Given as goal

abbrev pub invariant-loop-k : goal.invariant-loop-k
invariant-loop-k g l = (l.low ≡ lowest (λ k. (g.kept k).0) l.k) × Along (λ k. (g.kept k).0) (λ k. KeepsItself l.table l.end (g.kept k).0 (g.kept k).1) l.k
