-- `whole`: the records are those of the lists.
use lib.IntN.{pos}
use lib.ListN.{get_or}
use Rattle.sheet_line.specs.Bytes.{complement}
use Rattle.sheet_bytes.proofs.whole.Given as goal

abbrev pub ghost-records : goal.ghost-records
ghost-records a = λ k. (get_or a.nth.0.now k 0, complement (get_or a.nth.1.now k (pos 0)))

abbrev pub ghost-records-2 : goal.ghost-records-2
ghost-records-2 a = λ k. (get_or a.nth.0.now k 0, get_or a.nth.1.now k 0)
