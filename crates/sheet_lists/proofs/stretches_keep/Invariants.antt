-- `stretches_keep`: a record's two bytes are the gradient's.
use lib.IntN.{pos}
use lib.ListN.{get_or}
use Rattle.sheet_lists.specs.Lists.{coded}
use Rattle.sheet_lists.proofs.stretches_keep.Given as goal

abbrev pub ghost-records_keep : goal.ghost-records_keep
ghost-records_keep a = λ k. (get_or a.nth.0.now k 0, coded (get_or a.nth.1.now k (pos 0)))
