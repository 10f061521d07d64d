-- `signals_keep`: a record's two bytes are the overlap's.
use lib.ListN.{get_or}
use Rattle.sheet_lists.proofs.signals_keep.Given as goal

abbrev pub ghost-records_keep : goal.ghost-records_keep
ghost-records_keep a = λ k. (get_or a.nth.0.now k 0, get_or a.nth.1.now k 0)
