-- `table_keeps`: a record's numbers are those of its six bytes.
use Prim.Native.Nat.{◌+◌, ◌*◌}
use Rattle.sheet_line.specs.Bytes.{u16_at, u32_at}
use Rattle.sheet.proofs.check.table_keeps.Given as goal

abbrev pub ghost-records_keep : goal.ghost-records_keep
ghost-records_keep a = λ k. (u32_at a.nth.0.now (a.nth.1.now + 6 * k), u16_at a.nth.0.now (a.nth.1.now + 6 * k + 4))
