-- `header`: six numbers, one behind the other.
use mathlib.Core.List.{◌++◌}
use mathlib.Core.Path.{refl}
use native.Mathlib.Omega.{arith}
use Rattle.lists.proofs.Laid.{put_then}
use Rattle.sheet_line.specs.Bytes.{bytes2, bytes4}
use Rattle.sheet.specs.Sheet.{signal_offset, sheet_length}
use Rattle.sheet_bytes.proofs.header.Goals as goal

pub returns : goal.returns
unfolding bytes4 bytes2
returns c =
    let a = c.args in
    let h = c.requires.2 in
    let n = bytes2 a.n in
    let m = bytes2 a.m in
    let stretches = bytes4 20 in
    let signals = bytes4 (signal_offset a.n) in
    let whole = bytes4 (sheet_length a.n a.m) in
    let o = a.out.now in
    let two = put_then 0 2 n m o c.two.ensures c.two-2.ensures refl (omega arith) in
    let three = put_then 0 4 (n ++ m) stretches o two c.four.ensures refl (omega arith) in
    let four = put_then 0 8 (n ++ m ++ stretches) signals o three c.four-2.ensures refl (omega arith) in
    let five = put_then 0 12 (n ++ m ++ stretches ++ signals) whole o four c.four-3.ensures refl (omega arith) in
    put_then 0 16 (n ++ m ++ stretches ++ signals ++ whole) (bytes4 a.end) o five c.four-4.ensures refl (omega arith)
