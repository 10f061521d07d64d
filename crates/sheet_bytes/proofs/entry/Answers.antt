-- `entry`: four bytes, then two.
use Prim.Native.Nat.{◌+◌}
use mathlib.Core.Path.{refl}
use native.Mathlib.Omega.{arith}
use Rattle.lists.proofs.Laid.{put_then}
use Rattle.sheet_line.specs.Bytes.{bytes2, bytes4}
use Rattle.sheet_bytes.proofs.entry.Goals as goal

pub returns : goal.returns
unfolding bytes4 bytes2
returns c =
    let a = c.args in
    put_then a.i (a.i + 4) (bytes4 a.first) (bytes2 a.second) a.out.now c.four.ensures c.two.ensures refl (omega (arith, c.requires))
