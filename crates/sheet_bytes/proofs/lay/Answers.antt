-- `lay`: what lies before, the bytes, and what lies behind.
use native.Mathlib.Omega.{arith}
use Prim.Native.Nat.{◌+◌, ◌-◌}
use mathlib.Core.Path.{◌≡◌, sym}
use mathlib.Core.List.{append_assoc}
use lib.ListN.{length, take, drop}
use lib.Seq.{drop-drop}
use Rattle.lists.specs.Put.{put}
use Rattle.sheet_bytes.proofs.lay.Goals as goal

pub returns : goal.returns
unfolding put
returns c =
    let i = c.args.i in
    let out = c.args.out.now in
    let n = length c.args.bytes.now in
    let e : i + n - i ≡ n = omega arith in
    rw (c.copy_from_slice.ensures.after, e, drop-drop n i out) (sym (append_assoc (take i out) c.args.bytes.now (drop (i + n) out)))
