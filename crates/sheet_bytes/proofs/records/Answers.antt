-- `records`: a record is the k-th of those that are kept, behind those before it.
use Prim.Native.Nat.{ℕ, suc, ◌+◌, ◌*◌}
use lib.ListN.{length}
use mathlib.Core.List.{◌++◌}
use mathlib.Core.Path.{◌≡◌, refl, sym, ◌∙◌, ap}
use native.Mathlib.Numerals.{add-one}
use native.Mathlib.Omega.{arith}
use Rattle.lists.specs.Put.{put}
use Rattle.lists.proofs.Laid.{put_then, put-none, length-put}
use Rattle.sheet_line.specs.Bytes.{bytes2, bytes4}
use Rattle.sheet.specs.Sheet.{records}
use Rattle.sheet.proofs.Parts.{records-length}
use Rattle.sheet_bytes.proofs.records.Goals as goal

pub loop-k-init : goal.loop-k-init
unfolding records
loop-k-init g c = (refl, sym (put-none _ _))

pub loop-k-preserved : goal.loop-k-preserved
unfolding records bytes4 bytes2
loop-k-preserved g c =
    let a = c.args in
    let k = c.loop-k.k in
    let h = c.requires.1.0 in
    let t = c.loop-k-test.true in
    let e = c.requires.1.1.1 k _ t c.nth-first.ensures in
    let first = λ (k : ℕ). (g.kept k).0 in
    let second = λ (k : ℕ). (g.kept k).1 in
    let here : c.entry.new.out ≡ put (a.at + 6 * k) (bytes4 (first k) ++ bytes2 (second k)) c.loop-k.out = rw (← e.0, ← e.1) c.entry.ensures in
    let n = records-length first second k in
    let more = put_then a.at (a.at + 6 * k) (records first second k) (bytes4 (first k) ++ bytes2 (second k)) a.out.now c.loop-k.invariant.1 here (omega (arith, n)) (omega arith) in
    let r = records-length first second (suc k) in
    rw (add-one k) (ap length more ∙ length-put a.at (records first second (suc k)) a.out.now (omega (arith, r)), more)
