-- `whole`: the header, then both tables, one behind the other.
use Rattle.std.proofs.Common.{rules}
use Prim.Native.Nat.{◌+◌, ◌*◌}
use lib.IntN.{pos}
use lib.ListN.{length, get_or, length-append}
use mathlib.Core.List.{◌++◌}
use mathlib.Core.Path.{◌≡◌, refl}
use native.Mathlib.Omega.{arith}
use Rattle.sheet.proofs.Parts.{records-length}
use Rattle.sheet.proofs.RoundTrip.{header-length}
use Rattle.lists.proofs.Laid.{put_then}
use Rattle.sheet_line.specs.Bytes.{complement}
use Rattle.sheet.specs.Sheet.{signal_offset, header, records, bytes_of}
use Rattle.sheet.proofs.Writable.{writable-at}
use Rattle.sheet_bytes.proofs.whole.Goals as goal

pub header-requires : goal.header-requires
header-requires c = let w = (writable-at _ c.args.lists.kept).kept.counts in (w.stretches, w.signals, omega (arith, c.requires))

-- the paired lists are as long as each other
pub records-requires : goal.records-requires
records-requires c κs within =
    let e = (writable-at _ c.args.lists.kept).stretches in
    (search rules, (omega (arith, c.requires), (λ k h. search (rules, e), λ k r h p. search rules)))

pub records-requires-2 : goal.records-requires-2
records-requires-2 c κs within =
    let e = (writable-at _ c.args.lists.kept).signals in
    (search rules, (omega (arith, c.requires), (λ k h. search (rules, e), λ k r h p. search rules)))

pub returns : goal.returns
unfolding bytes_of
returns c =
    let a = c.args in
    let l = a.lists in
    let h = c.requires in
    let starts = l.starts.now in
    let places = l.places.now in
    let first = header (length starts) (length places) l.end in
    let stretches = records (λ k. get_or starts k 0) (λ k. complement (get_or l.gradients.now k (pos 0))) (length starts) in
    let signals = records (λ k. get_or places k 0) (λ k. get_or l.overlaps.now k 0) (length places) in
    let n : length stretches ≡ 6 * length starts = records-length _ _ (length starts) in
    let m : length signals ≡ 6 * length places = records-length _ _ (length places) in
    let f : length first ≡ 20 = header-length (length starts) (length places) l.end in
    let two = put_then 0 20 first stretches a.out.now c.header.ensures c.records.ensures (rw f refl) (omega (arith, n)) in
    let g : 0 + length (first ++ stretches) ≡ signal_offset (length starts) = rw (length-append first stretches, f, n) (omega arith) in
    put_then 0 (signal_offset (length starts)) (first ++ stretches) signals a.out.now two c.records-2.ensures g (omega (arith, m))
