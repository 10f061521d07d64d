-- `records_keep`: what is asked of a record is asked of the k-th of those that are kept.
use native.Mathlib.Numerals.{add-one}
use native.Mathlib.Omega.{arith}
use mathlib.Core.Path.{refl}
use Rattle.sheet_line.specs.Records.{lowest}
use Rattle.sheet_line.proofs.Deciding.{said-no}
use Rattle.sheet_line.proofs.Tables.{none_yet, one_more, at_each}
use Rattle.sheet_line.proofs.rules.records_keep.Goals as goal

pub loop-k-init : goal.loop-k-init
unfolding lowest
loop-k-init g c = (refl, none_yet _ _)

pub returns-then-not-record_keeps : goal.returns-then-not-record_keeps
returns-then-not-record_keeps g c =
    let e = c.requires.1.1 c.loop-k.k _ c.loop-k-test.true c.nth-first.ensures in
    said-no (λ p. c.record_keeps.ensures.no c.if-not-record_keeps.true (rw (e.0, e.1, c.loop-k.invariant.0) (at_each _ _ c.args.n p c.loop-k.k c.loop-k-test.true)))

pub loop-k-preserved : goal.loop-k-preserved
unfolding lowest
loop-k-preserved g c =
    let k = c.loop-k.k in
    let e = c.requires.1.1 k _ c.loop-k-test.true c.nth-first.ensures in
    let f = rw (e.0, e.1, c.loop-k.invariant.0) at (c.record_keeps.ensures.yes c.if-not-record_keeps.false) in
    rw (add-one k) (omega (arith, e.0), one_more _ _ k c.loop-k.invariant.1 f.0 f.1)
