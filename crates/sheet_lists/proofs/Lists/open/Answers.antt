-- `Lists::open`: what is refused breaks a rule, and what is not keeps each.
use mathlib.Core.Path.{refl}
use Rattle.lists.proofs.Holding.{refuted}
use Rattle.sheet.proofs.Writable.{writable-at, writable-of}
use Rattle.sheet_lists.proofs.Lists.open.Goals as goal
use Rattle.sheet_lists.proofs.Lists.open.Goals.{then-gradients-starts-via-then-gradients-starts, then-gradients-starts-via-else-gradients-starts+then-overlaps-places, then-gradients-starts-via-else-gradients-starts+else-overlaps-places+then-not-counts_keep, then-gradients-starts-via-else-gradients-starts+else-overlaps-places+else-not-counts_keep+then-starts-ne0, then-gradients-starts-via-else-gradients-starts+else-overlaps-places+else-not-counts_keep+else-starts-ne0+then-not-stretches_keep, then-gradients-starts-via-else-gradients-starts+else-overlaps-places+else-not-counts_keep+else-starts-ne0+else-not-stretches_keep+then-not-signals_keep}

pub returns-then-gradients-starts : goal.returns-then-gradients-starts
returns-then-gradients-starts c = (
  refl,
  refuted _ (λ h. let w = writable-at _ h in elim c.then-gradients-starts.branch [
    | then-gradients-starts-via-then-gradients-starts b ↦ b.if-gradients-starts.true w.stretches
    | then-gradients-starts-via-else-gradients-starts+then-overlaps-places b ↦ b.if-overlaps-places.true w.signals
    | then-gradients-starts-via-else-gradients-starts+else-overlaps-places+then-not-counts_keep b ↦ b.counts_keep.ensures.no b.if-not-counts_keep.true w.kept.counts
    | then-gradients-starts-via-else-gradients-starts+else-overlaps-places+else-not-counts_keep+then-starts-ne0 b ↦ b.if-starts-ne0.true w.kept.origin
    | then-gradients-starts-via-else-gradients-starts+else-overlaps-places+else-not-counts_keep+else-starts-ne0+then-not-stretches_keep b ↦ b.stretches_keep.ensures.no b.if-not-stretches_keep.true w.kept.stretches
    | then-gradients-starts-via-else-gradients-starts+else-overlaps-places+else-not-counts_keep+else-starts-ne0+else-not-stretches_keep+then-not-signals_keep b ↦ b.signals_keep.ensures.no b.if-not-signals_keep.true w.kept.signals
  ]),
)

pub invariant_of-result : goal.invariant_of-result
invariant_of-result c =
    record {
      kept = writable-of _ (record {
        stretches = c.if-gradients-starts.false;
        signals = c.if-overlaps-places.false;
        kept = record {
          counts = c.counts_keep.ensures.yes c.if-not-counts_keep.false;
          origin = c.if-starts-ne0.false;
          stretches = c.stretches_keep.ensures.yes c.if-not-stretches_keep.false;
          signals = c.signals_keep.ensures.yes c.if-not-signals_keep.false;
        };
      });
    }
