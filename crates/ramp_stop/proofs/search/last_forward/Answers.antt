-- `last_forward`: a quotient under full braking; before it halving finds the last millisecond forward.
use borrow.Author.Tests.{leb-true, leb-false}
use mathlib.Core.Bool.{true, false}
use mathlib.Core.Logic.{⊎_elim}
use mathlib.Core.Path.{◌≡◌, sym, ◌∙◌}
use native.Mathlib.Omega.{arith}
use lib.Dec.{leb}
use Prim.Native.Nat.{◌≤◌, ◌<◌, ◌+◌}
use Rattle.std.proofs.Common.{rules}
use Rattle.ramp_motion.specs.Plan.{fast, slow}
use Rattle.ramp_stop.proofs.Rolling.{at-start, turned, begun}
use Rattle.ramp_stop.proofs.search.last_forward.Goals as goal

pub returns : goal.returns
returns c =
    let m = c.args.m in
    let t = c.last_holding-t.result in
    let h = c.last_holding-t.ensures in
    let ends = begun m c.requires.0 (leb-false _ _ (sym c.forward.ensures ∙ c.if-forward.false)) in
    let a : slow m t ≤ fast m t = ⊎_elim (λ z. rw z (at-start m)) (λ p. let e : leb (slow m t) (fast m t) ≡ true = search rules in leb-true _ _ e) h.yes in
    let b : fast m (t + 1) < slow m (t + 1) = ⊎_elim (λ z. rw z ends.back) (λ p. let e : leb (slow m (t + 1)) (fast m (t + 1)) ≡ false = search rules in leb-false _ _ e) h.no in
    rw c.from.ensures (turned m t (t + 1) (record { still = a; back = b; apart = omega arith; early = omega (arith, h.range, ends.early) }) (omega arith))
