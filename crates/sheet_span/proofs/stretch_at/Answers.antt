-- `stretch_at`: the last stretch that starts at or before the point, the first where none else does.
use mathlib.Core.Logic.{◌⊎◌, inl, inr, ⊎_elim}
use mathlib.Core.Path.{◌≡◌, sym}
use native.Mathlib.Omega.{arith}
use Prim.Native.Nat.{◌+◌, ◌≤◌, ◌<◌}
use Rattle.sheet.specs.Sheet.{line_of}
use Rattle.sheet.proofs.Kept.{headed-of}
use Rattle.sheet_span.proofs.Stretches.{at-point}
use Rattle.sheet_span.proofs.Halving.{last-holds}
use Rattle.sheet_span.proofs.stretch_at.Goals as goal
use Rattle.std.proofs.Common.{rules}

pub last_holding-requires-clause-some : goal.last_holding-requires-clause-some
last_holding-requires-clause-some c = let k = (headed-of _ c.args.s.accepted).1 in omega (arith, k.counts.some, c.stretches.ensures)

pub returns : goal.returns
returns c =
    let l = line_of c.args.s.bytes.now in
    let k = (headed-of _ c.args.s.accepted).1 in
    let n = c.last_holding.result in
    let p = c.args.point.0 in
    let from : (n ≡ 0) ⊎ (l.start n ≤ p) = ⊎_elim (λ e. inl e) (λ e. inr (search rules)) c.last_holding.ensures.yes in
    let past : (n + 1 ≡ l.stretches) ⊎ (p < l.start (n + 1)) = ⊎_elim (λ e. inl (omega (arith, e, c.stretches.ensures))) (λ e. inr (search rules)) c.last_holding.ensures.no in
    let h = last-holds l k p c.requires n (omega (arith, c.last_holding.ensures.range, c.stretches.ensures)) from past in
    (sym (at-point l k n p h), h)
