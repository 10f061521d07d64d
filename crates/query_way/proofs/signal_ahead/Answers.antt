-- `signal_ahead`: refusals 7, 8 and 9 in turn, else where the signal stands.
use mathlib.Core.Path.{◌≡◌, sym, subst, ap, ◌∙◌}
use mathlib.Core.List.{List}
use Prim.Native.Nat.{ℕ}
use native.Mathlib.Omega.{arith}
use Rattle.std.proofs.Common.{rules, Err}
use Rattle.train.specs.declared.Metre.{Metre}
use Rattle.train.specs.declared.refusal.Refusal.TheVariants.{Sheet}
use Rattle.sheet_lookup.specs.declared.Signal.{Signal}
use Rattle.sheet_lookup.specs.Answer.{signal_of}
use Rattle.sheet_lookup.specs.Counts.{IsSignal}
use Rattle.sheet_lookup.proofs.Read.{read-signal}
use Rattle.query_way.proofs.Ways.{no-sheet, no-such, beyond}
use Rattle.query_way.proofs.Found.{turned-away, located}
use Rattle.query_way.proofs.signal_ahead.Goals as goal

-- what was read without a refusal is the sheet's signal
held : (s : List ℕ) (k : ℕ) (r : Signal) → r ≡ signal_of s k → r.refusal ≡ 0 → IsSignal s k r
held s k r e z = subst (IsSignal s k) (sym e) (read-signal s k (sym (ap (λ (x : Signal). x.refusal) e) ∙ z))

pub returns-in_err-sheet : goal.returns-in_err-sheet
returns-in_err-sheet c =
    let e : c.from_residual.result ≡ Err Sheet = search rules in
    rw e (turned-away _ _ _ _ (no-sheet _ _ _ c.in_err-sheet.ensures.err.1))

pub returns-then-read-gt0 : goal.returns-then-read-gt0
returns-then-read-gt0 c =
    let a = c.in_ok-sheet.sheet in
    let e = ap (λ (r : Signal). r.refusal) c.signal_of-read.ensures in
    rw (← c.in_ok-sheet.ensures.ok.0) (turned-away _ _ _ _ (no-such _ _ _ a.accepted (omega (arith, e, c.if-read-gt0.true))))

pub returns-then-head-read : goal.returns-then-head-read
returns-then-head-read c =
    let a = c.in_ok-sheet.sheet in
    let i = held _ _ c.signal_of-read.result c.signal_of-read.ensures (omega (arith, c.if-read-gt0.false)) in
    rw (← c.in_ok-sheet.ensures.ok.0) (turned-away _ _ _ _ (beyond _ _ _ i.sheet i.number (omega (arith, c.if-head-read.true, ap (λ (m : Metre). m.0) i.place))))

pub returns : goal.returns
returns c =
    let i = held _ _ c.signal_of-read.result c.signal_of-read.ensures (omega (arith, c.if-read-gt0.false)) in
    rw (← c.in_ok-sheet.ensures.ok.0) (located _ _ _ i.number i.place i.overlap (omega (arith, c.if-head-read.false)))
