-- `least`: steps until the stretch holds the span's first point.
use borrow.Author.Tests.{ltb-true, ltb-false}
use mathlib.Core.Path.{sym, ap, ◌∙◌}
use mir.Syntax.{w32}
use mir.ValLaws.{to_z-of_z}
use native.Mathlib.Omega.{arith}
use Prim.Native.Nat.{suc, ◌<◌}
use Rattle.std.proofs.Common.{rules}
use Rattle.sheet.specs.Sheet.{line_of}
use Rattle.sheet.proofs.Kept.{headed-of}
use Rattle.sheet_walk.specs.declared.Walk.{Walk}
use Rattle.sheet_walk.proofs.Walks.{further-stretch}
use Rattle.sheet_walk.proofs.Steps.{Spans, begins, more, goes_on, numbered, arrived, all-steps}
use Rattle.sheet_walk.proofs.least.Goals as goal
use Rattle.sheet_walk.proofs.least.Goals.{In-loop-first, Start}

spans : (c : Start) → Spans (line_of c.args.s.bytes.now) c.args.first.0 c.args.last.0
spans c = record { kept = (headed-of _ c.args.s.accepted).1; order = c.requires.0; on = c.requires.1 }

-- a step is left
left : (c : In-loop-first) → c.args.first.0 < (line_of c.args.s.bytes.now).start c.loop-first.walk.stretch
left c = ltb-true _ _ (sym c.ahead_of.ensures ∙ c.loop-first-test.true)

pub loop-first-init : goal.loop-first-init
loop-first-init c = rw c.begin-walk.ensures (0, begins (spans (goal.at.loop-first-init c).Start))

pub ahead_of-requires : goal.ahead_of-requires
ahead_of-requires c = numbered (spans (goal.at.ahead_of-requires c).Start) c.loop-first.invariant.1

pub onward-walk-requires : goal.onward-walk-requires
onward-walk-requires c =
    let a = spans (goal.at.onward-walk-requires c).Start in
    let u = c.loop-first.invariant.1 in
    let m = more a u (left (goal.at.onward-walk-requires c).In-loop-first) in
    (omega arith, numbered a u)

pub loop-first-smaller : goal.loop-first-smaller
loop-first-smaller c =
    let m = more (spans (goal.at.loop-first-smaller c).Start) c.loop-first.invariant.1 (left (goal.at.loop-first-smaller c).In-loop-first) in
    omega (arith, ap (λ (w : Walk). w.stretch) c.onward-walk.ensures ∙ further-stretch (line_of c.args.s.bytes.now) c.loop-first.walk)

pub loop-first-preserved : goal.loop-first-preserved
loop-first-preserved c =
    let (n, u) = c.loop-first.invariant in
    (suc n, rw c.onward-walk.ensures (goes_on (spans (goal.at.loop-first-preserved c).Start) u (left (goal.at.loop-first-preserved c).In-loop-first)))

pub returns : goal.returns
returns c =
    let a = spans (goal.at.returns c).Start in
    let u = c.loop-first.invariant.1 in
    let t = ltb-false _ _ (sym c.ahead_of.ensures ∙ c.loop-first-test.false) in
    rw (c.gradient_of.ensures, to_z-of_z w32 c.loop-first.walk.least (search rules)) (all-steps a u (arrived a u t))
