-- `step_back`: so many steps, or the end where the stretch that holds the first point comes sooner.
use borrow.Author.Tests.{ltb-true, ltb-false}
use mathlib.Core.Path.{◌≡◌, sym, ◌∙◌}
use native.Mathlib.Numerals.{add-one}
use native.Mathlib.Omega.{arith}
use Prim.Native.Nat.{◌<◌}
use Rattle.sheet.specs.Sheet.{line_of}
use Rattle.sheet.proofs.Kept.{headed-of}
use Rattle.sheet_walk.proofs.Steps.{Spans, begins, more, goes_on, numbered, answered, past_all, steps-hold}
use Rattle.sheet_walk.proofs.step_back.Goals as goal
use Rattle.sheet_walk.proofs.step_back.Goals.{Else-not-ahead_of, Start}

spans : (c : Start) → Spans (line_of c.args.s.bytes.now) c.args.first.0 c.args.last.0
spans c = record { kept = (headed-of _ c.args.s.accepted).1; order = c.requires.0; on = c.requires.1 }

-- a step is left
left : (c : Else-not-ahead_of) → c.args.first.0 < (line_of c.args.s.bytes.now).start c.loop.walk.stretch
left c = ltb-true _ _ (sym c.ahead_of.ensures ∙ c.if-not-ahead_of.false)

pub loop-init : goal.loop-init
loop-init c = rw c.begin-walk.ensures (begins (spans (goal.at.loop-init c).Start))

pub ahead_of-requires : goal.ahead_of-requires
ahead_of-requires c = numbered (spans (goal.at.ahead_of-requires c).Start) c.loop.invariant

pub returns-then-not-ahead_of : goal.returns-then-not-ahead_of
returns-then-not-ahead_of c =
    let a = spans (goal.at.returns-then-not-ahead_of c).Start in
    let t = ltb-false _ _ (sym c.ahead_of.ensures ∙ c.if-not-ahead_of.true) in
    let e = c.at_the_end.ensures ∙ past_all a c.loop.invariant c.args.step c.loop-test.true t in
    (e, steps-hold _ a _ _ e)

pub onward-walk-requires : goal.onward-walk-requires
onward-walk-requires c =
    let a = spans (goal.at.onward-walk-requires c).Start in
    let m = more a c.loop.invariant (left (goal.at.onward-walk-requires c).Else-not-ahead_of) in
    (omega arith, numbered a c.loop.invariant)

pub loop-preserved : goal.loop-preserved
loop-preserved c = rw (c.onward-walk.ensures, add-one c.loop.counter) (goes_on (spans (goal.at.loop-preserved c).Start) c.loop.invariant (left (goal.at.loop-preserved c).Else-not-ahead_of))

pub returns : goal.returns
returns c =
    let a = spans (goal.at.returns c).Start in
    let n : c.loop.counter ≡ c.args.step = omega (arith, c.loop-test.false, c.loop.auto.counter-end) in
    let e = c.shown.ensures ∙ answered a c.loop.invariant c.args.step n in
    (e, steps-hold _ a _ _ e)
