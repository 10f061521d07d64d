-- `speed`: no overlap, or too weak along it, or the climb.
use mathlib.Core.Path.{◌≡◌, sym, ◌∙◌}
use native.Mathlib.Omega.{arith}
use Rattle.std.proofs.Common.{rules, Err}
use Rattle.ramp.specs.Begin.{IsReady, Starts}
use Rattle.ramp.specs.Answer.{at_speed}
use Rattle.query_release.proofs.Past.{no-overlap, release-is, strong-past, weak-past, found-weak, found-speed}
use Rattle.query_release.proofs.speed.Goals as goal

pub returns-then-overlap-lt1 : goal.returns-then-overlap-lt1
returns-then-overlap-lt1 c =
    let a = c.args in
    let (e, h) = no-overlap a.k a.o a.overlap a.top (omega (arith, c.if-overlap-lt1.true)) in
    found-speed a.k a.o a.overlap a.top _ e h

pub returns-in_err-m : goal.returns-in_err-m
returns-in_err-m c =
    let a = c.args in
    let r = c.in_err-m.field-0.0 in
    let e : c.from_residual.result ≡ Err r = search rules in
    let s : Starts a.k (at_speed a.o 1) (Err r) = search rules in
    let (w, ten) = weak-past a.k a.o a.overlap c.if-overlap-lt1.false c.requires (omega (arith, s.0, s.1)) in
    rw e (found-weak a.k a.o a.overlap a.top r w (sym s.1 ∙ ten))

pub returns : goal.returns
returns c =
    let r : IsReady c.args.k (at_speed c.args.o 1) c.in_ok-m.m = search rules in
    let a = c.args in
    let h = c.if-overlap-lt1.false in
    found-speed a.k a.o a.overlap a.top _ (strong-past a.k a.o a.overlap h r.accepted)
    (c.last_stopping.ensures a.k (at_speed a.o 1) r.plan ∙ release-is a.k a.o a.overlap h a.top)
