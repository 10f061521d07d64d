-- `turned_away`: what the train is refused by comes before the other conditions.
use mathlib.Core.Path.{◌≡◌}
use mathlib.Core.List.{◌++◌}
use native.Mathlib.Omega.{arith}
use Rattle.std.specs.Prelude.{Err}
use Rattle.train.specs.Refusal.{train_refusals, gradient_refusals, coefficient_refusals}
use Rattle.step.specs.Answer.{speed_refusals}
use Rattle.step.proofs.Judged.{before_others}
use Rattle.step.proofs.turned_away.Goals as goal

pub returns-in_err-of_train : goal.returns-in_err-of_train
returns-in_err-of_train c =
    let a = c.args in
    let e : c.from_residual.result ≡ Err c.in_err-of_train.field-0.0 = grind arith in
    rw e (before_others _ (train_refusals a.train) (speed_refusals a.v a.v0 ++ (gradient_refusals a.g ++ coefficient_refusals a.k)) c.in_err-of_train.ensures.0)
