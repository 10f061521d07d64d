-- `start`: the coefficients are looked at behind the train and the times.
use mathlib.Core.Path.{◌≡◌}
use native.Mathlib.Omega.{arith}
use Rattle.std.proofs.Common.{rules, Err}
use Rattle.std.proofs.lemmas.Grind.{common_steps}
use Rattle.train.proofs.Numbered.{numbered}
use Rattle.query.proofs.start.Goals as goal

pub returns-in_err-of_coefficients : goal.returns-in_err-of_coefficients
returns-in_err-of_coefficients c =
    let r = c.in_err-of_coefficients.field-0.0 in
    let e : c.from_residual-in_err-of_coefficients.result ≡ Err r = search rules in
    rw e (numbered r, grind (arith, common_steps))
