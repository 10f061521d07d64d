-- `read_signal`: what the opened sheet says, else refusal 7.
use Rattle.sheet_lookup.proofs.Answers.{signal-answers, no-signal}
use Rattle.sheet_lookup.proofs.read_signal.Goals as goal

pub returns-in-Ok : goal.returns-in-Ok
returns-in-Ok c = rw (← c.in-Ok.ensures.ok.0) (signal-answers _ _ _ c.signal_of.ensures (record { again = λ e. rw c.in-Ok.ensures.ok.0 c.in-Ok.ensures.ok.1 }))

pub returns-in-Err : goal.returns-in-Err
returns-in-Err c = rw (c.from.ensures, c.in-Err.ensures.err.0) (no-signal _ _ c.in-Err.ensures.err.1)
