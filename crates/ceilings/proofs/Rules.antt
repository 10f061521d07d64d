-- By what a refusal and three ceilings are shown to be the answer.
use Rattle.ceilings.proofs.Answers.{ceilings-refused, ceilings-given}

pub ruleset answers = (ceilings-refused, ceilings-given)
