-- Both ways agree: of every number, what is worked out and what is looked up are one answer.
use mathlib.Core.Path.{◌≡◌, sym, ◌∙◌}
use Prim.Native.Nat.{ℕ}
use Rattle.train.specs.Units.{kmh}
use Rattle.ceilings.specs.declared.Limits.{Limits}
use Rattle.ceilings.specs.Answer.{CeilingAnswers}

pub both-agree : (permitted : ℕ) (worked stored : Limits) → CeilingAnswers (kmh permitted) worked → CeilingAnswers (kmh permitted) stored → worked ≡ stored
both-agree permitted worked stored a b = a.answer ∙ sym b.answer
