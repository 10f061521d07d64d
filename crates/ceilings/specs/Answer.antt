-- Document 01, "Ceilings" and "What is turned away": what the call promises.
use Rattle.std.specs.Prelude.{◌≡◌, [], ◌∷◌, ◌≤◌}
use Rattle.train.specs.declared.Kmh.{Kmh}
use Rattle.train.specs.Judged.{◌keeps◌, Judged}
use Rattle.train.specs.Lent.{NoneLent}
use Rattle.ceilings.specs.declared.Limits.{Limits}
use Rattle.ceilings.specs.Ceilings.{limits_of}
use Rattle.ceilings.specs.Paper.{AsPrinted}

-- the answer by definition, the paper's ceilings of every speed that is not refused, the first demand, and what is turned away
pub record CeilingAnswers (v : Kmh) (r : Limits) : Type 0 where
  pub answer : r ≡ limits_of v
  pub printed : r.refusal ≡ 0 → AsPrinted v r
  pub lent : NoneLent r.refusal (r.w.0 ∷ r.sbi.0 ∷ r.ebi.0 ∷ [])
  pub spans : Judged (3 keeps (v.0 ≤ 330) ∷ []) r.refusal
