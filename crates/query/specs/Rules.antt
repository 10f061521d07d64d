-- Document 01, "What is turned away", with document 02, Card 5, of the query, in words of its own.
use Rattle.std.specs.Prelude.{List, [], ◌∷◌, ◌++◌, ◌⊎◌, ℕ, ◌<◌}
use Rattle.exact.specs.Fraction.{◌over◌, ◌<q◌}
use Rattle.train.specs.declared.Train.{Train}
use Rattle.train.specs.declared.Coefficients.{Coefficients}
use Rattle.train.specs.Judged.{Rule, train_rules, coefficient_rule}
use Rattle.ramp.specs.Answer.{times_rule}
use Rattle.sheet.specs.Sheet.{line_of}
use Rattle.query_way.specs.declared.Way.{Way}
use Rattle.query_way.specs.declared.Governing.{Governing}
use Rattle.query_way.specs.Way.{way_rules, Leads}
use Rattle.query.specs.Demand.{braking_past, Weak, Creeps, Enough}

-- something is so of the train's way to the signal and past it, which these stretches govern
abbrev pub On : Train → List ℕ → ℕ → ℕ → Governing → (Way → Type 0) → Type 0
On t s signal head n P = (w : Way) × (Leads (line_of s) signal head t.length.0 w n × P w)

module _ (k : Coefficients) (t : Train) (tm tr : ℕ) where
  -- some release speed at which the brake has enough; the answer's own stands in the third demand
  abbrev pub Strong : Way → Type 0
  Strong w = (v0 : ℕ) × (Creeps k t tm tr w v0 × Enough k t tm tr w v0)

  -- less than 0.05 m/s² in one of the two
  abbrev pub TooWeak : Way → Type 0
  TooWeak w = ((0 < w.overlap.0) × (braking_past k t tm tr w <q (5 over 100))) ⊎ ((v0 : ℕ) × (Creeps k t tm tr w v0 × Weak k t tm tr w v0 v0))

  module _ (s : List ℕ) (signal head : ℕ) where
    -- 1, 2, 3, 6, 12, 7, 8, 9
    abbrev pub input_rules : List Rule
    input_rules = train_rules t ++ (times_rule tm tr ∷ coefficient_rule k ∷ way_rules s signal head)

    abbrev pub brake_rules : List Rule
    brake_rules = record { number = 10; kept = (n : Governing) × On t s signal head n Strong; broken = (n : Governing) × On t s signal head n TooWeak } ∷ []

    abbrev pub query_rules : List Rule
    query_rules = input_rules ++ brake_rules
