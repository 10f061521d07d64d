-- Document 02, Cards 3 and 4: what a step of the walk from a signal towards a train's tail answers, and what it promises.
use Rattle.std.specs.Prelude.{◌≡◌, cond, List, [], ◌∷◌, ◌++◌, ℕ, eqb, pos, Result, Ok, Err}
use Rattle.train.specs.Gradient.{gradient_of}
use Rattle.train.specs.Refusal.{Refusal, first_of, length_refusals}
use Rattle.train.specs.declared.refusal.Refusal.{Refusal as Refused}
use Rattle.train.specs.Number.{number}
use Rattle.train.specs.Judged.{Rule, Judged, length_rule}
use Rattle.train.specs.Lent.{FirstDemand}
use Rattle.sheet.specs.Sheet.{line_of}
use Rattle.sheet_walk.specs.declared.Back.{Back}
use Rattle.sheet_walk.specs.Back.{back_on, Steps}
use Rattle.query_way.specs.Way.{way_refusals, way_rules, tail_of, Behind}

-- a refusal, with zeros
abbrev pub refused : ℕ → Back
refused n = record { refusal = n; end = 0; stretch = 0; gradient = pos 0; least = pos 0; least_stretch = 0 }

-- a step or a refusal, as the record that C reads
abbrev pub as_read : Result Back Refused → Back
as_read (Ok r) = r
as_read (Err e) = refused (number e)

module _ (s : List ℕ) (signal head length : ℕ) where
  -- 2, 7, 8, 9
  abbrev pub back_refusals : List Refusal
  back_refusals = length_refusals length ++ way_refusals s signal head

  -- the same in words of its own
  abbrev pub back_rules : List Rule
  back_rules = length_rule length ∷ way_rules s signal head

  -- step n, from 0, of the walk from the signal to the train's tail
  unfoldable pub back_of : ℕ → Back
  back_of n =
      let refusal = first_of back_refusals in
      cond (eqb refusal 0) (back_on (line_of s) (tail_of head length) ((line_of s).place signal) n) (refused refusal)

  -- what a step promises: its answer, the first demand, what is turned away, and that it is a step from the signal to where the tail is
  pub record BackAnswers (n : ℕ) (r : Back) (after : List ℕ) : Type 0 where
    pub answer : r ≡ back_of n
    pub lent : FirstDemand r.refusal (r.end ∷ r.stretch ∷ (gradient_of r.gradient).rise ∷ (gradient_of r.gradient).fall ∷ (gradient_of r.least).rise ∷ (gradient_of r.least).fall ∷ r.least_stretch ∷ []) s after 0
    pub spans : Judged back_rules r.refusal
    pub steps : r.refusal ≡ 0 → (tail : ℕ) × (Behind head length tail × Steps s tail ((line_of s).place signal) n r)
