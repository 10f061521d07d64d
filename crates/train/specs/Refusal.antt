-- Document 01, "What is turned away", with document 02: the first condition that holds gives the number, 0 if none does. Each list goes
-- by the one order of the numbers.
use Rattle.std.specs.Prelude.{Bool, true, cond, List, [], ◌∷◌, ◌++◌, ℕ, zero, suc, ◌%◌, ltb, eqb}
use Rattle.exact.specs.Fraction.{Fraction, ◌over◌, leq}
use Rattle.train.specs.declared.Train.{Train}
use Rattle.train.specs.declared.Gradient.{Gradient}
use Rattle.train.specs.declared.Inertia.{Inertia}
use Rattle.train.specs.declared.Coefficients.{Coefficients}

pub record Refusal : Type 0 where
  pub holds : Bool
  pub number : ℕ

infix 80 ◌gives◌
abbrev pub ◌gives◌ : Bool → ℕ → Refusal
b gives n = record { holds = b; number = n }

abbrev pub first_of : List Refusal → ℕ
first_of [] = 0
first_of (c ∷ cs) = cond c.holds c.number (first_of cs)

-- lowest number first, but where a card of document 02 decides otherwise: 16 before all, 12 before 7, 13 before 8, 14 before 10
abbrev pub order : List ℕ
order = 16 ∷ 1 ∷ 2 ∷ 3 ∷ 4 ∷ 5 ∷ 6 ∷ 12 ∷ 7 ∷ 13 ∷ 8 ∷ 9 ∷ 14 ∷ 10 ∷ 11 ∷ 15 ∷ []

-- a number's place in a list, from 1 on; 0 where it is not there
abbrev further : ℕ → ℕ
further zero = 0
further (suc n) = suc (suc n)

abbrev pub place_in : List ℕ → ℕ → ℕ
place_in [] n = 0
place_in (m ∷ ms) n = cond (eqb n m) 1 (further (place_in ms n))

abbrev pub rank : ℕ → ℕ
rank = place_in order

-- 45 to 160, steps of 5
abbrev pub weight_refusals : ℕ → List Refusal
weight_refusals w = ltb w 45 gives 1 ∷ ltb 160 w gives 1 ∷ ltb 0 (w % 5) gives 1 ∷ []

-- 0 to 1,000 m
abbrev pub length_refusals : ℕ → List Refusal
length_refusals length = ltb 1000 length gives 2 ∷ []

-- a length, and a top speed of 1 to 330
abbrev pub length_and_top_refusals : Train → List Refusal
length_and_top_refusals t = length_refusals t.length.0 ++ (ltb t.top.0 1 gives 3 ∷ ltb 330 t.top.0 gives 3 ∷ [])

abbrev pub train_refusals : Train → List Refusal
train_refusals t = weight_refusals t.weight ++ length_and_top_refusals t

-- -35 to 35
abbrev pub gradient_refusals : Gradient → List Refusal
gradient_refusals g = ltb 35 g.rise gives 5 ∷ ltb 35 g.fall gives 5 ∷ []

-- outside a span, whose both ends are in it
abbrev pub outside_of : ℕ → ℕ → ℕ → Bool
outside_of least most n = cond (ltb n least) true (ltb most n)

-- Card 5, document 002's spans: Ki of 0.80 to 1.20, i1 of 0 to 35, i2 of -35 to 0
abbrev pub inertia_refusals : Inertia → List Refusal
inertia_refusals k =
    outside_of 80 120 k.ki1 gives 12
    ∷ outside_of 80 120 k.ki2 gives 12
    ∷ outside_of 80 120 k.ki3 gives 12
    ∷ ltb 35 k.i1 gives 12
    ∷ ltb 0 k.i2.rise gives 12
    ∷ ltb 35 k.i2.fall gives 12
    ∷ []

-- Dt of 0.00 to 2.00, h of 0.0 to 5.0, Kr of 0.30 to 1.50, cr of 0.00 to 0.10, nC of -0.010 to 0.010, VC of 0 to 400, steps of 5
abbrev pub own_refusals : Coefficients → List Refusal
own_refusals k =
    ltb 200 k.dt gives 12
    ∷ ltb 50 k.h gives 12
    ∷ outside_of 30 150 k.kr gives 12
    ∷ ltb 10 k.cr gives 12
    ∷ ltb 10 k.nc.plus gives 12
    ∷ ltb 10 k.nc.minus gives 12
    ∷ ltb 400 k.vc.0 gives 12
    ∷ ltb 0 (k.vc.0 % 5) gives 12
    ∷ []

abbrev pub coefficient_refusals : Coefficients → List Refusal
coefficient_refusals k = own_refusals k ++ inertia_refusals k.inertia

-- dp + di of 0.05 m/s² or more; less is refusal 10
abbrev pub strong_enough : Fraction → Bool
strong_enough deceleration = leq (5 over 100) deceleration
