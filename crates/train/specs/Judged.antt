-- Document 01, "What is turned away", in words of its own: what the inputs of an accepted call keep, and what a refused one's break.
use Rattle.std.specs.Prelude.{◌≡◌, List, [], ◌∷◌, ◌⊎◌, ℕ, ◌*◌, ◌≤◌, ◌<◌}
use Rattle.exact.specs.Fraction.{Fraction, ◌over◌, ◌≤q◌, ◌<q◌}
use Rattle.train.specs.declared.Train.{Train}
use Rattle.train.specs.declared.Gradient.{Gradient}
use Rattle.train.specs.declared.Inertia.{Inertia}
use Rattle.train.specs.declared.Coefficients.{Coefficients}
use Rattle.train.specs.Gradient.{Moderate}
use Rattle.train.specs.Coefficients.{InertiaWithin, Within}

-- a refusal's number, what is kept where it is not given, and what is so where it is
pub record Rule : Type 1 where
  pub number : ℕ
  pub kept : Type 0
  pub broken : Type 0

infix 80 ◌keeps◌
abbrev pub ◌keeps◌ : ℕ → Type 0 → Rule
n keeps P = record { number = n; kept = P; broken = P → ⊥ }

abbrev pub AllKept : List Rule → Type 0
AllKept [] = Unit
AllKept (r ∷ rs) = r.kept × AllKept rs

-- the rule of that number is broken, and those before it are kept
abbrev pub FirstBroken : ℕ → List Rule → Type 0
FirstBroken n [] = ⊥
FirstBroken n (r ∷ rs) = ((n ≡ r.number) × r.broken) ⊎ (r.kept × FirstBroken n rs)

-- an operation's rules, in the order in which they are looked at
pub record Judged (rules : List Rule) (refusal : ℕ) : Type 0 where
  pub accepted : refusal ≡ 0 → AllKept rules
  pub refused : 0 < refusal → FirstBroken refusal rules

-- 45 to 160 by fives
abbrev pub weight_rule : ℕ → Rule
weight_rule w = 1 keeps ((45 ≤ w) × ((w ≤ 160) × ((n : ℕ) × (w ≡ 5 * n))))

-- 0 to 1,000 m
abbrev pub length_rule : ℕ → Rule
length_rule length = 2 keeps (length ≤ 1000)

-- 1 to 330 km/h
abbrev pub TopSpeed : Train → Type 0
TopSpeed t = (1 ≤ t.top.0) × (t.top.0 ≤ 330)

abbrev pub train_rules : Train → List Rule
train_rules t = weight_rule t.weight ∷ length_rule t.length.0 ∷ 3 keeps TopSpeed t ∷ []

abbrev pub gradient_rule : Gradient → Rule
gradient_rule g = 5 keeps Moderate g

-- document 02, Card 5: each coefficient within its span and step
abbrev pub inertia_rule : Inertia → Rule
inertia_rule k = 12 keeps InertiaWithin k

abbrev pub coefficient_rule : Coefficients → Rule
coefficient_rule k = 12 keeps Within k

-- dp + di of 0.05 m/s² or more; less is refusal 10
abbrev pub brake_rule : Fraction → Rule
brake_rule deceleration = record { number = 10; kept = (5 over 100) ≤q deceleration; broken = deceleration <q (5 over 100) }
