-- Fractions of polynomials, by which an equality of fractions is shown by computation.
use mathlib.Core.Path.{◌≡◌}
use mathlib.Core.List.{List, [], ◌∷◌}
use lib.ListN.{length}
use Prim.Native.Nat.{ℕ, ◌<◌}
use Rattle.exact.specs.Fraction.{Fraction, ◌≈q◌}
use Rattle.exact.proofs.Polynomial.{Expr, num, ◌⊕◌, ◌⊗◌, eval, normal}
use Rattle.exact.proofs.Certificate.{x0, x1, x2, x3, x4, x5, x6, x7, x8, x9, x10, x11, Facts, left, right, equal}

pub record Shape : Type 0 where
  pub plus : Expr
  pub minus : Expr
  pub over : Expr

infixl 60 ◌+e◌ ◌-e◌
infixl 70 ◌*e◌
abbrev pub shape : Expr → Expr → Expr → Shape
shape p m d = record { plus = p; minus = m; over = d }

abbrev pub whole_e : Expr → Shape
whole_e n = shape n (num 0) (num 1)

abbrev pub over_e : Expr → ℕ → Shape
over_e n d = shape n (num 0) (num d)

abbrev pub ◌+e◌ : Shape → Shape → Shape
a +e b = shape (a.plus ⊗ b.over ⊕ b.plus ⊗ a.over) (a.minus ⊗ b.over ⊕ b.minus ⊗ a.over) (a.over ⊗ b.over)

abbrev pub ◌-e◌ : Shape → Shape → Shape
a -e b = a +e shape b.minus b.plus b.over

abbrev pub ◌*e◌ : Shape → Shape → Shape
a *e b = shape (a.plus ⊗ b.plus ⊕ a.minus ⊗ b.minus) (a.plus ⊗ b.minus ⊕ a.minus ⊗ b.plus) (a.over ⊗ b.over)

abbrev pub cross_e : Shape → Shape → Expr
cross_e f g = f.plus ⊗ g.over ⊕ g.minus ⊗ f.over

-- its value, as a fraction; so at ρ (f +e g) is at ρ f +q at ρ g, and likewise for the others
abbrev pub at : List ℕ → Shape → Fraction
at ρ f = record { plus = eval ρ f.plus; minus = eval ρ f.minus; over = eval ρ f.over }

-- an equality of two shapes, from equations
pub alike : (ρ : List ℕ) (q : Facts ◌≡◌ ρ) (f g : Shape) → 0 < eval ρ f.over → 0 < eval ρ g.over → normal (length ρ) (cross_e f g ⊕ right q) ≡ normal (length ρ) (cross_e g f ⊕ left q) → at ρ f ≈q at ρ g
alike ρ q f g l m h = record { left = l; right = m; equal = equal ρ q (cross_e f g) (cross_e g f) h }

-- four fractions as unknowns: A is a at env a b c d, and so on
abbrev pub A : Shape
A = shape x0 x1 x2

abbrev pub B : Shape
B = shape x3 x4 x5

abbrev pub C : Shape
C = shape x6 x7 x8

abbrev pub D : Shape
D = shape x9 x10 x11

abbrev pub env : Fraction → Fraction → Fraction → Fraction → List ℕ
env a b c d = a.plus ∷ a.minus ∷ a.over ∷ b.plus ∷ b.minus ∷ b.over ∷ c.plus ∷ c.minus ∷ c.over ∷ d.plus ∷ d.minus ∷ d.over ∷ []
