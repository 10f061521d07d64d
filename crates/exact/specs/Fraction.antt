-- Fractions of either sign, in which the papers' formulas stand as they are printed.
use Rattle.std.specs.Prelude.{Bool, cond, ◌≡◌, ℕ, ◌+◌, ◌*◌, ◌-◌, ◌/◌, ◌≤◌, ◌<◌, leb}

-- (plus - minus) / over, not reduced. It stands for a number where `over` is above 0.
pub record Fraction : Type 0 where
  pub plus : ℕ
  pub minus : ℕ
  pub over : ℕ

infix 80 ◌over◌
infixl 70 ◌*q◌ ◌/q◌
infixl 60 ◌+q◌ ◌-q◌
infix 40 ◌≤q◌ ◌<q◌ ◌≈q◌
abbrev pub whole : ℕ → Fraction
whole n = record { plus = n; minus = 0; over = 1 }

abbrev pub ◌over◌ : ℕ → ℕ → Fraction
n over d = record { plus = n; minus = 0; over = d }

-- (p - m) / d
abbrev pub signed : ℕ → ℕ → ℕ → Fraction
signed p m d = record { plus = p; minus = m; over = d }

abbrev pub ◌+q◌ : Fraction → Fraction → Fraction
a +q b = record { plus = a.plus * b.over + b.plus * a.over; minus = a.minus * b.over + b.minus * a.over; over = a.over * b.over }

abbrev pub ◌-q◌ : Fraction → Fraction → Fraction
a -q b = a +q record { plus = b.minus; minus = b.plus; over = b.over }

abbrev pub ◌*q◌ : Fraction → Fraction → Fraction
a *q b = record { plus = a.plus * b.plus + a.minus * b.minus; minus = a.plus * b.minus + a.minus * b.plus; over = a.over * b.over }

-- a / b where b is above 0. Elsewhere `over` comes out 0, which stands for no number: no law says what it is worth, and nothing rests on it.
abbrev pub ◌/q◌ : Fraction → Fraction → Fraction
a /q b = record { plus = a.plus * b.over; minus = a.minus * b.over; over = a.over * (b.plus - b.minus) }

-- Order and equality go by cross-multiplication, what is taken away put on the other side:
-- (p - m) / d is at most (p' - m') / d' where p d' + m' d is at most p' d + m d'.
abbrev pub cross : Fraction → Fraction → ℕ
cross a b = a.plus * b.over + b.minus * a.over

abbrev pub ◌≤q◌ : Fraction → Fraction → Type 0
a ≤q b = cross a b ≤ cross b a

abbrev pub ◌<q◌ : Fraction → Fraction → Type 0
a <q b = cross a b < cross b a

-- two fractions that stand for one number
pub record ◌≈q◌ (a b : Fraction) : Type 0 where
  pub left : 0 < a.over
  pub right : 0 < b.over
  pub equal : cross a b ≡ cross b a

-- the test of a ≤q b
abbrev pub leq : Fraction → Fraction → Bool
leq a b = leb (cross a b) (cross b a)

abbrev pub maxq : Fraction → Fraction → Fraction
maxq a b = cond (leq a b) b a

-- q is the least whole number not below a, which is a number
pub record Least (a : Fraction) (q : ℕ) : Type 0 where
  pub number : 0 < a.over
  pub enough : a ≤q whole q
  pub least : (n : ℕ) → a ≤q whole n → q ≤ n

-- That number, for a over more than 0 (raised-least and least-raised of proofs/Raised.antt); 0 where a is below 0.
unfoldable pub raised : Fraction → ℕ
raised a = (a.plus - a.minus + (a.over - 1)) / a.over
