-- Polynomial identities, equations and inequalities over the native numbers, shown by computation: `ring`, `equal` and `cert`.
use mathlib.Core.Path.{◌≡◌, refl, sym, ap, ap₂, ◌∙◌}
use mathlib.Core.List.{List, [], ◌∷◌}
use lib.ListN.{length}
use Prim.Native.Nat.{ℕ, zero, suc, ◌+◌, ◌*◌, ◌-◌, ◌≤◌}
use native.Mathlib.Omega.{arith}
use native.Mathlib.Nat.{le_refl, add-le-add, mul-le-mul_left}
use Rattle.exact.proofs.Polynomial.{Expr, var, num, ◌⊕◌, ◌⊗◌, eval, Poly, add, normal, value, add_is, normal-is}

abbrev pub x0 : Expr
x0 = var 0

abbrev pub x1 : Expr
x1 = var 1

abbrev pub x2 : Expr
x2 = var 2

abbrev pub x3 : Expr
x3 = var 3

abbrev pub x4 : Expr
x4 = var 4

abbrev pub x5 : Expr
x5 = var 5

abbrev pub x6 : Expr
x6 = var 6

abbrev pub x7 : Expr
x7 = var 7

abbrev pub x8 : Expr
x8 = var 8

abbrev pub x9 : Expr
x9 = var 9

abbrev pub x10 : Expr
x10 = var 10

abbrev pub x11 : Expr
x11 = var 11

abbrev pub x12 : Expr
x12 = var 12

-- an identity: both sides have one normal form
pub ring : (ρ : List ℕ) (a b : Expr) → normal (length ρ) a ≡ normal (length ρ) b → eval ρ a ≡ eval ρ b
ring ρ a b h = sym (normal-is ρ a) ∙ (ap (value ρ) h ∙ normal-is ρ b)

-- known facts l R r, R being ≡ or ≤, each with the factor that it is used with
pub data Facts (R : ℕ → ℕ → Type 0) (ρ : List ℕ) : Type 0 where
  done : Facts R ρ
  times : (e l r : Expr) → R (eval ρ l) (eval ρ r) → Facts R ρ → Facts R ρ

-- the sums of their left sides and of their right sides
abbrev pub left : {R : ℕ → ℕ → Type 0} {ρ : List ℕ} → Facts R ρ → Expr
left done = num 0
left (times e l r h f) = e ⊗ l ⊕ left f

abbrev pub right : {R : ℕ → ℕ → Type 0} {ρ : List ℕ} → Facts R ρ → Expr
right done = num 0
right (times e l r h f) = e ⊗ r ⊕ right f

facts-equal : {ρ : List ℕ} (f : Facts ◌≡◌ ρ) → eval ρ (left f) ≡ eval ρ (right f)
facts-equal done = refl
facts-equal {ρ} (times e l r h f) = ap₂ (λ (x y : ℕ). eval ρ e * x + y) h (facts-equal f)

facts-le : {ρ : List ℕ} (f : Facts ◌≤◌ ρ) → eval ρ (left f) ≤ eval ρ (right f)
facts-le done = le_refl 0
facts-le {ρ} (times e l r h f) = add-le-add (mul-le-mul_left (eval ρ e) h) (facts-le f)

-- a ≡ b from equations: a + Σ e r and b + Σ e l have one normal form
pub equal : (ρ : List ℕ) (f : Facts ◌≡◌ ρ) (a b : Expr) → normal (length ρ) (a ⊕ right f) ≡ normal (length ρ) (b ⊕ left f) → eval ρ a ≡ eval ρ b
equal ρ f a b h =
    let s : eval ρ a + eval ρ (right f) ≡ eval ρ b + eval ρ (left f) = ring ρ (a ⊕ right f) (b ⊕ left f) h in
    let k : eval ρ (left f) ≡ eval ρ (right f) = facts-equal f in
    omega arith

-- what is left of q when p is taken from it, coefficient by coefficient: a guess, right where p added to it gives q again
abbrev taken : {A : Type 0} → (A → A → A) → List A → List A → List A
taken f [] p = []
taken f (b ∷ q) [] = b ∷ q
taken f (b ∷ q) (a ∷ p) = f b a ∷ taken f q p

abbrev less : (n : ℕ) → Poly n → Poly n → Poly n
less zero b a = b - a
less (suc n) q p = taken (less n) q p

abbrev pub Covers : (n : ℕ) → Poly n → Poly n → Type 0
Covers n p q = add n p (less n q p) ≡ q

-- a ≤ b from inequalities: b + Σ e l is a + Σ e r and more
pub cert : (ρ : List ℕ) (f : Facts ◌≤◌ ρ) (a b : Expr) → Covers (length ρ) (normal (length ρ) (a ⊕ right f)) (normal (length ρ) (b ⊕ left f)) → eval ρ a ≤ eval ρ b
cert ρ f a b h =
    let p : Poly (length ρ) = normal (length ρ) (a ⊕ right f) in
    let q : Poly (length ρ) = normal (length ρ) (b ⊕ left f) in
    let e : value ρ p + value ρ (less (length ρ) q p) ≡ value ρ q = sym (add_is ρ p (less (length ρ) q p)) ∙ ap (value ρ) h in
    let s : value ρ p ≡ eval ρ a + eval ρ (right f) = normal-is ρ (a ⊕ right f) in
    let t : value ρ q ≡ eval ρ b + eval ρ (left f) = normal-is ρ (b ⊕ left f) in
    let k : eval ρ (left f) ≤ eval ρ (right f) = facts-le f in
    omega arith

-- How they are used: the unknowns, what is known with its factors, the two sides, and `refl`.
square-of-sum : (a b : ℕ) → (a + b) * (a + b) ≡ a * a + 2 * a * b + b * b
square-of-sum a b = ring (a ∷ b ∷ []) ((x0 ⊕ x1) ⊗ (x0 ⊕ x1)) (x0 ⊗ x0 ⊕ num 2 ⊗ x0 ⊗ x1 ⊕ x1 ⊗ x1) refl

-- a difference of squares, without subtraction
squares-apart : (a b d : ℕ) → a ≡ b + d → a * a ≡ b * b + d * (a + b)
squares-apart a b d h = equal (a ∷ b ∷ d ∷ []) (times (x0 ⊕ x1) x0 (x1 ⊕ x2) h done) (x0 ⊗ x0) (x1 ⊗ x1 ⊕ x2 ⊗ (x0 ⊕ x1)) refl

-- squares rise with their roots
squares-rise : (a b : ℕ) → a ≤ b → a * a ≤ b * b
squares-rise a b h = cert (a ∷ b ∷ []) (times (x0 ⊕ x1) x0 x1 h done) (x0 ⊗ x0) (x1 ⊗ x1) refl

-- a bound on a product from bounds on its factors
rectangle : (a b c d : ℕ) → a ≤ c → b ≤ d → a * b ≤ c * d
rectangle a b c d h k = cert (a ∷ b ∷ c ∷ d ∷ []) (times x1 x0 x2 h (times x2 x1 x3 k done)) (x0 ⊗ x1) (x2 ⊗ x3) refl
