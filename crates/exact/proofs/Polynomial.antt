-- Polynomials in numbered unknowns: an expression has the value of its normal form, so equal normal forms mean equal values.
use mathlib.Core.Path.{◌≡◌, refl, sym, ap₂, ◌∙◌}
use mathlib.Core.List.{List, [], ◌∷◌}
use mathlib.Core.Bool.{Bool, true, false}
use Prim.Native.Nat.{ℕ, zero, suc, ◌+◌, ◌*◌}
use native.Mathlib.Omega.{arith}
use native.Mathlib.Nat.{add-zero, zero-add, zero-mul, mul-zero, mul-add, add-mul, mul_assoc, mul_left_comm}
use lib.ListN.{get_or, length}
use lib.Dec.{T, eqb, eqb→eq}

pub data Expr : Type 0 where
  var : ℕ → Expr
  num : ℕ → Expr
  ◌⊕◌ : Expr → Expr → Expr
  ◌⊗◌ : Expr → Expr → Expr

infixl 60 ◌⊕◌
infixl 70 ◌⊗◌
-- its value, the unknowns being those of ρ, from 0
abbrev pub eval : List ℕ → Expr → ℕ
eval ρ (var i) = get_or ρ i 0
eval ρ (num c) = c
eval ρ (a ⊕ b) = eval ρ a + eval ρ b
eval ρ (a ⊗ b) = eval ρ a * eval ρ b

-- A normal form in n unknowns: the coefficients of the powers of the first, from the lowest, each in the n - 1 others. No list ends
-- in a 0, since sums and products of numbers above 0 are above 0, so that equal polynomials come out alike; nothing proved rests on that.
abbrev pub Poly : ℕ → Type 0
Poly zero = ℕ
Poly (suc n) = List (Poly n)

abbrev none : (n : ℕ) → Poly n
none zero = 0
none (suc n) = []

abbrev constant : (n : ℕ) → ℕ → Poly n
constant zero c = c
constant (suc n) c = elim (eqb c 0) [ true ↦ [] | false ↦ constant n c ∷ [] ]

abbrev unknown : (n : ℕ) → ℕ → Poly n
unknown zero i = 0
unknown (suc n) zero = none n ∷ constant n 1 ∷ []
unknown (suc n) (suc i) = unknown n i ∷ []

abbrev is_none : (n : ℕ) → Poly n → Bool
is_none zero c = eqb c 0
is_none (suc n) [] = true
is_none (suc n) (a ∷ p) = false

-- lists of coefficients: their sum, a multiple, a shift by one power, and their product
module _ {A : Type 0} where
  abbrev both : (A → A → A) → List A → List A → List A
  both f [] q = q
  both f (a ∷ p) [] = a ∷ p
  both f (a ∷ p) (b ∷ q) = f a b ∷ both f p q

  abbrev each : (A → A) → List A → List A
  each g [] = []
  each g (b ∷ q) = g b ∷ each g q

  abbrev multiple : Bool → (A → A) → List A → List A
  multiple true g q = []
  multiple false g q = each g q

  abbrev shifted : A → List A → List A
  shifted z [] = []
  shifted z (a ∷ p) = z ∷ a ∷ p

  abbrev convolved : A → (A → Bool) → (A → A → A) → (A → A → A) → List A → List A → List A
  convolved z s f g [] q = []
  convolved z s f g (a ∷ p) q = both f (multiple (s a) (g a) q) (shifted z (convolved z s f g p q))

abbrev pub add : (n : ℕ) → Poly n → Poly n → Poly n
add zero a b = a + b
add (suc n) p q = both (add n) p q

abbrev multiply : (n : ℕ) → Poly n → Poly n → Poly n
multiply zero a b = a * b
multiply (suc n) p q = convolved (none n) (is_none n) (add n) (multiply n) p q

abbrev pub normal : (n : ℕ) → Expr → Poly n
normal n (var i) = unknown n i
normal n (num c) = constant n c
normal n (a ⊕ b) = add n (normal n a) (normal n b)
normal n (a ⊗ b) = multiply n (normal n a) (normal n b)

-- the value of a list of coefficients at x, v giving theirs
module _ {A : Type 0} (v : A → ℕ) (x : ℕ) where
  abbrev horner : List A → ℕ
  horner [] = 0
  horner (a ∷ p) = v a + x * horner p

  both_is : (f : A → A → A) → ((a b : A) → v (f a b) ≡ v a + v b) → (p q : List A) → horner (both f p q) ≡ horner p + horner q
  both_is f h [] q = sym (zero-add (horner q))
  both_is f h (a ∷ p) [] = sym (add-zero (horner (a ∷ p)))
  both_is f h (a ∷ p) (b ∷ q) =
      let e : x * (horner p + horner q) ≡ x * horner p + x * horner q = mul-add x (horner p) (horner q) in
      rw (h a b, both_is f h p q) (omega arith)

  each-is : (g : A → A) (k : ℕ) → ((b : A) → v (g b) ≡ k * v b) → (q : List A) → horner (each g q) ≡ k * horner q
  each-is g k h [] = sym (mul-zero k)
  each-is g k h (b ∷ q) =
      let e : k * (v b + x * horner q) ≡ k * v b + k * (x * horner q) = mul-add k (v b) (x * horner q) in
      let f : x * (k * horner q) ≡ k * (x * horner q) = mul_left_comm x k (horner q) in
      rw (h b, each-is g k h q) (omega arith)

  multiple-is : (s : Bool) (g : A → A) (k : ℕ) → (T s → k ≡ 0) → ((b : A) → v (g b) ≡ k * v b) → (q : List A) → horner (multiple s g q) ≡ k * horner q
  multiple-is true g k z h q = rw (z tt) (sym (zero-mul (horner q)))
  multiple-is false g k z h q = each-is g k h q

  shifted-is : (z : A) → v z ≡ 0 → (p : List A) → horner (shifted z p) ≡ x * horner p
  shifted-is z h [] = sym (mul-zero x)
  shifted-is z h (a ∷ p) = rw h (zero-add (x * horner (a ∷ p)))

  convolved-is : (z : A) (s : A → Bool) (f g : A → A → A) → v z ≡ 0 → ((a : A) → T (s a) → v a ≡ 0) → ((a b : A) → v (f a b) ≡ v a + v b) → ((a b : A) → v (g a b) ≡ v a * v b) → (p q : List A) → horner (convolved z s f g p q) ≡ horner p * horner q
  convolved-is z s f g hz hs hf hg [] q = sym (zero-mul (horner q))
  convolved-is z s f g hz hs hf hg (a ∷ p) q =
      both_is f hf (multiple (s a) (g a) q) (shifted z (convolved z s f g p q))
      ∙ (rw (multiple-is (s a) (g a) (v a) (hs a) (hg a) q, shifted-is z hz (convolved z s f g p q), convolved-is z s f g hz hs hf hg p q, add-mul, mul_assoc) refl)

abbrev pub value : (ρ : List ℕ) → Poly (length ρ) → ℕ
value [] c = c
value (x ∷ ρ) p = horner (value ρ) x p

none_is : (ρ : List ℕ) → value ρ (none (length ρ)) ≡ 0
none_is [] = refl
none_is (x ∷ ρ) = refl

is_none-is : (ρ : List ℕ) (p : Poly (length ρ)) → T (is_none (length ρ) p) → value ρ p ≡ 0
is_none-is [] c h = eqb→eq c 0 h
is_none-is (x ∷ ρ) [] h = refl
is_none-is (x ∷ ρ) (a ∷ p) h = absurd h

constant-is : (ρ : List ℕ) (c : ℕ) → value ρ (constant (length ρ) c) ≡ c
constant-is [] c = refl
constant-is (x ∷ ρ) c = go (eqb c 0) (λ h. eqb→eq c 0 h) (constant-is ρ c)
  where
    go : (b : Bool) → (T b → c ≡ 0) → value ρ (constant (length ρ) c) ≡ c → horner (value ρ) x (elim b [ true ↦ [] | false ↦ constant (length ρ) c ∷ [] ]) ≡ c
    go true h e = sym (h tt)
    go false h e = rw (e, mul-zero, add-zero) refl

unknown-is : (ρ : List ℕ) (i : ℕ) → value ρ (unknown (length ρ) i) ≡ get_or ρ i 0
unknown-is [] i = refl
unknown-is (x ∷ ρ) zero = rw (none_is ρ, constant-is ρ 1) (omega arith)
unknown-is (x ∷ ρ) (suc i) = rw (unknown-is ρ i) (omega arith)

pub add_is : (ρ : List ℕ) (p q : Poly (length ρ)) → value ρ (add (length ρ) p q) ≡ value ρ p + value ρ q
add_is [] a b = refl
add_is (x ∷ ρ) p q = both_is (value ρ) x (add (length ρ)) (add_is ρ) p q

multiply-is : (ρ : List ℕ) (p q : Poly (length ρ)) → value ρ (multiply (length ρ) p q) ≡ value ρ p * value ρ q
multiply-is [] a b = refl
multiply-is (x ∷ ρ) p q =
    convolved-is (value ρ) x (none (length ρ)) (is_none (length ρ)) (add (length ρ)) (multiply (length ρ)) (none_is ρ) (is_none-is ρ) (add_is ρ) (multiply-is ρ) p q

pub normal-is : (ρ : List ℕ) (e : Expr) → value ρ (normal (length ρ) e) ≡ eval ρ e
normal-is ρ (var i) = unknown-is ρ i
normal-is ρ (num c) = constant-is ρ c
normal-is ρ (a ⊕ b) = add_is ρ (normal (length ρ) a) (normal (length ρ) b) ∙ ap₂ (λ (x y : ℕ). x + y) (normal-is ρ a) (normal-is ρ b)
normal-is ρ (a ⊗ b) = multiply-is ρ (normal (length ρ) a) (normal (length ρ) b) ∙ ap₂ (λ (x y : ℕ). x * y) (normal-is ρ a) (normal-is ρ b)
