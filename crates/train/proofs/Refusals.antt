-- Lists of refusals by the one order: one list after another, what is left where none holds, and that the first that applies is the answer.
use mathlib.Core.Path.{◌≡◌, refl, sym, ap, subst, ◌∙◌}
use mathlib.Core.Bool.{Bool, true, false, cond}
use mathlib.Core.List.{List, [], ◌∷◌, ◌++◌}
use mathlib.Core.Logic.{◌⊎◌, inl, inr, ⊎_elim}
use Prim.Native.Nat.{ℕ, suc, ◌≤◌, ◌<◌}
use native.Mathlib.Omega.{arith}
use native.Mathlib.Nat.{le_trans, le_of_eq, lt_of_not-le, zero-lt-suc}
use native.Mathlib.Decide.{dec_le}
use lib.Dec.{T, leb, leb→le}
use Rattle.train.specs.declared.Train.{Train}
use Rattle.train.specs.declared.Gradient.{Gradient}
use Rattle.train.specs.declared.Inertia.{Inertia}
use Rattle.train.specs.declared.Coefficients.{Coefficients}
use Rattle.train.specs.Refusal.{Refusal, first_of, rank, weight_refusals, train_refusals, gradient_refusals, inertia_refusals, own_refusals, coefficient_refusals}

-- the ranks rise from n on
abbrev pub Rising : ℕ → List Refusal → Type 0
Rising n [] = Unit
Rising n (c ∷ cs) = T (leb n (rank c.number)) × Rising (rank c.number) cs

pub rising-before : (n : ℕ) (a b : List Refusal) → Rising n (a ++ b) → Rising n a
rising-before n [] b r = tt
rising-before n (c ∷ a) b r = (r.0, rising-before (rank c.number) a b r.1)

pub train-rising : (t : Train) → Rising 1 (train_refusals t)
train-rising t = (tt, (tt, (tt, (tt, (tt, (tt, tt))))))

pub weight-rising : (w : ℕ) → Rising 1 (weight_refusals w)
weight-rising w = (tt, (tt, (tt, tt)))

pub gradient-rising : (g : Gradient) → Rising 1 (gradient_refusals g)
gradient-rising g = (tt, (tt, tt))

-- what has a rank is no 0
ranked : (n m : ℕ) → 0 < n → T (leb n (rank m)) → 0 < rank m
ranked n m some l = let h = leb→le n (rank m) l in omega arith

not-zero : {A : Type 0} (m : ℕ) → 0 < rank m → m ≡ 0 → A
not-zero m some e = absurd (let h : 0 < rank 0 = rw e at some in omega arith)

-- where the first of two lists turns nothing away, the second decides; else the first does
after : (n : ℕ) (a b : List Refusal) → 0 < n → Rising n a → first_of a ≡ 0 → first_of (a ++ b) ≡ first_of b
after n [] b some r h = refl
after n (c ∷ a) b some r h = let l = ranked n c.number some r.0 in go c.holds h (λ e. after (rank c.number) a b l r.1 e)
  where
    go : (t : Bool) → cond t c.number (first_of a) ≡ 0 → (first_of a ≡ 0 → first_of (a ++ b) ≡ first_of b) → cond t c.number (first_of (a ++ b)) ≡ first_of b
    go true e ih = not-zero c.number (ranked n c.number some r.0) e
    go false e ih = ih e

pub first-after : (n : ℕ) (a b : List Refusal) → Rising (suc n) a → first_of a ≡ 0 → first_of (a ++ b) ≡ first_of b
first-after n a b = after (suc n) a b (zero-lt-suc n)

pub first-before : (a b : List Refusal) → (first_of a ≡ 0 → ⊥) → first_of (a ++ b) ≡ first_of a
first-before [] b h = absurd (h refl)
first-before (c ∷ a) b h = go c.holds h (first-before a b)
  where
    go : (t : Bool) → (cond t c.number (first_of a) ≡ 0 → ⊥) → ((first_of a ≡ 0 → ⊥) → first_of (a ++ b) ≡ first_of a) → cond t c.number (first_of (a ++ b)) ≡ cond t c.number (first_of a)
    go true h ih = refl
    go false h ih = ih h

-- where both turn nothing away, so does the first
pub none_before : (a b : List Refusal) → first_of (a ++ b) ≡ 0 → first_of a ≡ 0
none_before a b h = go (dec_le (first_of a) 0)
  where
    go : Dec (first_of a ≤ 0) → first_of a ≡ 0
    go (yes i) = omega arith
    go (no i) = absurd (let j = lt_of_not-le i in let e = first-before a b (λ z. omega arith) in omega arith)

abbrev pub NoneHolds : List Refusal → Type 0
NoneHolds [] = Unit
NoneHolds (c ∷ cs) = (c.holds ≡ false) × NoneHolds cs

none_of : (n : ℕ) (a : List Refusal) → 0 < n → Rising n a → first_of a ≡ 0 → NoneHolds a
none_of n [] some r h = tt
none_of n (c ∷ a) some r h = let l = ranked n c.number some r.0 in go c.holds h (λ e. none_of (rank c.number) a l r.1 e)
  where
    go : (t : Bool) → cond t c.number (first_of a) ≡ 0 → (first_of a ≡ 0 → NoneHolds a) → (t ≡ false) × NoneHolds a
    go true e ih = not-zero c.number (ranked n c.number some r.0) e
    go false e ih = (refl, ih e)

pub none-holds : (n : ℕ) (a : List Refusal) → Rising (suc n) a → first_of a ≡ 0 → NoneHolds a
none-holds n a = none_of (suc n) a (zero-lt-suc n)

-- Document 01, with document 02's exceptions: no condition that holds stands before the answer's in the order, and the answer's own holds.
abbrev pub Applies : ℕ → List Refusal → Type 0
Applies m [] = ⊥
Applies m (c ∷ cs) = ((c.holds ≡ true) × (c.number ≡ m)) ⊎ Applies m cs

above : (n m : ℕ) (a : List Refusal) → Rising n a → Applies m a → n ≤ rank m
above n m [] r h = absurd h
above n m (c ∷ a) r h =
    let l = leb→le n (rank c.number) r.0 in
    ⊎_elim (λ i. rw (← i.1) l) (λ i. le_trans l (above (rank c.number) m a r.1 i)) h

pub soonest : (n m : ℕ) (a : List Refusal) → Rising n a → Applies m a → rank (first_of a) ≤ rank m
soonest n m [] r h = absurd h
soonest n m (c ∷ a) r h =
    go c.holds (⊎_elim (λ i. le_of_eq (ap rank i.1)) (above (rank c.number) m a r.1) h) (⊎_elim (λ i. inl i.0) (λ i. inr (soonest (rank c.number) m a r.1 i)) h)
  where
    go : (t : Bool) → rank c.number ≤ rank m → (t ≡ true) ⊎ (rank (first_of a) ≤ rank m) → rank (cond t c.number (first_of a)) ≤ rank m
    go true l i = l
    go false l i = ⊎_elim (λ e. absurd (subst T (sym e) tt)) (λ k. k) i

pub applies : (a : List Refusal) → (first_of a ≡ 0 → ⊥) → Applies (first_of a) a
applies [] h = h refl
applies (c ∷ a) h = go c.holds refl h (applies a)
  where
    go : (t : Bool) → c.holds ≡ t → (cond t c.number (first_of a) ≡ 0 → ⊥) → ((first_of a ≡ 0 → ⊥) → Applies (first_of a) a) → ((c.holds ≡ true) × (c.number ≡ cond t c.number (first_of a))) ⊎ Applies (cond t c.number (first_of a)) a
    go true e h ih = inl (e, refl)
    go false e h ih = inr (ih h)

-- a list with one number: any condition that holds gives it
abbrev pub Only : ℕ → List Refusal → Type 0
Only m [] = Unit
Only m (c ∷ cs) = (c.number ≡ m) × Only m cs

abbrev pub Some : List Refusal → Type 0
Some [] = ⊥
Some (c ∷ cs) = (c.holds ≡ true) ⊎ Some cs

pub only : (m : ℕ) (a : List Refusal) → Only m a → Some a → m ≡ first_of a
only m [] o s = absurd s
only m (c ∷ a) o s = go c.holds (⊎_elim inl (λ i. inr (only m a o.1 i)) s)
  where
    go : (t : Bool) → (t ≡ true) ⊎ (m ≡ first_of a) → m ≡ cond t c.number (first_of a)
    go true i = sym o.0
    go false i = ⊎_elim (λ e. absurd (subst T (sym e) tt)) (λ e. e) i

-- and where none holds it is 0
pub nothing : (a : List Refusal) → NoneHolds a → 0 ≡ first_of a
nothing [] n = refl
nothing (c ∷ a) n = rw n.0 (nothing a n.1)

pub own-rising : (k : Coefficients) → Rising 1 (own_refusals k)
own-rising k = (tt, (tt, (tt, (tt, (tt, (tt, (tt, (tt, tt))))))))

pub inertia-rising : (k : Inertia) → Rising 1 (inertia_refusals k)
inertia-rising k = (tt, (tt, (tt, (tt, (tt, (tt, tt))))))

pub coefficients-rising : (k : Coefficients) → Rising 1 (coefficient_refusals k)
coefficients-rising k = (tt, (tt, (tt, (tt, (tt, (tt, (tt, (tt, (tt, (tt, (tt, (tt, (tt, (tt, tt))))))))))))))

-- where no coefficient is turned away, none of the slope's is
pub inertia-too : (k : Coefficients) → first_of (coefficient_refusals k) ≡ 0 → first_of (inertia_refusals k.inertia) ≡ 0
inertia-too k z = sym (first-after 0 (own_refusals k) (inertia_refusals k.inertia) (own-rising k) (none_before (own_refusals k) (inertia_refusals k.inertia) z)) ∙ z

pub inertia-only : (k : Inertia) → Only 12 (inertia_refusals k)
inertia-only k = (refl, (refl, (refl, (refl, (refl, (refl, tt))))))

pub coefficients-only : (k : Coefficients) → Only 12 (coefficient_refusals k)
coefficients-only k = (refl, (refl, (refl, (refl, (refl, (refl, (refl, (refl, (refl, (refl, (refl, (refl, (refl, (refl, tt))))))))))))))
