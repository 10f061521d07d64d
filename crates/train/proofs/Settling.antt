-- Conditions that decide by a rule in words of its own, and lists of them that decide by rules.
use mathlib.Core.Path.{◌≡◌, refl, sym, subst, ◌∙◌}
use mathlib.Core.Bool.{Bool, true, false, cond}
use mathlib.Core.List.{List, [], ◌∷◌, ◌++◌}
use mathlib.Core.Logic.{◌⊎◌, inl, inr, ⊎_elim}
use Prim.Native.Nat.{ℕ, ◌≤◌, ◌<◌}
use native.Mathlib.Omega.{arith}
use native.Mathlib.Nat.{lt_of_not-le, not-le_of_lt}
use native.Mathlib.Decide.{dec_le}
use borrow.Author.Tests.{ltb-true, ltb-false, leb-true, leb-false}
use lib.Dec.{T, ltb, leb, leb→le}
use Rattle.train.specs.Refusal.{Refusal, ◌gives◌, first_of, outside_of}
use Rattle.train.specs.Judged.{Rule, ◌keeps◌, AllKept, FirstBroken, Judged}
use Rattle.train.proofs.Refusals.{first-before}

-- 0 or above
some : (n : ℕ) → (n ≡ 0) ⊎ (0 < n)
some n = go (dec_le n 0)
  where
    go : Dec (n ≤ 0) → (n ≡ 0) ⊎ (0 < n)
    go (yes i) = inl (omega arith)
    go (no i) = inr (lt_of_not-le i)

-- no number is 0, so where a list turns nothing away the next decides
abbrev pub Numbered : List Refusal → Type 0
Numbered [] = Unit
Numbered (c ∷ cs) = T (leb 1 c.number) × Numbered cs

numbered : (a b : List Refusal) → Numbered a → Numbered b → Numbered (a ++ b)
numbered [] b n m = m
numbered (c ∷ a) b n m = (n.0, numbered a b n.1 m)

after : (a b : List Refusal) → Numbered a → first_of a ≡ 0 → first_of (a ++ b) ≡ first_of b
after [] b n e = refl
after (c ∷ a) b n e = go c.holds e (after a b n.1)
  where
    go : (t : Bool) → cond t c.number (first_of a) ≡ 0 → (first_of a ≡ 0 → first_of (a ++ b) ≡ first_of b) → cond t c.number (first_of (a ++ b)) ≡ first_of b
    go true e ih = absurd (let l = leb→le 1 c.number n.0 in omega arith)
    go false e ih = ih e

-- conditions that decide whether a rule is kept
pub record Settles (r : Rule) (cs : List Refusal) : Type 0 where
  pub numbers : Numbered cs
  pub yes : first_of cs ≡ 0 → r.kept
  pub no : 0 < first_of cs → (first_of cs ≡ r.number) × r.broken

-- one condition
module _ (r : Rule) (above : T (leb 1 r.number)) where
  kept_if : (b : Bool) → (b ≡ false → r.kept) → cond b r.number 0 ≡ 0 → r.kept
  kept_if true f e = absurd (let l = leb→le 1 r.number above in omega arith)
  kept_if false f e = f refl

  broken-if : (b : Bool) → (b ≡ true → r.broken) → 0 < cond b r.number 0 → (cond b r.number 0 ≡ r.number) × r.broken
  broken-if true f l = (refl, f refl)
  broken-if false f l = absurd (let i : 0 < 0 = l in omega arith)

  pub settled : (b : Bool) → (b ≡ false → r.kept) → (b ≡ true → r.broken) → Settles r (b gives r.number ∷ [])
  settled b f g = record { numbers = (above, tt); yes = kept_if b f; no = broken-if b g }

-- conditions that decide by rules
pub record Judges (rs : List Rule) (cs : List Refusal) : Type 0 where
  pub judged : Judged rs (first_of cs)

infixr 50 ◌then◌
pub ◌then◌ : {r : Rule} {rs : List Rule} {a b : List Refusal} → Settles r a → Judges rs b → Judges (r ∷ rs) (a ++ b)
◌then◌ {r} {rs} {a} {b} s j = ⊎_elim later now (some (first_of a))
  where
    later : first_of a ≡ 0 → Judges (r ∷ rs) (a ++ b)
    later e =
        let i = after a b s.numbers e in
        record { judged = rw i (record { accepted = λ z. (s.yes e, j.judged.accepted z); refused = λ l. inr (s.yes e, j.judged.refused l) }) }

    now : 0 < first_of a → Judges (r ∷ rs) (a ++ b)
    now l =
        let i = first-before a b (λ z. omega arith) in
        record { judged = rw i (record { accepted = λ z. absurd (let k : first_of a ≡ 0 = z in omega arith); refused = λ k. inl (s.no l) }) }

pub no_more : Judges [] []
no_more = record { judged = record { accepted = λ z. tt; refused = λ l. absurd (let i : 0 < 0 = l in omega arith) } }

-- more rules behind those that decide, and behind those that are all kept
pub stays-broken : (rs more : List Rule) (n : ℕ) → FirstBroken n rs → FirstBroken n (rs ++ more)
stays-broken [] more n b = absurd b
stays-broken (r ∷ rs) more n b = ⊎_elim inl (λ (k, l). inr (k, stays-broken rs more n l)) b

pub before_more : (rs more : List Rule) (n : ℕ) → 0 < n → Judged rs n → Judged (rs ++ more) n
before_more rs more n l j = record { accepted = λ z. absurd (let i : ⊥ = omega arith in i); refused = λ i. stays-broken rs more n (j.refused l) }

pub behind-kept : (rs more : List Rule) (n : ℕ) → AllKept rs → Judged more n → Judged (rs ++ more) n
behind-kept [] more n k j = j
behind-kept (r ∷ rs) more n k j =
    let i = behind-kept rs more n k.1 j in
    record { accepted = λ z. (k.0, i.accepted z); refused = λ l. inr (k.0, i.refused l) }

-- two conditions of one number
infixr 60 ◌and◌
pub ◌and◌ : {n : ℕ} {P Q : Type 0} {a b : List Refusal} → Settles (n keeps P) a → Settles (n keeps Q) b → Settles (n keeps (P × Q)) (a ++ b)
◌and◌ {n} {P} {Q} {a} {b} p q = ⊎_elim later now (some (first_of a))
  where
    later : first_of a ≡ 0 → Settles (n keeps (P × Q)) (a ++ b)
    later e =
        let i = after a b p.numbers e in
        record { numbers = numbered a b p.numbers q.numbers; yes = λ z. (p.yes e, q.yes (sym i ∙ z)); no = λ l. let (j, k) = q.no (rw i at l) in (i ∙ j, λ h. k h.1) }

    now : 0 < first_of a → Settles (n keeps (P × Q)) (a ++ b)
    now l =
        let i = first-before a b (λ z. omega arith) in
        let (j, k) = p.no l in
        record { numbers = numbered a b p.numbers q.numbers; yes = λ z. absurd (let m = sym i ∙ z in omega arith); no = λ h. (i ∙ j, λ h. k h.0) }

-- a number that is high enough, one that is low enough
module _ (n : ℕ) (above : T (leb 1 n)) (a b : ℕ) where
  pub at_least : Settles (n keeps (a ≤ b)) (ltb b a gives n ∷ [])
  at_least = settled (n keeps (a ≤ b)) above (ltb b a) (ltb-false b a) (λ e. not-le_of_lt (ltb-true b a e))

  pub below : Settles (n keeps (a < b)) (leb b a gives n ∷ [])
  below = settled (n keeps (a < b)) above (leb b a) (leb-false b a) (λ e l. not-le_of_lt l (leb-true b a e))

-- a number within a span
module _ (n : ℕ) (above : T (leb 1 n)) where
  pub spanned : (least most a : ℕ) → Settles (n keeps ((least ≤ a) × (a ≤ most))) (outside_of least most a gives n ∷ [])
  spanned least most a = settled (n keeps ((least ≤ a) × (a ≤ most))) above (outside_of least most a) (within (ltb a least) refl) (without (ltb a least) refl)
    where
      within : (b : Bool) → ltb a least ≡ b → cond b true (ltb most a) ≡ false → (least ≤ a) × (a ≤ most)
      within true e f = absurd (subst T f tt)
      within false e f = (ltb-false a least e, ltb-false most a f)

      without : (b : Bool) → ltb a least ≡ b → cond b true (ltb most a) ≡ true → (least ≤ a) × (a ≤ most) → ⊥
      without true e f = λ h. not-le_of_lt (ltb-true a least e) h.0
      without false e f = λ h. not-le_of_lt (ltb-true most a f) h.1
