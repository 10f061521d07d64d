-- An answer of true or false to a question.
use mathlib.Core.Path.{◌≡◌, refl, sym, subst}
use mathlib.Core.Bool.{Bool, true, false}
use lib.Dec.{T}
use Rattle.sheet_line.specs.Records.{Decides}

pub said-yes : {P : Type 0} → P → Decides true P
said-yes p = record { yes = λ e. p; no = λ e q. subst T e tt }

pub said-no : {P : Type 0} → (P → ⊥) → Decides false P
said-no n = record { yes = λ e. absurd (subst T (sym e) tt); no = λ e p. n p }

-- the same answer to a question that comes to the same
pub decides-alike : {b : Bool} {P Q : Type 0} → (P → Q) → (Q → P) → Decides b P → Decides b Q
decides-alike f g d = record { yes = λ e. f (d.yes e); no = λ e q. d.no e (g q) }

-- an answer is the test that the question comes to
pub agrees : {b : Bool} {P : Type 0} (c : Bool) → Decides b P → (c ≡ true → P) → (P → c ≡ true) → b ≡ c
agrees {b} {P} c d f g = go b c d f g
  where
    go : (b c : Bool) → Decides b P → (c ≡ true → P) → (P → c ≡ true) → b ≡ c
    go true c d f g = sym (g (d.yes refl))
    go false true d f g = absurd (d.no refl (f refl))
    go false false d f g = refl
