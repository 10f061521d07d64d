-- Raised: the least whole number not below a fraction.
use mathlib.Core.Path.{◌≡◌, sym}
use mathlib.Core.Logic.{◌↔◌}
use Prim.Native.Nat.{ℕ, suc, ◌+◌, ◌*◌, ◌-◌, ◌/◌, ◌≤◌, ◌<◌}
use native.Mathlib.Omega.{arith}
use native.Mathlib.Nat.{le_refl, le_of_eq, le_antisymm, suc-mul, div-lt_iff_lt-mul, div-mul-le_self}
use Rattle.exact.specs.Fraction.{Fraction, whole, ◌over◌, ◌+q◌, ◌≤q◌, ◌<q◌, ◌≈q◌, raised, Least}
use Rattle.exact.proofs.Order.{≤q-trans}

-- it is at most n just where the fraction is
pub raised-le : (a : Fraction) (n : ℕ) → 0 < a.over → (raised a ≤ n) ↔ (a ≤q whole n)
unfolding raised
raised-le a n l =
    let s : suc n * a.over ≡ n * a.over + a.over = suc-mul n a.over in (
      (λ h. let k : a.plus - a.minus + (a.over - 1) < suc n * a.over = (div-lt_iff_lt-mul l).0 (omega arith) in omega arith),
      (λ h. let k : (a.plus - a.minus + (a.over - 1)) / a.over < suc n = (div-lt_iff_lt-mul l).1 (omega arith) in omega arith),
    )

pub raised-least : (a : Fraction) → 0 < a.over → Least a (raised a)
raised-least a l = record { number = l; enough = (raised-le a (raised a) l).0 (le_refl (raised a)); least = λ n. (raised-le a n l).1 }

-- and it alone is
pub least-raised : (a : Fraction) (q : ℕ) → Least a q → q ≡ raised a
least-raised a q h = let r = raised-least a h.number in le_antisymm (h.least (raised a) r.enough) (r.least q h.enough)

pub raised-mono : (a b : Fraction) → 0 < a.over → 0 < b.over → a ≤q b → raised a ≤ raised b
raised-mono a b l m h = (raised-le a (raised b) l).1 (≤q-trans a b (whole (raised b)) m h (raised-least b m).enough)

pub raised-cong : {a b : Fraction} → a ≈q b → raised a ≡ raised b
raised-cong {a} {b} e = le_antisymm (raised-mono a b e.left e.right (le_of_eq e.equal)) (raised-mono b a e.right e.left (le_of_eq (sym e.equal)))

-- the least whole numbers of two fractions are in their order
pub least-mono : {a b : Fraction} {n m : ℕ} → Least a n → Least b m → a ≤q b → n ≤ m
least-mono {a} {b} {n} {m} h k e = h.least m (≤q-trans a b (whole m) k.number e k.enough)

-- and that of a fraction not below 0 is less than it and one more
pub least-near : {a : Fraction} {n : ℕ} → whole 0 ≤q a → Least a n → whole n <q a +q whole 1
unfolding raised
least-near {a} {n} i h =
    let d = a.over in
    let r : n ≡ (a.plus - a.minus + (d - 1)) / d = least-raised a n h in
    let k : (a.plus - a.minus + (d - 1)) / d * d ≤ a.plus - a.minus + (d - 1) = div-mul-le_self _ d in
    let l : n * d ≤ a.plus - a.minus + (d - 1) = rw r k in
    let m = h.number in
    omega arith

-- of n / d it is at most q just where q times d holds n
pub raised-over-le : (n d q : ℕ) → 0 < d → (raised (n over d) ≤ q) ↔ (n ≤ q * d)
raised-over-le n d q l = ((λ h. omega (arith, (raised-le (n over d) q l).0 h)), (λ h. (raised-le (n over d) q l).1 (omega arith)))

-- and it is less than n / d and one more
pub raised-over-near : (n d : ℕ) → 0 < d → raised (n over d) * d < n + d
unfolding raised
raised-over-near n d l = let h : (n - 0 + (d - 1)) / d * d ≤ n - 0 + (d - 1) = div-mul-le_self (n - 0 + (d - 1)) d in omega arith
