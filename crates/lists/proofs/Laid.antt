-- Lists laid over another one behind the other are one list laid over it.
use mathlib.Core.Path.{◌≡◌, sym, ap, ◌∙◌}
use mathlib.Core.List.{List, [], ◌∷◌, ◌++◌, append_assoc, append-nil}
use Prim.Native.Nat.{ℕ, suc, ◌+◌, ◌≤◌, ◌<◌}
use native.Mathlib.Omega.{arith}
use lib.ListN.{length, take, drop, set, length-append, length-drop, take-append-drop}
use lib.Seq.{length-take-le, take_at, drop-append-add, drop-drop, set_split, append_snoc}
use Rattle.lists.specs.Put.{put}

module _ (p : ℕ) (xs l : List ℕ) (h : p + length xs ≤ length l) where
  front_length : length (take p l ++ xs) ≡ p + length xs
  front_length = simp length-append (omega (arith, length-take-le p l (omega arith)))

  pub length-put : length (put p xs l) ≡ length l
  unfolding put
  length-put = simp length-append (omega (arith, length-take-le p l (omega arith), length-drop (p + length xs) l))

  pub take_put : take (p + length xs) (put p xs l) ≡ take p l ++ xs
  unfolding put
  take_put = take_at (take p l ++ xs) _ _ front_length

  pub drop-put : (k : ℕ) → drop (p + length xs + k) (put p xs l) ≡ drop (p + length xs + k) l
  unfolding put
  drop-put k =
      ap (λ (n : ℕ). drop (n + k) (take p l ++ xs ++ drop (p + length xs) l)) (sym front_length)
      ∙ drop-append-add (take p l ++ xs) (drop (p + length xs) l) k
      ∙ drop-drop k (p + length xs) l

pub put-put : (p : ℕ) (xs ys l : List ℕ) → p + length xs + length ys ≤ length l → put (p + length xs) ys (put p xs l) ≡ put p (xs ++ ys) l
unfolding put
put-put p xs ys l h =
    let r : p + length xs ≤ length l = omega arith in
    let n : p + length (xs ++ ys) ≡ p + length xs + length ys = simp length-append (omega arith) in
    rw (take_put p xs l r, drop-put p xs l r (length ys), n, append_assoc (take p l) xs ys)

pub put-none : (p : ℕ) (l : List ℕ) → put p [] l ≡ l
unfolding put
put-none p l = rw (append-nil (take p l)) (ap (λ (k : ℕ). take p l ++ drop k l) (let z : p + 0 ≡ p = omega arith in z) ∙ take-append-drop p l)

-- a store is a list of one laid over
pub set-put : (p x : ℕ) (l : List ℕ) → p < length l → set l p x ≡ put p (x ∷ []) l
unfolding put
set-put p x l h = set_split l p x h ∙ sym (append_snoc (take p l) x (drop (suc p) l)) ∙ ap (λ (k : ℕ). take p l ++ (x ∷ []) ++ drop k l) (let z : suc p ≡ p + 1 = omega arith in z)

pub two-stores : (p x y : ℕ) (l : List ℕ) → p + 2 ≤ length l → set (set l p x) (p + 1) y ≡ put p (x ∷ y ∷ []) l
two-stores p x y l h =
    ap (λ (m : List ℕ). set m (p + 1) y) (set-put p x l (omega arith))
    ∙ set-put (p + 1) y (put p (x ∷ []) l) (rw (length-put p (x ∷ []) l (omega arith)) (omega arith))
    ∙ put-put p (x ∷ []) (y ∷ []) l (omega arith)

-- one list behind another, one call after another
pub put_then : (p q : ℕ) (xs ys l : List ℕ) {m n : List ℕ} → m ≡ put p xs l → n ≡ put q ys m → p + length xs ≡ q → q + length ys ≤ length l → n ≡ put p (xs ++ ys) l
put_then p q xs ys l a b e h = b ∙ ap (put q ys) a ∙ rw (← e) (put-put p xs ys l (rw e h))

-- from the front on: the list, and what lies behind it
pub put_front : (xs l : List ℕ) → put 0 xs l ≡ xs ++ drop (length xs) l
unfolding put
put_front xs l = ap (λ (k : ℕ). xs ++ drop k l) (let z : 0 + length xs ≡ length xs = omega arith in z)
