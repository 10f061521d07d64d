-- The list f 0, f 1, .. grown place by place, and read back.
use mathlib.Core.Path.{◌≡◌, refl, sym, ap, ◌∙◌}
use mathlib.Core.Logic.{⊎_elim}
use mathlib.Core.List.{List, [], ◌∷◌, ◌++◌}
use Prim.Native.Nat.{ℕ, zero, suc, ◌+◌, ◌<◌}
use native.Mathlib.Omega.{arith}
use native.Mathlib.Numerals.{add-one}
use lib.ListN.{length, take, drop, set, get_or, length-append, get_or-append, take-append-drop}
use lib.Seq.{take-suc-set, get_or_at, ext_get_or}
use Rattle.lists.proofs.Split.{earlier}
use Rattle.lists.specs.Counted.{up_to}

module _ {A : Type 0} where
  -- one place more
  pub longer : (f : ℕ → A) (out : List A) (k : ℕ) (x : A) → k < length out → x ≡ f k → take k out ≡ up_to f k → take (k + 1) (set out k x) ≡ up_to f (k + 1)
  unfolding up_to
  longer f out k x h e i = rw (add-one k, take-suc-set out k x h, i, e)

  -- all places
  pub filled : (f : ℕ → A) (out out₀ : List A) (n : ℕ) → take n out ≡ up_to f n → drop n out ≡ drop n out₀ → out ≡ up_to f n ++ drop n out₀
  filled f out out₀ n i j = sym (take-append-drop n out) ∙ ap (λ l. l ++ drop n out) i ∙ ap (λ l. up_to f n ++ l) j

  pub same-places : (f g : ℕ → A) (n : ℕ) → ((i : ℕ) → i < n → f i ≡ g i) → up_to f n ≡ up_to g n
  unfolding up_to
  same-places f g zero h = refl
  same-places f g (suc n) h = rw (same-places f g n (λ i l. h i (omega arith)), h n (omega arith))

  pub places-length : (f : ℕ → A) (n : ℕ) → length (up_to f n) ≡ n
  unfolding up_to
  places-length f zero = refl
  places-length f (suc n) = simp length-append (omega (arith, places-length f n))

  pub places-at : (f : ℕ → A) (n i : ℕ) (d : A) → i < n → get_or (up_to f n) i d ≡ f i
  unfolding up_to
  places-at f zero i d h = absurd (let z : i < 0 = h in omega arith)
  places-at f (suc n) i d h =
      ⊎_elim
      (λ l. get_or-append (up_to f n) (f n ∷ []) d i (rw (places-length f n) l) ∙ places-at f n i d l)
      (λ j. get_or_at (up_to f n) (f n) [] d i (places-length f n ∙ sym j) ∙ ap f (sym j))
      (earlier i n h)

  -- and before whatever follows
  pub place_at : (f : ℕ → A) (n i : ℕ) (d : A) (rest : List A) → i < n → get_or (up_to f n ++ rest) i d ≡ f i
  place_at f n i d rest h = get_or-append (up_to f n) rest d i (rw (places-length f n) h) ∙ places-at f n i d h

  -- a list is its own places
  pub places_of : (d : A) (f : ℕ → A) (l : List A) → ((i : ℕ) → i < length l → f i ≡ get_or l i d) → up_to f (length l) ≡ l
  places_of d f l h =
      ext_get_or d (up_to f (length l)) l (places-length f (length l))
      (λ i k. let j : i < length l = rw (← places-length f (length l)) k in places-at f (length l) i d j ∙ h i j)
