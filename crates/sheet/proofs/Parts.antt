-- Numbers in bytes, forth and back, wherever they lie in a list.
use mathlib.Core.Path.{◌≡◌, refl, sym, ap, ◌∙◌}
use mathlib.Core.List.{List, ◌++◌}
use mathlib.Core.Logic.{⊎_elim}
use Prim.Native.Nat.{ℕ, zero, suc, ◌+◌, ◌*◌, ◌/◌, ◌%◌, ◌≤◌, ◌<◌}
use native.Mathlib.Omega.{arith}
use native.Mathlib.Numerals.{add-one}
use lib.ListN.{length, get_or, take, drop, length-append, get_or-append}
use lib.Seq.{drop-cons, drop-drop, take-add, get_or-append-add}
use Rattle.lists.proofs.Split.{earlier}
use Rattle.sheet_line.specs.Bytes.{u16_at, u32_at, bytes2, bytes4}
use Rattle.sheet.specs.Sheet.{records}

-- the n elements from place i on
abbrev pub part : List ℕ → ℕ → ℕ → List ℕ
part s i n = take n (drop i s)

pub part_join : (s : List ℕ) (i n m : ℕ) → part s i n ++ part s (i + n) m ≡ part s i (n + m)
part_join s i n m = sym (take-add n m (drop i s) ∙ ap (λ (l : List ℕ). take n (drop i s) ++ take m l) (drop-drop n i s))

module _ (s : List ℕ) (bytes : (i : ℕ) → get_or s i 0 < 256) where
  pub half : (i : ℕ) → u16_at s i < 65536
  unfolding u16_at
  half i = omega (arith, bytes i, bytes (i + 1))

  pub two_bytes : (i : ℕ) → i + 2 ≤ length s → bytes2 (u16_at s i) ≡ part s i 2
  unfolding bytes2 u16_at
  two_bytes i h =
      let a = bytes i in
      let b = bytes (i + 1) in
      let x : (get_or s i 0 + 256 * get_or s (i + 1) 0) % 256 ≡ get_or s i 0 = omega arith in
      let y : (get_or s i 0 + 256 * get_or s (i + 1) 0) / 256 ≡ get_or s (i + 1) 0 = omega arith in
      rw (x, y, drop-cons s i 0 (omega arith), add-one i, drop-cons s (suc i) 0 (omega arith)) refl

  pub four_bytes : (i : ℕ) → i + 4 ≤ length s → bytes4 (u32_at s i) ≡ part s i 4
  unfolding bytes4 u32_at
  four_bytes i h =
      let x : (u16_at s i + 65536 * u16_at s (i + 2)) % 65536 ≡ u16_at s i = omega (arith, half i) in
      let y : (u16_at s i + 65536 * u16_at s (i + 2)) / 65536 ≡ u16_at s (i + 2) = omega (arith, half i) in
      rw (x, y, two_bytes i (omega arith), two_bytes (i + 2) (omega arith)) (part_join s i 2 2)

  -- a table of records is where it lies
  pub table-bytes : (at n : ℕ) → at + 6 * n ≤ length s → records (λ k. u32_at s (at + 6 * k)) (λ k. u16_at s (at + 6 * k + 4)) n ≡ part s at (6 * n)
  unfolding records
  table-bytes at zero h = refl
  table-bytes at (suc n) h =
      let e : 6 * suc n ≡ 6 * n + 6 = omega arith in
      rw (table-bytes at n (omega arith), four_bytes (at + 6 * n) (omega arith), two_bytes (at + 6 * n + 4) (omega arith), part_join s (at + 6 * n) 4 2, part_join s at (6 * n) 6, e)

-- a number is what its bytes say, and is read where it was written
pub two : (x : ℕ) → x % 256 + 256 * (x / 256) ≡ x
two x = omega arith

pub four : (x : ℕ) → x % 65536 % 256 + 256 * (x % 65536 / 256) + 65536 * (x / 65536 % 256 + 256 * (x / 65536 / 256)) ≡ x
four x = omega arith

two_back : (x : ℕ) → u16_at (bytes2 x) 0 ≡ x
unfolding u16_at bytes2
two_back x = two x

four-back : (x : ℕ) (rest : List ℕ) → u32_at (bytes4 x ++ rest) 0 ≡ x
unfolding u32_at u16_at bytes4 bytes2
four-back x rest = four x

-- behind other bytes, and before others
pub u16-behind : (xs ys : List ℕ) (i : ℕ) → u16_at (xs ++ ys) (length xs + i) ≡ u16_at ys i
unfolding u16_at
u16-behind xs ys i =
    let e : length xs + i + 1 ≡ length xs + (i + 1) = omega arith in
    rw (e, get_or-append-add xs ys i 0, get_or-append-add xs ys (i + 1) 0)

pub u32-behind : (xs ys : List ℕ) (i : ℕ) → u32_at (xs ++ ys) (length xs + i) ≡ u32_at ys i
unfolding u32_at
u32-behind xs ys i =
    let e : length xs + i + 2 ≡ length xs + (i + 2) = omega arith in
    rw (e, u16-behind xs ys i, u16-behind xs ys (i + 2))

pub u16-before : (xs ys : List ℕ) (i : ℕ) → i + 2 ≤ length xs → u16_at (xs ++ ys) i ≡ u16_at xs i
unfolding u16_at
u16-before xs ys i h = rw (get_or-append xs ys 0 i (omega arith), get_or-append xs ys 0 (i + 1) (omega arith))

pub u32-before : (xs ys : List ℕ) (i : ℕ) → i + 4 ≤ length xs → u32_at (xs ++ ys) i ≡ u32_at xs i
unfolding u32_at
u32-before xs ys i h = rw (u16-before xs ys i (omega arith), u16-before xs ys (i + 2) (omega arith))

-- a table of records, and each of them
pub records-length : (f g : ℕ → ℕ) (n : ℕ) → length (records f g n) ≡ 6 * n
unfolding records bytes4 bytes2
records-length f g zero = refl
records-length f g (suc n) = simp length-append (omega (arith, records-length f g n))

module _ (f g : ℕ → ℕ) where
  pub first_back : (n k : ℕ) → k < n → u32_at (records f g n) (6 * k) ≡ f k
  unfolding records
  first_back zero k h = absurd (let z : k < 0 = h in omega arith)
  first_back (suc n) k h =
      let e = records-length f g n in
      let i : 6 * n ≡ length (records f g n) + 0 = omega arith in
      ⊎_elim
      (λ l. u32-before (records f g n) _ (6 * k) (omega arith) ∙ first_back n k l)
      (λ j. rw j (ap (u32_at (records f g n ++ (bytes4 (f n) ++ bytes2 (g n)))) i ∙ u32-behind (records f g n) _ 0 ∙ four-back (f n) (bytes2 (g n))))
      (earlier k n h)

  pub second_back : (n k : ℕ) → k < n → u16_at (records f g n) (6 * k + 4) ≡ g k
  unfolding records bytes4 bytes2
  second_back zero k h = absurd (let z : k < 0 = h in omega arith)
  second_back (suc n) k h =
      let e = records-length f g n in
      let i : 6 * n + 4 ≡ length (records f g n) + 4 = omega arith in
      ⊎_elim
      (λ l. u16-before (records f g n) _ (6 * k + 4) (omega arith) ∙ second_back n k l)
      (λ j. rw j (ap (u16_at (records f g n ++ (bytes4 (f n) ++ bytes2 (g n)))) i ∙ u16-behind (records f g n) _ 4 ∙ u16-behind (bytes4 (f n)) (bytes2 (g n)) 0 ∙ two_back (g n)))
      (earlier k n h)
