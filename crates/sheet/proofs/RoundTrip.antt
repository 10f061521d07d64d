-- Both round trips: what the writer writes reads back as its fields, and an accepted sheet's fields write its bytes.
use mathlib.Core.Path.{◌≡◌, refl, sym, ap, ◌∙◌, subst}
use mathlib.Core.Bool.{true}
use mathlib.Core.List.{List, ◌++◌}
use Prim.Native.Nat.{ℕ, zero, suc, ◌+◌, ◌*◌, ◌<◌}
use native.Mathlib.Omega.{arith}
use lib.IntN.{pos}
use lib.ListN.{length, get_or, length-append}
use lib.Seq.{take_all}
use Rattle.lists.specs.Counted.{up_to}
use Rattle.lists.proofs.Places.{places-length, places-at, places_of}
use Rattle.train.specs.Gradient.{gradient_of, Moderate}
use Rattle.sheet_line.specs.Bytes.{u16_at, u32_at, bytes2, bytes4, signed, complement}
use Rattle.sheet_line.specs.Line.{Line}
use Rattle.sheet.specs.Sheet.{stretch_offset, signal_offset, sheet_length, line_of, accepted, header, records, bytes_of}
use Rattle.sheet.specs.Fields.{Fields, listed, sheet_of, fields_of}
use Rattle.sheet_line.specs.Records.{Along}
use Rattle.sheet.specs.Headed.{Headed}
use Rattle.sheet_line.proofs.Complement.{complement-signed, signed-complement, moderate-fits}
use Rattle.sheet.specs.Kept.{Kept}
use Rattle.sheet.proofs.Kept.{keeps-of, headed-of, accepted-is}
use Rattle.sheet.proofs.Parts.{part, part_join, half, two_bytes, four_bytes, table-bytes, two, four, u16-behind, u32-behind, u16-before, u32-before, records-length, first_back, second_back}

-- two lines with the same fields
pub record Alike (l m : Line) : Type 0 where
  pub stretches : l.stretches ≡ m.stretches
  pub signals : l.signals ≡ m.signals
  pub end : l.end ≡ m.end
  pub start : (k : ℕ) → k < l.stretches → l.start k ≡ m.start k
  pub gradient : (k : ℕ) → k < l.stretches → l.gradient k ≡ m.gradient k
  pub place : (k : ℕ) → k < l.signals → l.place k ≡ m.place k
  pub overlap : (k : ℕ) → k < l.signals → l.overlap k ≡ m.overlap k

same-records : (f g f' g' : ℕ → ℕ) (n : ℕ) → ((k : ℕ) → k < n → f k ≡ f' k) → ((k : ℕ) → k < n → g k ≡ g' k) → records f g n ≡ records f' g' n
unfolding records
same-records f g f' g' zero a b = refl
same-records f g f' g' (suc n) a b = rw (same-records f g f' g' n (λ k h. a k (omega arith)) (λ k h. b k (omega arith)), a n (omega arith), b n (omega arith))

-- they write the same bytes
pub same_bytes : (l m : Line) → Alike l m → bytes_of l ≡ bytes_of m
unfolding bytes_of
same_bytes l m a =
    rw (
      same-records l.start (λ k. complement (l.gradient k)) m.start (λ k. complement (m.gradient k)) l.stretches a.start (λ k h. ap complement (a.gradient k h)),
      same-records l.place l.overlap m.place m.overlap l.signals a.place a.overlap,
      a.stretches,
      a.signals,
      a.end,
    )

-- and keep the same rules
same-along : (x y : ℕ → ℕ) (R S : ℕ → Type 0) (n : ℕ) → ((k : ℕ) → k < n → x k ≡ y k) → ((k : ℕ) → k < n → R k → S k) → Along x R n → Along y S n
same-along x y R S n a b h = record { rising = λ k l. rw (← a k (omega arith), ← a (suc k) l) (h.rising k l); each = λ k l. b k l (h.each k l) }

pub same-rules : (l m : Line) → 0 < l.stretches → Alike l m → Kept l → Kept m
same-rules l m some a h =
    record {
      counts = rw (← a.stretches, ← a.signals, ← a.end) h.counts;
      origin = rw (← a.start 0 some) h.origin;
      stretches = rw (← a.stretches) (same-along l.start m.start _ _ l.stretches a.start (λ k j r. rw (← a.start k j, ← a.end, ← a.gradient k j) r) h.stretches);
      signals = rw (← a.signals) (same-along l.place m.place _ _ l.signals a.place (λ k j r. rw (← a.place k j, ← a.end, ← a.overlap k j) r) h.signals);
    }

pub header-length : (n m end : ℕ) → length (header n m end) ≡ 20
unfolding bytes2 bytes4
header-length n m end = refl

-- a line's bytes: its header is 20 long, its tables follow
module _ (l : Line) where
  abbrev header_bytes : List ℕ
  header_bytes = header l.stretches l.signals l.end

  abbrev stretch_table : List ℕ
  stretch_table = records l.start (λ k. complement (l.gradient k)) l.stretches

  abbrev signal_table : List ℕ
  signal_table = records l.place l.overlap l.signals

  front_length : length (header_bytes ++ stretch_table) ≡ signal_offset l.stretches
  front_length = length-append header_bytes stretch_table ∙ rw (header-length l.stretches l.signals l.end, records-length l.start (λ k. complement (l.gradient k)) l.stretches) refl

  pub bytes-length : length (bytes_of l) ≡ sheet_length l.stretches l.signals
  unfolding bytes_of
  bytes-length = length-append (header_bytes ++ stretch_table) signal_table ∙ rw (front_length, records-length l.place l.overlap l.signals) refl

  -- the header read back
  count-back : u16_at (bytes_of l) 0 ≡ l.stretches
  unfolding bytes_of bytes2 bytes4 u16_at
  count-back = two l.stretches

  signals-back : u16_at (bytes_of l) 2 ≡ l.signals
  unfolding bytes_of bytes2 bytes4 u16_at
  signals-back = two l.signals

  end_back : u32_at (bytes_of l) 16 ≡ l.end
  unfolding bytes_of bytes2 bytes4 u32_at u16_at
  end_back = four l.end

  headed : Headed (bytes_of l)
  unfolding bytes_of bytes2 bytes4 u32_at u16_at
  headed =
      record {
        room = rw bytes-length (omega arith);
        stretches = four stretch_offset;
        signals = rw count-back (four (signal_offset l.stretches));
        whole = rw (count-back, signals-back) (four (sheet_length l.stretches l.signals));
        lent = rw (count-back, signals-back) bytes-length;
      }

  -- the tables read back
  start_back : (k : ℕ) → k < l.stretches → u32_at (bytes_of l) (stretch_offset + 6 * k) ≡ l.start k
  unfolding bytes_of
  start_back k h =
      u32-before (header_bytes ++ stretch_table) signal_table (20 + 6 * k) (rw front_length (omega arith))
      ∙ ap (λ (n : ℕ). u32_at (header_bytes ++ stretch_table) (n + 6 * k)) (sym (header-length l.stretches l.signals l.end))
      ∙ u32-behind header_bytes stretch_table (6 * k)
      ∙ first_back _ _ l.stretches k h

  bits_back : (k : ℕ) → k < l.stretches → u16_at (bytes_of l) (stretch_offset + 6 * k + 4) ≡ complement (l.gradient k)
  unfolding bytes_of
  bits_back k h =
      u16-before (header_bytes ++ stretch_table) signal_table (20 + 6 * k + 4) (rw front_length (omega arith))
      ∙ ap (λ (n : ℕ). u16_at (header_bytes ++ stretch_table) n) (let z : 20 + 6 * k + 4 ≡ 20 + (6 * k + 4) = omega arith in z)
      ∙ ap (λ (n : ℕ). u16_at (header_bytes ++ stretch_table) (n + (6 * k + 4))) (sym (header-length l.stretches l.signals l.end))
      ∙ u16-behind header_bytes stretch_table (6 * k + 4)
      ∙ second_back l.start (λ k. complement (l.gradient k)) l.stretches k h

  place-back : (k : ℕ) → k < l.signals → u32_at (bytes_of l) (signal_offset l.stretches + 6 * k) ≡ l.place k
  unfolding bytes_of
  place-back k h =
      ap (λ (n : ℕ). u32_at (header_bytes ++ stretch_table ++ signal_table) (n + 6 * k)) (sym front_length)
      ∙ u32-behind (header_bytes ++ stretch_table) signal_table (6 * k)
      ∙ first_back _ _ l.signals k h

  overlap-back : (k : ℕ) → k < l.signals → u16_at (bytes_of l) (signal_offset l.stretches + 6 * k + 4) ≡ l.overlap k
  unfolding bytes_of
  overlap-back k h =
      ap (λ (n : ℕ). u16_at (header_bytes ++ stretch_table ++ signal_table) (n + 6 * k + 4)) (sym front_length)
      ∙ ap (λ (n : ℕ). u16_at (header_bytes ++ stretch_table ++ signal_table) n) (let z : length (header_bytes ++ stretch_table) + 6 * k + 4 ≡ length (header_bytes ++ stretch_table) + (6 * k + 4) = omega arith in z)
      ∙ u16-behind (header_bytes ++ stretch_table) signal_table (6 * k + 4)
      ∙ second_back l.place l.overlap l.signals k h

  -- a line whose gradients fit two bytes is read back from its bytes
  pub reads-back : ((k : ℕ) → k < l.stretches → Moderate (gradient_of (l.gradient k))) → Alike l (line_of (bytes_of l))
  reads-back small =
      record {
        stretches = sym count-back;
        signals = sym signals-back;
        end = sym end_back;
        start = λ k h. sym (start_back k h);
        gradient = λ k h. sym (ap signed (bits_back k h) ∙ signed-complement (l.gradient k) (moderate-fits (l.gradient k) (small k h)));
        place = λ k h. sym (rw count-back (place-back k h));
        overlap = λ k h. sym (rw count-back (overlap-back k h));
      }

-- the bytes of a line that keeps the rules are a sheet
pub accepted-again : (l : Line) → Kept l → accepted (bytes_of l) ≡ true
accepted-again l h =
    accepted-is (bytes_of l) (headed l) ∙ keeps-of (line_of (bytes_of l)) (same-rules l (line_of (bytes_of l)) h.counts.some (reads-back l (λ k j. (h.stretches.each k j).1)) h)

-- and it has the fields that were written
pub write_read : (f : Fields) → length f.gradients ≡ length f.starts → length f.overlaps ≡ length f.places → Kept (listed f) → fields_of (sheet_of f) ≡ f
write_read f p q h =
    let l = line_of (sheet_of f) in
    let a = reads-back (listed f) (λ k j. (h.stretches.each k j).1) in
    let n = sym a.stretches in
    let m = sym a.signals in
    let starts : up_to l.start l.stretches ≡ f.starts = ap (up_to l.start) n ∙ places_of 0 l.start f.starts (λ k j. sym (a.start k j)) in
    let gradients : up_to l.gradient l.stretches ≡ f.gradients = ap (up_to l.gradient) (n ∙ sym p) ∙ places_of (pos 0) l.gradient f.gradients (λ k j. sym (a.gradient k (subst (λ (n : ℕ). k < n) p j))) in
    let places : up_to l.place l.signals ≡ f.places = ap (up_to l.place) m ∙ places_of 0 l.place f.places (λ k j. sym (a.place k j)) in
    let overlaps : up_to l.overlap l.signals ≡ f.overlaps = ap (up_to l.overlap) (m ∙ sym q) ∙ places_of 0 l.overlap f.overlaps (λ k j. sym (a.overlap k (subst (λ (n : ℕ). k < n) q j))) in
    rw (starts, gradients, places, overlaps, ← a.end) refl

-- the other way: a sheet's header and tables are where they lie
module _ (s : List ℕ) (bytes : (i : ℕ) → get_or s i 0 < 256) where
  abbrev numbers : ℕ → ℕ → ℕ → ℕ → ℕ → ℕ → List ℕ
  numbers a b c d e f = bytes2 a ++ bytes2 b ++ bytes4 c ++ bytes4 d ++ bytes4 e ++ bytes4 f

  header-lies : Headed s → header (u16_at s 0) (u16_at s 2) (u32_at s 16) ≡ part s 0 20
  header-lies h =
      let r = h.room in
      let n = u16_at s 0 in
      let m = u16_at s 2 in
      ap (λ (c : ℕ). numbers n m c (signal_offset n) (sheet_length n m) (u32_at s 16)) (sym h.stretches)
      ∙ ap (λ (d : ℕ). numbers n m (u32_at s 4) d (sheet_length n m) (u32_at s 16)) (sym h.signals)
      ∙ ap (λ (e : ℕ). numbers n m (u32_at s 4) (u32_at s 8) e (u32_at s 16)) (sym h.whole)
      ∙ rw (
        two_bytes s bytes 0 (omega arith),
        two_bytes s bytes 2 (omega arith),
        four_bytes s bytes 4 (omega arith),
        four_bytes s bytes 8 (omega arith),
        four_bytes s bytes 12 (omega arith),
        four_bytes s bytes 16 (omega arith),
        part_join s 0 2 2,
        part_join s 0 4 4,
        part_join s 0 8 4,
        part_join s 0 12 4,
        part_join s 0 16 4,
      ) refl

  line-lies : Headed s → bytes_of (line_of s) ≡ s
  unfolding bytes_of
  line-lies h =
      let n = u16_at s 0 in
      let m = u16_at s 2 in
      let all = h.lent in
      let back = same-records (line_of s).start (λ k. complement ((line_of s).gradient k)) (line_of s).start (λ k. u16_at s (20 + 6 * k + 4)) n (λ k l. refl) (λ k l. complement-signed _ (half s bytes (20 + 6 * k + 4))) in
      let z : 0 + signal_offset n ≡ signal_offset n = omega arith in
      let whole : part s 0 (signal_offset n) ++ part s (signal_offset n) (6 * m) ≡ part s 0 (signal_offset n + 6 * m) = rw z at (part_join s 0 (signal_offset n) (6 * m)) in
      rw (header-lies h, back, table-bytes s bytes 20 n (omega arith), table-bytes s bytes (signal_offset n) m (omega arith), part_join s 0 20 (6 * n), whole) (take_all (sheet_length n m) s (omega arith))

  fields_lie : Alike (listed (fields_of s)) (line_of s)
  fields_lie =
      let l = line_of s in
      let n = places-length l.start l.stretches in
      let m = places-length l.place l.signals in
      record {
        stretches = n;
        signals = m;
        end = refl;
        start = λ k h. places-at l.start l.stretches k 0 (rw (← n) h);
        gradient = λ k h. places-at l.gradient l.stretches k (pos 0) (rw (← n) h);
        place = λ k h. places-at l.place l.signals k 0 (rw (← m) h);
        overlap = λ k h. places-at l.overlap l.signals k 0 (rw (← m) h);
      }

  -- an accepted sheet's fields write its bytes
  pub read-write : accepted s ≡ true → sheet_of (fields_of s) ≡ s
  read-write h = same_bytes (listed (fields_of s)) (line_of s) fields_lie ∙ line-lies (headed-of s h).0
