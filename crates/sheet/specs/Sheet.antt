-- Document 01, "Line sheet": the layout, a line's fields from its bytes and its bytes from fields, and which bytes are a sheet.
use Rattle.std.specs.Prelude.{Bool, List, [], ◌∷◌, ◌++◌, ℕ, zero, suc, ◌+◌, ◌*◌, leb, eqb, length}
use Rattle.lists.specs.Counted.{all_hold}
use Rattle.sheet_line.specs.Bytes.{u16_at, u32_at, bytes2, bytes4, signed, complement}
use Rattle.sheet_line.specs.Line.{Line, count_rules, stretch_rules, signal_rules}

-- a header of 20 bytes, then n stretches and m signals of 6 bytes each
abbrev pub stretch_offset : ℕ
stretch_offset = 20

abbrev pub signal_offset : ℕ → ℕ
signal_offset n = stretch_offset + 6 * n

abbrev pub sheet_length : ℕ → ℕ → ℕ
sheet_length n m = signal_offset n + 6 * m

-- the fields from the bytes
abbrev pub line_of : List ℕ → Line
line_of s =
    record {
      stretches = u16_at s 0;
      signals = u16_at s 2;
      end = u32_at s 16;
      start = λ k. u32_at s (stretch_offset + 6 * k);
      gradient = λ k. signed (u16_at s (stretch_offset + 6 * k + 4));
      place = λ k. u32_at s (signal_offset (u16_at s 0) + 6 * k);
      overlap = λ k. u16_at s (signal_offset (u16_at s 0) + 6 * k + 4);
    }

-- the header's other three numbers, and the length of the lent slice
abbrev pub header_rules : List ℕ → List Bool
header_rules s =
    let n = u16_at s 0 in
    let m = u16_at s 2 in
    leb 20 (length s) ∷ eqb (u32_at s 4) stretch_offset ∷ eqb (u32_at s 8) (signal_offset n) ∷ eqb (u32_at s 12) (sheet_length n m) ∷ eqb (length s) (sheet_length n m) ∷ []

-- every rule of the paper is kept
unfoldable pub keeps : Line → Bool
keeps l = all_hold (count_rules l ++ (stretch_rules l ++ signal_rules l))

unfoldable pub accepted : List ℕ → Bool
accepted s = all_hold (header_rules s ++ (keeps (line_of s) ∷ []))

-- the bytes from the fields
abbrev pub header : ℕ → ℕ → ℕ → List ℕ
header n m end = bytes2 n ++ bytes2 m ++ bytes4 stretch_offset ++ bytes4 (signal_offset n) ++ bytes4 (sheet_length n m) ++ bytes4 end

unfoldable pub records : (ℕ → ℕ) → (ℕ → ℕ) → ℕ → List ℕ
records first second zero = []
records first second (suc k) = records first second k ++ (bytes4 (first k) ++ bytes2 (second k))

unfoldable pub bytes_of : Line → List ℕ
bytes_of l =
    header l.stretches l.signals l.end
    ++ records l.start (λ k. complement (l.gradient k)) l.stretches
    ++ records l.place l.overlap l.signals
