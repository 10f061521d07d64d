-- Document 01's example sheet, and one with falls in two's complement, by the definitions: accepted, with these fields, which write it.
use mathlib.Core.Path.{◌≡◌, refl}
use mathlib.Core.Bool.{true}
use mathlib.Core.List.{List, [], ◌∷◌}
use Prim.Native.Nat.{ℕ}
use lib.IntN.{pos, negsuc}
use Rattle.lists.specs.Counted.{up_to, every, all_hold}
use Rattle.sheet_line.specs.Bytes.{u16_at, u32_at, bytes2, bytes4, signed, complement}
use Rattle.sheet.specs.Sheet.{keeps, accepted, records, bytes_of}
use Rattle.sheet.specs.Fields.{Fields, four_lists, sheet_of, fields_of}

-- 01 00 02 00 14 00 00 00 1A 00 00 00 26 00 00 00 D0 07 00 00, a stretch, two signals
abbrev example : List ℕ
example =
    1 ∷ 0 ∷ 2 ∷ 0 ∷ 20 ∷ 0 ∷ 0 ∷ 0 ∷ 26 ∷ 0 ∷ 0 ∷ 0 ∷ 38 ∷ 0 ∷ 0 ∷ 0 ∷ 208 ∷ 7 ∷ 0 ∷ 0
    ∷ 0 ∷ 0 ∷ 0 ∷ 0 ∷ 0 ∷ 0
    ∷ 0 ∷ 0 ∷ 0 ∷ 0 ∷ 120 ∷ 0
    ∷ 33 ∷ 4 ∷ 0 ∷ 0 ∷ 0 ∷ 0 ∷ []

abbrev fields : Fields
fields = record { starts = 0 ∷ []; gradients = pos 0 ∷ []; places = 0 ∷ 1057 ∷ []; overlaps = 120 ∷ 0 ∷ []; end = 2000 }

pub example-accepted : accepted example ≡ true
unfolding accepted keeps all_hold every u32_at u16_at signed
example-accepted = refl

pub example-fields : fields_of example ≡ fields
unfolding up_to u32_at u16_at signed
example-fields = refl

pub example-written : sheet_of fields ≡ example
unfolding bytes_of records bytes4 bytes2 complement
example-written = refl

-- the writer's lists in their order: starts, gradients, places, overlaps
pub example-lists : sheet_of (four_lists (0 ∷ []) (pos 0 ∷ []) (0 ∷ 1057 ∷ []) (120 ∷ 0 ∷ []) 2000) ≡ example
unfolding bytes_of records bytes4 bytes2 complement
example-lists = refl

-- 03 00 01 00 14 00 00 00 26 00 00 00 2C 00 00 00 20 A1 07 00, stretches of -1 (FF FF), 35 (23 00) and -35 (DD FF), a signal
abbrev slopes : List ℕ
slopes =
    3 ∷ 0 ∷ 1 ∷ 0 ∷ 20 ∷ 0 ∷ 0 ∷ 0 ∷ 38 ∷ 0 ∷ 0 ∷ 0 ∷ 44 ∷ 0 ∷ 0 ∷ 0 ∷ 32 ∷ 161 ∷ 7 ∷ 0
    ∷ 0 ∷ 0 ∷ 0 ∷ 0 ∷ 255 ∷ 255
    ∷ 100 ∷ 0 ∷ 0 ∷ 0 ∷ 35 ∷ 0
    ∷ 3 ∷ 2 ∷ 1 ∷ 0 ∷ 221 ∷ 255
    ∷ 5 ∷ 0 ∷ 0 ∷ 0 ∷ 1 ∷ 2 ∷ []

abbrev sloping : Fields
sloping = record { starts = 0 ∷ 100 ∷ 66051 ∷ []; gradients = negsuc 0 ∷ pos 35 ∷ negsuc 34 ∷ []; places = 5 ∷ []; overlaps = 513 ∷ []; end = 500000 }

pub slopes-accepted : accepted slopes ≡ true
unfolding accepted keeps all_hold every u32_at u16_at signed
slopes-accepted = refl

pub slopes-fields : fields_of slopes ≡ sloping
unfolding up_to u32_at u16_at signed
slopes-fields = refl

pub slopes-written : sheet_of sloping ≡ slopes
unfolding bytes_of records bytes4 bytes2 complement
slopes-written = refl
