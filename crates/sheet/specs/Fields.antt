-- Document 01, "Line sheet": the fields as four lists and the line end, from a sheet's bytes and back.
use Rattle.std.specs.Prelude.{◌≡◌, Bool, true, ◌&&◌, List, ℕ, eqb, ℤ, pos, length, get_or}
use Rattle.lists.specs.Counted.{up_to}
use Rattle.sheet_line.specs.Line.{Line}
use Rattle.sheet_line.specs.Records.{Decides}
use Rattle.sheet.specs.Sheet.{line_of, keeps, accepted, bytes_of}
use Rattle.sheet.specs.Kept.{Kept, IsSheet}

pub record Fields : Type 0 where
  pub starts : List ℕ
  pub gradients : List ℤ
  pub places : List ℕ
  pub overlaps : List ℕ
  pub end : ℕ

abbrev pub four_lists : List ℕ → List ℤ → List ℕ → List ℕ → ℕ → Fields
four_lists starts gradients places overlaps end = record { starts = starts; gradients = gradients; places = places; overlaps = overlaps; end = end }

-- the line that they describe
abbrev pub listed : Fields → Line
listed f =
    record {
      stretches = length f.starts;
      signals = length f.places;
      end = f.end;
      start = λ k. get_or f.starts k 0;
      gradient = λ k. get_or f.gradients k (pos 0);
      place = λ k. get_or f.places k 0;
      overlap = λ k. get_or f.overlaps k 0;
    }

-- the paired lists are as long as each other, and every rule is kept
unfoldable pub writable : Fields → Bool
writable f = eqb (length f.gradients) (length f.starts) && (eqb (length f.overlaps) (length f.places) && keeps (listed f))

-- the same in words of its own
pub record Writable (f : Fields) : Type 0 where
  pub stretches : length f.gradients ≡ length f.starts
  pub signals : length f.overlaps ≡ length f.places
  pub kept : Kept (listed f)

-- the sheet that they write, and the fields that a sheet has
abbrev pub sheet_of : Fields → List ℕ
sheet_of f = bytes_of (listed f)

abbrev pub fields_of : List ℕ → Fields
fields_of s =
    let l = line_of s in
    record {
      starts = up_to l.start l.stretches;
      gradients = up_to l.gradient l.stretches;
      places = up_to l.place l.signals;
      overlaps = up_to l.overlap l.signals;
      end = l.end;
    }

-- what is read of the k-th stretch or signal is the k-th place of each of its lists
pub record KthStretch (s : List ℕ) (k start : ℕ) (gradient : ℤ) : Type 0 where
  pub starts : start ≡ get_or (fields_of s).starts k 0
  pub gradients : gradient ≡ get_or (fields_of s).gradients k (pos 0)

pub record KthSignal (s : List ℕ) (k place overlap : ℕ) : Type 0 where
  pub places : place ≡ get_or (fields_of s).places k 0
  pub overlaps : overlap ≡ get_or (fields_of s).overlaps k 0

-- what the check of a sheet promises: its answer, that it is true just of sheets, and that an accepted sheet's fields write its bytes
pub record Checked (s : List ℕ) (r : Bool) : Type 0 where
  pub answer : r ≡ accepted s
  pub sheet : Decides r (IsSheet s)
  pub again : r ≡ true → sheet_of (fields_of s) ≡ s
