-- Document 01, "Line sheet" and "What is turned away": what the writer answers, and the lent buffer afterwards.
use Rattle.std.specs.Prelude.{◌≡◌, not, cond, List, [], ◌∷◌, ◌++◌, ℕ, ◌+◌, ◌*◌, ◌≤◌, ltb, eqb, length, take, drop}
use Rattle.train.specs.declared.Written.{Written}
use Rattle.train.specs.Refusal.{Refusal, ◌gives◌, first_of}
use Rattle.train.specs.Judged.{◌keeps◌, Judged}
use Rattle.train.specs.Lent.{FirstDemand}
use Rattle.sheet.specs.Sheet.{sheet_length}
use Rattle.sheet.specs.Fields.{Fields, writable, Writable, sheet_of, fields_of}
use Rattle.sheet.specs.Kept.{IsSheet}

module _ (f : Fields) where
  abbrev pub size : ℕ
  size = sheet_length (length f.starts) (length f.places)

  -- unequal paired lists or a rule broken, then a buffer too short
  abbrev pub write_refusals : ℕ → List Refusal
  write_refusals room = not (writable f) gives 7 ∷ ltb room size gives 11 ∷ []

  unfoldable pub write_of : ℕ → Written
  write_of room = cond (eqb (first_of (write_refusals room)) 0) (record { refusal = 0; length = size }) (record { refusal = first_of (write_refusals room); length = 0 })

  -- the sheet, and behind it the rest as it was; a refusal leaves all
  unfoldable pub buffer_after : List ℕ → List ℕ
  buffer_after lent = cond (eqb (first_of (write_refusals (length lent))) 0) (sheet_of f ++ drop size lent) lent

  -- what the writer promises: its answer, the whole buffer afterwards, the first demand (the lists that it reads are as they were), what
  -- is turned away, how long the sheet is, and that what was written is a sheet which reads back as its fields
  pub record Writes (lists : Fields) (before : List ℕ) (r : Written) (after : List ℕ) : Type 0 where
    pub answer : r ≡ write_of (length before)
    pub memory : after ≡ buffer_after before
    pub unwritten : lists ≡ f
    pub lent : FirstDemand r.refusal (r.length ∷ []) before after r.length
    pub spans : Judged (7 keeps Writable f ∷ 11 keeps (20 + 6 * length f.starts + 6 * length f.places ≤ length before) ∷ []) r.refusal
    pub long : r.refusal ≡ 0 → r.length ≡ 20 + 6 * length f.starts + 6 * length f.places
    pub sheet : r.refusal ≡ 0 → IsSheet (take r.length after)
    pub back : r.refusal ≡ 0 → fields_of (take r.length after) ≡ f
