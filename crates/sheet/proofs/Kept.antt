-- The bytes that are accepted are the sheets.
use mathlib.Core.Path.{◌≡◌, sym, ◌∙◌}
use mathlib.Core.Bool.{true, not, false≢true}
use mathlib.Core.List.{List, [], ◌∷◌}
use Prim.Native.Nat.{ℕ}
use borrow.Author.Tests.{not-true, not-false}
use Rattle.train.specs.Refusal.{◌gives◌}
use Rattle.train.proofs.Judging.{Settles, settled}
use Rattle.sheet_line.specs.Records.{Decides}
use Rattle.sheet.specs.Sheet.{line_of, accepted}
use Rattle.sheet.specs.Kept.{IsSheet, sheet_rule}
pub use Rattle.sheet.proofs.Headed.{kept_of, keeps-of, headed-of, accepted-is}

pub sheet-of : (s : List ℕ) → accepted s ≡ true → IsSheet s
sheet-of s h = let (a, b) = headed-of s h in record { header = a; line = b }

pub sheet-is : (s : List ℕ) → IsSheet s → accepted s ≡ true
sheet-is s h = accepted-is s h.header ∙ keeps-of (line_of s) h.line

pub sheet-decides : (s : List ℕ) → Decides (accepted s) (IsSheet s)
sheet-decides s = record { yes = sheet-of s; no = λ e h. false≢true (sym e ∙ sheet-is s h) }

pub sheet-settles : (s : List ℕ) → Settles (sheet_rule s) (not (accepted s) gives 7 ∷ [])
sheet-settles s = settled (sheet_rule s) tt (not (accepted s)) (λ e. sheet-of s (not-false _ e)) (λ e h. false≢true (sym (not-true _ e) ∙ sheet-is s h))
