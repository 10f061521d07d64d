-- Document 01, "Line sheet", in words of its own: what a line keeps, and which bytes are a sheet; else refusal 7.
use Rattle.std.specs.Prelude.{◌≡◌, List, ℕ, ◌+◌, ◌≤◌, ◌<◌}
use Rattle.train.specs.Gradient.{gradient_of, Moderate}
use Rattle.train.specs.Judged.{Rule, ◌keeps◌}
use Rattle.sheet_line.specs.Line.{Line}
use Rattle.sheet_line.specs.Records.{Counts, Along}
use Rattle.sheet.specs.Sheet.{line_of}
use Rattle.sheet.specs.Headed.{Headed}

pub record Kept (l : Line) : Type 0 where
  pub counts : Counts l.stretches l.signals l.end
  pub origin : l.start 0 ≡ 0
  pub stretches : Along l.start (λ k. (l.start k < l.end) × Moderate (gradient_of (l.gradient k))) l.stretches
  pub signals : Along l.place (λ k. (l.place k < l.end) × (l.place k + l.overlap k ≤ l.end)) l.signals

pub record IsSheet (s : List ℕ) : Type 0 where
  pub header : Headed s
  pub line : Kept (line_of s)

abbrev pub sheet_rule : List ℕ → Rule
sheet_rule s = 7 keeps IsSheet s
