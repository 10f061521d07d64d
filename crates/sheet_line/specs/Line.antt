-- Document 01, "Line sheet": a line's fields and their rules, wherever the fields are kept.
use Rattle.std.specs.Prelude.{Bool, ◌&&◌, List, [], ◌∷◌, ℕ, suc, ◌+◌, ◌-◌, leb, ltb, eqb, ℤ}
use Rattle.lists.specs.Counted.{every}
use Rattle.train.specs.Gradient.{gradient_of}

-- how many stretches and signals, the line end in metres, and each field by number from 0
pub record Line : Type 0 where
  pub stretches : ℕ
  pub signals : ℕ
  pub end : ℕ
  -- a stretch: where it starts, in metres, and its gradient, in per mille
  pub start : ℕ → ℕ
  pub gradient : ℕ → ℤ
  -- a signal: where it stands, and how many metres past it a train may still come to a stop
  pub place : ℕ → ℕ
  pub overlap : ℕ → ℕ

abbrev pub most_stretches : ℕ
most_stretches = 512

abbrev pub most_signals : ℕ
most_signals = 64

abbrev pub farthest_end : ℕ
farthest_end = 500000

-- the first n rise strictly
abbrev pub rises : (ℕ → ℕ) → ℕ → Bool
rises x n = every (n - 1) (λ k. ltb (x k) (x (suc k)))

-- -35 to 35
abbrev pub moderate : ℤ → Bool
moderate z = leb (gradient_of z).rise 35 && leb (gradient_of z).fall 35

module _ (l : Line) where
  -- 1 to 512 stretches, at most 64 signals, a line end of 1 to 500,000
  abbrev pub count_rules : List Bool
  count_rules = leb 1 l.stretches ∷ leb l.stretches most_stretches ∷ leb l.signals most_signals ∷ leb 1 l.end ∷ leb l.end farthest_end ∷ []

  -- the first starts at 0, starts rise strictly and are below the line end, gradients are -35 to 35
  abbrev pub stretch_rules : List Bool
  stretch_rules =
      eqb (l.start 0) 0
      ∷ rises l.start l.stretches
      ∷ every l.stretches (λ k. ltb (l.start k) l.end)
      ∷ every l.stretches (λ k. moderate (l.gradient k))
      ∷ []

  -- places rise strictly and are below the line end, place + overlap is at most the line end
  abbrev pub signal_rules : List Bool
  signal_rules =
      rises l.place l.signals
      ∷ every l.signals (λ k. ltb (l.place k) l.end)
      ∷ every l.signals (λ k. leb (l.place k + l.overlap k) l.end)
      ∷ []
