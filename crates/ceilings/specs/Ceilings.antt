-- Document 01, "Ceilings", in 120ths of a km/h.
use Rattle.std.specs.Prelude.{cond, ℕ, ◌+◌, ◌*◌, ◌-◌, ◌≤◌, leb, ltb}
use Rattle.train.specs.declared.Kmh.{Kmh}
use Rattle.train.specs.Units.{kmh}
use Rattle.ceilings.specs.declared.Band.{Band}
use Rattle.ceilings.specs.declared.Ceiling.{Ceiling}
use Rattle.ceilings.specs.declared.Limits.{Limits}

-- what each ceiling adds up to 110 km/h, its growth for each km/h from there on, and where that ends
abbrev pub w : Band
w = record { least = 480; growth = 4; end = kmh 140 }

abbrev pub sbi : Band
sbi = record { least = 600; growth = 6; end = kmh 210 }

abbrev pub ebi : Band
ebi = record { least = 900; growth = 9; end = kmh 210 }

-- for how many km/h above 110 a ceiling has grown
unfoldable pub grown_to : Kmh → Kmh → ℕ
grown_to end v = cond (leb v.0 110) 0 (cond (ltb v.0 end.0) (v.0 - 110) (end.0 - 110))

unfoldable pub ceiling_of : Band → Kmh → Ceiling
ceiling_of b v = record { 0 = 120 * v.0 + b.least + b.growth * grown_to b.end v }

abbrev pub given : Kmh → Limits
given v = record { refusal = 0; w = ceiling_of w v; sbi = ceiling_of sbi v; ebi = ceiling_of ebi v }

-- a refusal, with zeros
abbrev pub refused : Limits
refused = record { refusal = 3; w = record { 0 = 0 }; sbi = record { 0 = 0 }; ebi = record { 0 = 0 } }

-- speeds of 0 to 330
unfoldable pub limits_of : Kmh → Limits
limits_of v = cond (ltb 330 v.0) refused (given v)

-- what keeps a ceiling within 32 bits
pub record Narrow (b : Band) : Type 0 where
  pub least : b.least ≤ 1000
  pub growth : b.growth ≤ 10
  pub end : b.end.0 ≤ 330
  pub above : 110 ≤ b.end.0
