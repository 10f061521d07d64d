-- Document 01, "Train and slope": a gradient is a whole number of per mille, positive uphill.
use Rattle.std.specs.Prelude.{suc, ◌≤◌, ℤ, pos, negsuc}
use Rattle.train.specs.declared.Gradient.{Gradient}

-- n uphill is rise n, n downhill is fall n; negsuc n is -(n + 1)
abbrev pub gradient_of : ℤ → Gradient
gradient_of (pos n) = record { rise = n; fall = 0 }
gradient_of (negsuc n) = record { rise = 0; fall = suc n }

-- from -35 to 35
pub record Moderate (g : Gradient) : Type 0 where
  pub rise : g.rise ≤ 35
  pub fall : g.fall ≤ 35
