-- Document 002, section 9, as it is printed: speeds in km/h.
use Rattle.std.specs.Prelude.{cond, ℕ, leb, ltb}
use Rattle.exact.specs.Fraction.{Fraction, whole, ◌over◌, ◌+q◌, ◌-q◌, ◌*q◌, ◌/q◌, ◌≈q◌}
use Rattle.train.specs.declared.Kmh.{Kmh}
use Rattle.ceilings.specs.declared.Limits.{Limits}

-- its parameters for one ceiling: V1 and V2 in km/h, ΔVmin and ΔVmax in tenths of a km/h
pub record Parameters : Type 0 where
  pub V1 : ℕ
  pub V2 : ℕ
  pub min : ℕ
  pub max : ℕ

-- the first values
abbrev pub W : Parameters
W = record { V1 = 110; V2 = 140; min = 40; max = 50 }

abbrev pub SBI : Parameters
SBI = record { V1 = 110; V2 = 210; min = 50; max = 100 }

abbrev pub EBI : Parameters
EBI = record { V1 = 110; V2 = 210; min = 75; max = 150 }

module _ (p : Parameters) (v : Kmh) where
  unfoldable pub ΔV : Fraction
  ΔV =
      cond (leb v.0 p.V1) (p.min over 10)
      (cond (ltb v.0 p.V2)
      ((p.min over 10) +q ((p.max over 10) -q (p.min over 10)) /q (whole p.V2 -q whole p.V1) *q (whole v.0 -q whole p.V1))
      (p.max over 10))

  abbrev pub ceiling : Fraction
  ceiling = ΔV +q whole v.0

-- the second demand: each ceiling equals the paper's, in 120ths of a km/h
pub record AsPrinted (v : Kmh) (l : Limits) : Type 0 where
  pub w : l.w.0 over 120 ≈q ceiling W v
  pub sbi : l.sbi.0 over 120 ≈q ceiling SBI v
  pub ebi : l.ebi.0 over 120 ≈q ceiling EBI v
