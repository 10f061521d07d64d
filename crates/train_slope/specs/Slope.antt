-- Document 01, "Train and slope"; document 002, sections 7.2 and 7.3.4; document 02, Card 5.
use Rattle.std.specs.Prelude.{cond, ℕ, ◌+◌, leb, ltb}
use Rattle.exact.specs.Fraction.{Fraction, whole, signed, ◌over◌, ◌+q◌, ◌*q◌}
use Rattle.train.specs.declared.Inertia.{Inertia}
use Rattle.train.specs.declared.Gradient.{Gradient}

-- in hundredths: Ki1 for i above i1, Ki3 for i at most i2, Ki2 between; i is rise - fall, and so is i2
unfoldable pub factor : Inertia → Gradient → ℕ
factor k g = cond (ltb (k.i1 + g.fall) g.rise) k.ki1 (cond (leb (k.i2.fall + g.rise) (k.i2.rise + g.fall)) k.ki3 k.ki2)

-- Ki · g · i, in m/s²
unfoldable pub di : Inertia → Gradient → Fraction
di k g = (factor k g over 100) *q ((981 over 100) *q signed g.rise g.fall 1000)

-- A · BW + B, in m/s²
unfoldable pub dr : ℕ → Fraction
dr weight = (685 over 100000) *q whole weight +q (94 over 1000)
