-- Two's complement: forth and back, and which numbers stand for -35 to 35.
use mathlib.Core.Path.{◌≡◌, ap, ◌∙◌}
use mathlib.Core.Logic.{⊎_elim}
use Prim.Native.Nat.{ℕ, ◌-◌, ◌≤◌, ◌<◌}
use native.Mathlib.Omega.{arith}
use borrow.Author.Tests.{lt-ltb, le-ltb}
use lib.IntN.{ℤ, pos, negsuc}
use mir.Syntax.{w16}
use mir.Val.{SFits}
use Rattle.lists.proofs.Split.{below}
use Rattle.train.specs.Gradient.{gradient_of, Moderate}
use Rattle.sheet_line.specs.Bytes.{signed, complement}

pub signed_up : (x : ℕ) → x < 32768 → signed x ≡ pos x
unfolding signed
signed_up x h = simp (lt-ltb x 32768 h)

pub signed-down : (x : ℕ) → 32768 ≤ x → signed x ≡ negsuc (65535 - x)
unfolding signed
signed-down x h = simp (le-ltb x 32768 h)

pub complement-signed : (x : ℕ) → x < 65536 → complement (signed x) ≡ x
unfolding complement
complement-signed x h =
    let z : 65535 - (65535 - x) ≡ x = omega arith in
    ⊎_elim (λ l. ap complement (signed_up x l)) (λ l. ap complement (signed-down x l) ∙ z) (below x 32768)

pub signed-complement : (z : ℤ) → SFits w16 z → signed (complement z) ≡ z
unfolding complement
signed-complement (pos n) f = signed_up n (omega (arith, f.sfits))
signed-complement (negsuc n) f = signed-down (65535 - n) (omega (arith, f.sfits)) ∙ ap negsuc (let z : 65535 - (65535 - n) ≡ n = omega (arith, f.sfits) in z)

pub complement-fits : (z : ℤ) → SFits w16 z → complement z < 65536
unfolding complement
complement-fits (pos n) f = omega (arith, f.sfits)
complement-fits (negsuc n) f = omega arith

-- -35 to 35 are 0 to 35 and 65,501 to 65,535
pub small-rise : (y : ℕ) → y ≤ 35 → Moderate (gradient_of (signed y))
small-rise y h = rw (signed_up y (omega arith)) (record { rise = h; fall = omega arith })

pub small-fall : (y : ℕ) → 65501 ≤ y → Moderate (gradient_of (signed y))
small-fall y h = rw (signed-down y (omega arith)) (record { rise = omega arith; fall = omega arith })

pub too-steep : (y : ℕ) → 35 < y → y < 65501 → Moderate (gradient_of (signed y)) → ⊥
too-steep y h k m =
    ⊎_elim
    (λ l. let r = (rw (signed_up y l) at m).rise in omega arith)
    (λ l. let r = (rw (signed-down y l) at m).fall in omega arith)
    (below y 32768)

-- which fit 16 bits
pub moderate-fits : (z : ℤ) → Moderate (gradient_of z) → SFits w16 z
moderate-fits (pos n) m = record { sfits = omega (arith, m.rise) }
moderate-fits (negsuc n) m = record { sfits = omega (arith, m.fall) }
