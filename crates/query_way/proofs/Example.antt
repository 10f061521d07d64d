-- A line that rises and falls, by the definitions: the gradients of its ways, the stretches that govern them, and that agreement from the
-- head on does not settle them.
use mathlib.Core.Path.{◌≡◌, refl, ap}
use mathlib.Core.Bool.{Bool, true, false, cond}
use mathlib.Core.List.{List, [], ◌∷◌}
use Prim.Native.Nat.{ℕ, ◌≤◌}
use native.Mathlib.Omega.{arith}
use borrow.Author.Tests.{le-leb}
use lib.Dec.{leb}
use Rattle.train.specs.declared.Gradient.{Gradient}
use Rattle.train.specs.Units.{metres}
use Rattle.sheet_line.specs.Bytes.{u16_at, u32_at, signed}
use Rattle.sheet.specs.Sheet.{line_of}
use Rattle.sheet_span.specs.Least.{slope, stretch_up_to, slope_at, least_of, governing_of}
use Rattle.query_way.specs.declared.Way.{Way}
use Rattle.query_way.specs.Way.{past_of, way_of, governing_past, governing_on}

-- stretches from 0 (10), 3 (in these two bytes), 6 (3) and 9 (-20, EC FF); a signal at 6 with an overlap of 3; line end 12
abbrev pub line : ℕ → ℕ → List ℕ
line low high =
    4 ∷ 0 ∷ 1 ∷ 0 ∷ 20 ∷ 0 ∷ 0 ∷ 0 ∷ 44 ∷ 0 ∷ 0 ∷ 0 ∷ 50 ∷ 0 ∷ 0 ∷ 0 ∷ 12 ∷ 0 ∷ 0 ∷ 0
    ∷ 0 ∷ 0 ∷ 0 ∷ 0 ∷ 10 ∷ 0
    ∷ 3 ∷ 0 ∷ 0 ∷ 0 ∷ low ∷ high
    ∷ 6 ∷ 0 ∷ 0 ∷ 0 ∷ 3 ∷ 0
    ∷ 9 ∷ 0 ∷ 0 ∷ 0 ∷ 236 ∷ 255
    ∷ 6 ∷ 0 ∷ 0 ∷ 0 ∷ 3 ∷ 0 ∷ []

-- with a fall of 5 (FB FF) before the signal, and with a rise of 4 there
abbrev pub hilly : List ℕ
hilly = line 251 255

abbrev eased : List ℕ
eased = line 4 0

-- with the same rise of 3 before the signal as behind it
abbrev pub alike-there : List ℕ
alike-there = line 3 0

abbrev leads : ℕ → Gradient → Gradient → Way
leads distance ahead past = record { distance = metres distance; ahead = ahead; overlap = metres 3; past = past }

abbrev up : ℕ → Gradient
up n = record { rise = n; fall = 0 }

abbrev down : ℕ → Gradient
down n = record { rise = 0; fall = n }

-- head, L, and the way: distance, gradient ahead, gradient of the overlap
abbrev Goes : ℕ → ℕ → Way → Type 0
Goes head length w = way_of (line_of hilly) 0 head length ≡ w

-- Without a length: from 0 and from 5 the fall of 5 is the least ahead, from the signal itself its own stretch; past it neither the fall
-- before nor the one behind. With 1 m the tail stands on the fall as the head is at the signal. From 6 a tail of 3 m is on the fall's
-- first point; one of 6 m at 0, and so is every longer one.
pub ways : Goes 0 0 (leads 6 (down 5) (up 3)) × (Goes 5 0 (leads 1 (down 5) (up 3)) × (Goes 6 0 (leads 0 (up 3) (up 3)) × (Goes 6 1 (leads 0 (down 5) (down 5)) × (Goes 6 3 (leads 0 (down 5) (down 5)) × (Goes 2 6 (leads 4 (down 5) (down 5)) × Goes 6 1000 (leads 0 (down 5) (down 5)))))))
unfolding way_of past_of least_of stretch_up_to u32_at u16_at signed
ways = (refl, (refl, (refl, (refl, (refl, (refl, refl))))))

-- Card 4: head, L, and the stretches that govern the overlap and the way ahead
abbrev Governed : List ℕ → ℕ → ℕ → ℕ → ℕ → Type 0
Governed s head length overlap ahead = governing_on (line_of s) 0 head length ≡ record { overlap = overlap; ahead = ahead }

-- On the first line the fall from 3 governs where a point of it is in the span. On the line with two equal rises the first of them does,
-- unless the span has points of the second alone. An overlap of no length has none.
pub governed : Governed hilly 0 0 2 1 × (Governed hilly 6 0 2 2 × (Governed hilly 6 1 1 1 × (Governed alike-there 0 0 2 1 × (Governed alike-there 6 0 2 2 × (Governed alike-there 6 1 1 1 × (governing_past (line_of hilly) 6 0 5 ≡ 65535))))))
unfolding governing_on governing_past governing_of stretch_up_to u32_at u16_at signed
governed = (refl, (refl, (refl, (refl, (refl, (refl, refl))))))

-- from 6 on the two lines are the same
alike : (b : Bool) → slope (line_of hilly) (cond b 3 2) ≡ slope (line_of eased) (cond b 3 2)
unfolding u32_at u16_at signed
alike true = refl
alike false = refl

-- it is not enough to agree from the head on: with the head at 6 and an L of 1 the two ways differ
pub not-from-the-head : ((p : ℕ) → 6 ≤ p → slope_at (line_of hilly) p ≡ slope_at (line_of eased) p) × (way_of (line_of hilly) 0 6 1 ≡ way_of (line_of eased) 0 6 1 → ⊥)
unfolding way_of past_of least_of stretch_up_to u32_at u16_at signed
not-from-the-head = ((λ p h. rw (le-leb 6 p h) (alike (leb 9 p))), (λ e. let i : ◌≡◌ {A = ℕ} 5 0 = ap (λ (w : Way). w.ahead.fall) e in omega arith))
