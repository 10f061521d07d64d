-- The governing stretch's gradient is the definition's least.
use mathlib.Core.Path.{◌≡◌, refl}
use mathlib.Core.Bool.{Bool, true, false, cond}
use Prim.Native.Nat.{ℕ, zero, suc, ◌+◌}
use lib.Dec.{leb}
use Rattle.train.specs.declared.Gradient.{Gradient}
use Rattle.sheet_line.specs.Line.{Line}
use Rattle.sheet_span.specs.Least.{lesser, slope, stretch_at, least_of, governor, governing_of}

pub governing-slope : (l : Line) (from n : ℕ) → slope l (governing_of l from n) ≡ least_of l from n
unfolding governing_of least_of
governing-slope l from zero = refl
governing-slope l from (suc n) = next (governing_of l from n) (stretch_at l (from + suc n)) (least_of l from n) (governing-slope l from n)
  where
    either : (b : Bool) (k m : ℕ) → slope l (cond b k m) ≡ cond b (slope l k) (slope l m)
    either true k m = refl
    either false k m = refl

    next : (k m : ℕ) (g : Gradient) → slope l k ≡ g → slope l (governor l k m) ≡ lesser g (slope l m)
    next k m g e = rw (← e) (either (leb ((slope l k).rise + (slope l m).fall) ((slope l m).rise + (slope l k).fall)) k m)
