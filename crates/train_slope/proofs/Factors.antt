-- The slope's coefficient by the three cases of the paper, and within the span of all three.
use mathlib.Core.Path.{◌≡◌}
use mathlib.Core.Bool.{Bool, true, false, cond}
use Prim.Native.Nat.{◌+◌, ◌≤◌, ◌<◌}
use borrow.Author.Tests.{lt-ltb, le-ltb, le-leb, lt-leb}
use lib.Dec.{leb, ltb}
use Rattle.train.specs.declared.Inertia.{Inertia}
use Rattle.train.specs.declared.Gradient.{Gradient}
use Rattle.train.specs.Coefficients.{InertiaWithin}
use Rattle.train_slope.specs.Slope.{factor}

module _ (k : Inertia) (g : Gradient) where
  pub factor-up : k.i1 + g.fall < g.rise → k.ki1 ≡ factor k g
  unfolding factor
  factor-up h = simp (lt-ltb _ _ h)

  pub factor-down : g.rise ≤ k.i1 + g.fall → k.i2.fall + g.rise ≤ k.i2.rise + g.fall → k.ki3 ≡ factor k g
  unfolding factor
  factor-down h i = simp (le-ltb _ _ h, le-leb _ _ i)

  pub factor-between : g.rise ≤ k.i1 + g.fall → k.i2.rise + g.fall < k.i2.fall + g.rise → k.ki2 ≡ factor k g
  unfolding factor
  factor-between h i = simp (le-ltb _ _ h, lt-leb _ _ i)

  pub factor-small : InertiaWithin k → factor k g ≤ 120
  unfolding factor
  factor-small w = go (ltb (k.i1 + g.fall) g.rise) (leb (k.i2.fall + g.rise) (k.i2.rise + g.fall))
    where
      go : (a b : Bool) → cond a k.ki1 (cond b k.ki3 k.ki2) ≤ 120
      go true b = w.ki1
      go false true = w.ki3
      go false false = w.ki2
