-- Where a walk stands after each step: so many stretches before its first, with the least gradient of those between and its lowest number.
use mathlib.Core.Path.{◌≡◌, refl, subst}
use mathlib.Core.Bool.{Bool, true, false}
use Prim.Native.Nat.{ℕ, zero, suc, ◌-◌, ◌≤◌, ◌<◌}
use native.Mathlib.Omega.{arith}
use Rattle.train.specs.Gradient.{gradient_of}
use Rattle.sheet_line.specs.Line.{Line}
use Rattle.sheet_span.specs.Least.{slope}
use Rattle.sheet_walk.specs.declared.Walk.{Walk}
use Rattle.sheet_walk.specs.Walk.{further, walk_at}
use Rattle.sheet_walk.specs.Back.{LeastOf}
use Rattle.sheet_walk.proofs.OneMore.{test, at, takes-over, stays}

module _ (l : Line) where
  pub further-stretch : (w : Walk) → (further l w).stretch ≡ w.stretch - 1
  further-stretch w = go (test l (w.stretch - 1) w.least)
    where
      go : (t : Bool) → (at l (w.stretch - 1) w t).stretch ≡ w.stretch - 1
      go true = refl
      go false = refl

  further-gradient : (w : Walk) → (further l w).gradient ≡ l.gradient (further l w).stretch
  further-gradient w = go (test l (w.stretch - 1) w.least)
    where
      go : (t : Bool) → (at l (w.stretch - 1) w t).gradient ≡ l.gradient (at l (w.stretch - 1) w t).stretch
      go true = refl
      go false = refl

module _ (l : Line) (b : ℕ) where
  pub walk-stretch : (n : ℕ) → (walk_at l b n).stretch ≡ b - n
  unfolding walk_at
  walk-stretch zero = omega arith
  walk-stretch (suc n) = let e = walk-stretch n in let f = further-stretch l (walk_at l b n) in omega arith

  pub walk-gradient : (n : ℕ) → (walk_at l b n).gradient ≡ l.gradient (walk_at l b n).stretch
  unfolding walk_at
  walk-gradient zero = refl
  walk-gradient (suc n) = further-gradient l (walk_at l b n)

  -- the stretch itself
  alone : LeastOf l b b (slope l b) b
  alone =
      record { from = omega arith; to = omega arith; own = refl; none = λ j u v. let e : j ≡ b = omega arith in rw e (omega arith); lowest = λ j u v s. u }

  goes : (w : Walk) → 0 < w.stretch → w.stretch ≤ b → LeastOf l w.stretch b (gradient_of w.least) w.least_stretch → LeastOf l (further l w).stretch b (gradient_of (further l w).least) (further l w).least_stretch
  goes w i j o = go (test l (w.stretch - 1) w.least) refl
    where
      next : w.stretch ≡ suc (w.stretch - 1)
      next = omega arith

      before : LeastOf l (suc (w.stretch - 1)) b (gradient_of w.least) w.least_stretch
      before = subst (λ (a : ℕ). LeastOf l a b (gradient_of w.least) w.least_stretch) next o

      go : (t : Bool) → test l (w.stretch - 1) w.least ≡ t → let v = at l (w.stretch - 1) w t in LeastOf l v.stretch b (gradient_of v.least) v.least_stretch
      go true e = takes-over l b (w.stretch - 1) w.least_stretch w.least (omega arith) before e
      go false e = stays l b (w.stretch - 1) w.least_stretch w.least (omega arith) before e

  pub walk-least : (n : ℕ) → n ≤ b → LeastOf l (walk_at l b n).stretch b (gradient_of (walk_at l b n).least) (walk_at l b n).least_stretch
  unfolding walk_at
  walk-least zero h = alone
  walk-least (suc n) h = let e = walk-stretch n in goes (walk_at l b n) (omega arith) (omega arith) (walk-least n (omega arith))
