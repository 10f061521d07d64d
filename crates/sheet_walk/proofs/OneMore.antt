-- One stretch more before others, with the least gradient of those: it has the least of all, or what had it still has.
use mathlib.Core.Path.{◌≡◌, refl, ◌∙◌}
use mathlib.Core.Bool.{Bool, true, false, cond}
use mathlib.Core.Logic.{⊎_elim}
use Prim.Native.Nat.{ℕ, suc, ◌+◌, ◌≤◌}
use native.Mathlib.Omega.{arith}
use borrow.Author.Tests.{leb-true, leb-false}
use lib.IntN.{ℤ}
use lib.Signed.{le_z}
use Rattle.lists.proofs.Split.{below}
use Rattle.train.specs.Gradient.{gradient_of}
use Rattle.sheet_line.specs.Line.{Line}
use Rattle.sheet_span.specs.Least.{slope}
use Rattle.sheet_span.proofs.Order.{signed-order}
use Rattle.sheet_walk.specs.declared.Walk.{Walk}
use Rattle.sheet_walk.specs.Walk.{begun}
use Rattle.sheet_walk.specs.Back.{LeastOf}

module _ (l : Line) where
  -- where a step on is: the definition's test
  abbrev pub test : ℕ → ℤ → Bool
  test k least = le_z (l.gradient k) least

  -- what the definition makes of either outcome of its test
  abbrev pub at : ℕ → Walk → Bool → Walk
  at k w t = cond t (begun l k) (record { stretch = k; gradient = l.gradient k; least = w.least; least_stretch = w.least_stretch })

module _ (l : Line) (b : ℕ) where
  -- one more before others: it has the least, or what had it still has
  module _ (a k : ℕ) (g : ℤ) (h : suc a ≤ b) (o : LeastOf l (suc a) b (gradient_of g) k) where
    pub takes-over : test l a g ≡ true → LeastOf l a b (slope l a) a
    takes-over e =
        let d = leb-true ((slope l a).rise + (gradient_of g).fall) ((gradient_of g).rise + (slope l a).fall) (signed-order (l.gradient a) g ∙ e) in
        record {
          from = omega arith;
          to = omega arith;
          own = refl;
          none = λ j u v.
              ⊎_elim
              (λ m. let q = o.none j m v in omega arith)
              (λ m. let e : j ≡ a = omega arith in rw e (omega arith))
              (below a j);
          lowest = λ j u v s. u;
        }

    pub stays : test l a g ≡ false → LeastOf l a b (gradient_of g) k
    stays e =
        let d = leb-false ((slope l a).rise + (gradient_of g).fall) ((gradient_of g).rise + (slope l a).fall) (signed-order (l.gradient a) g ∙ e) in
        let f = o.from in
        record {
          from = omega arith;
          to = o.to;
          own = o.own;
          none = λ j u v. ⊎_elim (λ m. o.none j m v) (λ m. let e : j ≡ a = omega arith in rw e (omega arith)) (below a j);
          lowest = λ j u v s.
              ⊎_elim
              (λ m. o.lowest j m v s)
              (λ m. absurd (let e : j ≡ a = omega arith in let q = rw e at s in let z = rw q at d in omega arith))
              (below a j);
        }
