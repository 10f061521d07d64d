-- Point by point: the least over the points of a span is that of the stretches that hold one.
use mathlib.Core.Path.{◌≡◌, sym, ap, ◌∙◌}
use Prim.Native.Nat.{ℕ, zero, suc, ◌+◌, ◌-◌, ◌≤◌, ◌<◌}
use native.Mathlib.Omega.{arith}
use Rattle.train.specs.declared.Gradient.{Gradient}
use Rattle.sheet_line.specs.Line.{Line}
use Rattle.sheet.specs.Kept.{Kept}
use Rattle.sheet_span.specs.Least.{◌≼◌, slope, Holds, slope_at, least_of, governing_of, Meets, LeastOver}
use Rattle.sheet_span.proofs.Order.{≼-same}
use Rattle.sheet_span.proofs.Stretches.{at-point, held}
use Rattle.sheet_span.proofs.Governing.{governs, governing-slope}

-- two lines with the same gradient at each point have the same least
pub same-least : (l m : Line) (from n : ℕ) → ((i : ℕ) → i ≤ n → slope_at l (from + i) ≡ slope_at m (from + i)) → least_of l from n ≡ least_of m from n
unfolding least_of
same-least l m from zero h = ap (slope_at l) (sym (zero_more from)) ∙ h 0 (omega arith) ∙ ap (slope_at m) (zero_more from)
  where
    zero_more : (k : ℕ) → k + 0 ≡ k
    zero_more k = omega arith
same-least l m from (suc n) h = rw (same-least l m from n (λ i k. h i (omega arith)), h (suc n) (omega arith))

module _ (l : Line) (h : Kept l) where
  -- a point's gradient is that of the stretch that holds it
  pub at_held : (k p : ℕ) → Holds l k p → slope_at l p ≡ slope l k
  at_held k p a = ap (slope l) (at-point l h k p a)

  -- from the stretches to the points
  pub point-by-point : (from to : ℕ) (g : Gradient) (k : ℕ) → from < to → to ≤ l.end → Meets l from to k → slope l k ≡ g → ((j : ℕ) → Meets l from to j → g ≼ slope l j) → ((j : ℕ) → Meets l from to j → slope l j ≡ g → k ≤ j) → LeastOver l from to g k
  point-by-point from to g k ahead on m e none lowest =
      let n = to - from - 1 in
      let k' = governing_of l from n in
      let defined = governs l h from n (omega arith) in
      let (i, (u, f)) = defined.at in
      let (j, a) = held l h (from + i) (omega arith) in
      let m' : Meets l from to k' = record { point = from + i; first = omega arith; last = omega arith; held = rw (f, at-point l h j (from + i) a) a } in
      let first = m.first in
      let last = m.last in
      let own = at-point l h k m.point m.held in
      let p : from + (m.point - from) ≡ m.point = omega arith in
      let down : slope l k ≼ slope l k' = rw e (none k' m') in
      let up : slope l k' ≼ slope l k = rw (p, own) at (defined.least (m.point - from) (omega arith)) in
      let same = ≼-same (l.gradient k) (l.gradient k') down up in
      let most : k ≤ k' = lowest k' m' (sym same ∙ e) in
      let least : k' ≤ k = rw (p, own) at (defined.lowest (m.point - from) (omega arith) (rw (p, own) same)) in
      record {
        value = sym e ∙ same ∙ governing-slope l from n;
        stretches = none;
        number = omega arith;
        holds = m;
        own = e;
        lowest = lowest;
        point = (m.point, (first, (last, at_held k m.point m.held ∙ e)));
        points = λ p a b. let (q, c) = held l h p (omega arith) in rw (at_held q p c) (none q (record { point = p; first = a; last = b; held = c }));
      }
