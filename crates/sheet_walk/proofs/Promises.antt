-- What the walk has seen, and what each step answers and promises.
use mathlib.Core.Path.{◌≡◌, refl, sym, subst, ◌∙◌}
use mathlib.Core.List.{List}
use Prim.Native.Nat.{ℕ, suc, ◌+◌, ◌≤◌, ◌<◌}
use native.Mathlib.Numerals.{add-one}
use native.Mathlib.Omega.{arith}
use borrow.Author.Tests.{le-leb, lt-leb}
use Rattle.train.specs.declared.Gradient.{Gradient}
use Rattle.train.specs.Gradient.{gradient_of}
use Rattle.sheet_line.specs.Line.{Line}
use Rattle.sheet.specs.Sheet.{line_of}
use Rattle.sheet.proofs.Kth.{kth-stretch}
use Rattle.sheet_span.specs.Least.{stretch_at, LeastOver}
use Rattle.sheet_span.proofs.Points.{point-by-point}
use Rattle.sheet_span.proofs.Ends.{meets-within, within-meets}
use Rattle.sheet_walk.specs.declared.Walk.{Walk}
use Rattle.sheet_walk.specs.Back.{shown, ended, back_on, LeastOf, Steps}
use Rattle.sheet_walk.proofs.Walks.{walk-gradient, walk-least}
use Rattle.sheet_walk.proofs.Underway.{Spans, Underway, ends, stands, numbered, arrived}

module _ {l : Line} {tail signal : ℕ} (a : Spans l tail signal) where
  abbrev first : ℕ
  first = stretch_at l tail

  abbrev last : ℕ
  last = stretch_at l signal

  -- the least of all stretches of the walk is the least of the span
  over-all : (g : Gradient) (k : ℕ) → LeastOf l first last g k → LeastOver l tail (signal + 1) g k
  over-all g k o =
      subst (λ (to : ℕ). LeastOver l tail to g k) (sym (add-one signal))
      (point-by-point l a.kept tail (suc signal) g k (let i = a.order in omega arith) a.on
      (within-meets l a.kept tail signal first last (ends a) k o.from o.to)
      o.own
      (λ j m. let (i, k) = meets-within l a.kept tail signal first last (ends a) j m in o.none j i k)
      (λ j m s. let (i, k) = meets-within l a.kept tail signal first last (ends a) j m in o.lowest j i k s))

  module _ {w : Walk} {n : ℕ} (u : Underway l tail last w n) where
    pub lowest : LeastOf l w.stretch last (gradient_of w.least) w.least_stretch
    lowest = let i = u.within in rw u.state (walk-least l last n (omega arith))

    pub all-steps : first + n ≡ last → LeastOver l tail (signal + 1) (gradient_of w.least) w.least_stretch
    all-steps i =
        let e = stands a u in
        let k : w.stretch ≡ first = omega arith in
        over-all (gradient_of w.least) w.least_stretch (subst (λ (k : ℕ). LeastOf l k last (gradient_of w.least) w.least_stretch) k lowest)

    -- as answers
    pub at-step : shown w ≡ back_on l tail signal n
    unfolding back_on
    at-step = rw u.state (simp (le-leb (first + n) last u.within))

    pub answered : (k : ℕ) → n ≡ k → shown w ≡ back_on l tail signal k
    answered k e = subst (λ (j : ℕ). shown w ≡ back_on l tail signal j) e at-step

    pub past_all : (k : ℕ) → n < k → l.start w.stretch ≤ tail → ended ≡ back_on l tail signal k
    unfolding back_on
    past_all k j i = let e = arrived a u i in simp (lt-leb (first + k) last (omega arith))

-- what each step promises
module _ (s : List ℕ) {tail signal : ℕ} (a : Spans (line_of s) tail signal) (n : ℕ) where
  abbrev line : Line
  line = line_of s

  abbrev from : ℕ
  from = stretch_at line tail

  abbrev to : ℕ
  to = stretch_at line signal

  pub on-the-way : (w : Walk) → Underway line tail to w n → Steps s tail signal n (shown w)
  on-the-way w u =
      let i = u.within in
      record {
        first = from;
        last = to;
        behind = (ends a).first;
        ahead = (ends a).end;
        on = λ j. record {
          more = refl;
          number = stands a u;
          field = rw u.state (walk-gradient line to n) ∙ (kth-stretch s w.stretch (numbered a u)).gradients;
          lowest = lowest a u;
        };
        off = λ j. absurd (omega arith);
        whole = all-steps a u;
      }

  pub over-there : to < from + n → Steps s tail signal n ended
  over-there i =
      record {
        first = from;
        last = to;
        behind = (ends a).first;
        ahead = (ends a).end;
        on = λ j. absurd (omega arith);
        off = λ j. record { told = refl; zeros = (refl, (refl, (refl, (refl, (refl, (refl, tt)))))) };
        whole = λ j. absurd (omega arith);
      }
