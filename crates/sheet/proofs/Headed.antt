-- A line keeps the rules just where its counts, its first start and the records of both tables keep theirs, and bytes that are accepted have the header.
use mathlib.Core.Path.{◌≡◌}
use mathlib.Core.Bool.{true, and-true}
use mathlib.Core.List.{List, [], ◌∷◌, ◌++◌}
use Prim.Native.Nat.{ℕ, suc, ◌-◌, ◌<◌}
use native.Mathlib.Omega.{arith}
use borrow.Author.Tests.{lt-ltb, ltb-true, le-leb, leb-true, eq-eqb, eqb-true}
use lib.Dec.{leb}
use lib.IntN.{ℤ}
use lib.ListN.{length}
use Rattle.lists.specs.Counted.{all_hold}
use Rattle.lists.proofs.Holding.{and_left, and_right, every-at, every_of, each_of, all_of}
use Rattle.train.specs.Gradient.{gradient_of, Moderate}
use Rattle.sheet_line.specs.Line.{Line, rises, moderate, count_rules, stretch_rules, signal_rules}
use Rattle.sheet.specs.Sheet.{line_of, header_rules, keeps, accepted}
use Rattle.sheet.specs.Headed.{Headed}
use Rattle.sheet.specs.Kept.{Kept}

moderate-at : (z : ℤ) → moderate z ≡ true → Moderate (gradient_of z)
moderate-at z h =
    let up = leb (gradient_of z).rise 35 in
    let down = leb (gradient_of z).fall 35 in
    record { rise = leb-true _ _ (and_left up down h); fall = leb-true _ _ (and_right up down h) }

moderate-of : (z : ℤ) → Moderate (gradient_of z) → moderate z ≡ true
moderate-of z h = rw (le-leb _ _ h.rise, le-leb _ _ h.fall)

rise-at : (x : ℕ → ℕ) (n : ℕ) → rises x n ≡ true → (k : ℕ) → suc k < n → x k < x (suc k)
rise-at x n e k h = ltb-true _ _ (every-at (n - 1) _ e k (omega arith))

rise-of : (x : ℕ → ℕ) (n : ℕ) → ((k : ℕ) → suc k < n → x k < x (suc k)) → rises x n ≡ true
rise-of x n h = every_of (n - 1) _ (λ k l. lt-ltb _ _ (h k (omega arith)))

pub kept_of : (l : Line) → keeps l ≡ true → Kept l
unfolding keeps
kept_of l h =
    let (a, (b, (c, (d, (e, (o, (r, (s, (g, (p, (q, (w, z)))))))))))) = each_of (count_rules l ++ (stretch_rules l ++ signal_rules l)) h in
    let n = l.stretches in
    let m = l.signals in
    record {
      counts = record { some = leb-true _ _ a; stretches = leb-true _ _ b; signals = leb-true _ _ c; begins = leb-true _ _ d; ends = leb-true _ _ e };
      origin = eqb-true _ _ o;
      stretches = record { rising = rise-at l.start n r; each = λ k j. (ltb-true _ _ (every-at n _ s k j), moderate-at (l.gradient k) (every-at n _ g k j)) };
      signals = record { rising = rise-at l.place m p; each = λ k j. (ltb-true _ _ (every-at m _ q k j), leb-true _ _ (every-at m _ w k j)) };
    }

pub keeps-of : (l : Line) → Kept l → keeps l ≡ true
unfolding keeps
keeps-of l h =
    let n = l.stretches in
    let m = l.signals in
    let a = h.counts in
    let s = h.stretches in
    let p = h.signals in
    all_of (count_rules l ++ (stretch_rules l ++ signal_rules l)) (
      le-leb _ _ a.some,
      (
        le-leb _ _ a.stretches,
        (
          le-leb _ _ a.signals,
          (
            le-leb _ _ a.begins,
            (
              le-leb _ _ a.ends,
              (
                eq-eqb _ _ h.origin,
                (
                  rise-of l.start n s.rising,
                  (
                    every_of n _ (λ k j. lt-ltb _ _ (s.each k j).0),
                    (
                      every_of n _ (λ k j. moderate-of (l.gradient k) (s.each k j).1),
                      (rise-of l.place m p.rising, (every_of m _ (λ k j. lt-ltb _ _ (p.each k j).0), (every_of m _ (λ k j. le-leb _ _ (p.each k j).1), tt))),
                    ),
                  ),
                ),
              ),
            ),
          ),
        ),
      ),
    )

pub accepted-is : (s : List ℕ) → Headed s → accepted s ≡ keeps (line_of s)
unfolding accepted all_hold
accepted-is s h =
    rw (le-leb _ _ h.room, eq-eqb _ _ h.stretches, eq-eqb _ _ h.signals, eq-eqb _ _ h.whole, eq-eqb (length s) _ h.lent) (and-true (keeps (line_of s)))

-- the header's rules
pub headed-of : (s : List ℕ) → accepted s ≡ true → Headed s × Kept (line_of s)
unfolding accepted
headed-of s h =
    let (a, (b, (c, (d, (e, (f, z)))))) = each_of (header_rules s ++ (keeps (line_of s) ∷ [])) h in
    (record { room = leb-true _ _ a; stretches = eqb-true _ _ b; signals = eqb-true _ _ c; whole = eqb-true _ _ d; lent = eqb-true (length s) _ e }, kept_of (line_of s) f)
