-- Document 01's whole numbers are document 002's ceilings.
use mathlib.Core.Path.{◌≡◌, refl}
use mathlib.Core.List.{[], ◌∷◌}
use Prim.Native.Nat.{ℕ, ◌+◌, ◌*◌, ◌-◌, ◌≤◌, ◌<◌}
use native.Mathlib.Omega.{arith}
use native.Mathlib.Nat.{mul-pos}
use borrow.Author.Tests.{le-leb, lt-leb, lt-ltb, le-ltb, ltb-true, ltb-false}
use lib.Ieee.Bits.{is_true, is_false}
use lib.Dec.{lit<, lit≤, leb, ltb, leb→le, nleb→lt}
use Rattle.exact.specs.Fraction.{Fraction, whole, ◌over◌, ◌+q◌, ◌-q◌, ◌*q◌, ◌/q◌, ◌≈q◌}
use Rattle.exact.proofs.Polynomial.{num, ◌⊕◌, ◌⊗◌}
use Rattle.exact.proofs.Certificate.{x0, x1, x2, x3, x4, done, times}
use Rattle.exact.proofs.Shape.{shape, whole_e, over_e, ◌+e◌, ◌-e◌, ◌*e◌}
use Rattle.exact.proofs.Substitution.{≈q-refl, ≈q-sym, ≈q-trans, becomes, cond-is, net, +q-cong, *q-cong, /q-over}
use Rattle.train.specs.declared.Kmh.{Kmh}
use Rattle.ceilings.specs.declared.Band.{Band}
use Rattle.ceilings.specs.Ceilings.{grown_to, ceiling_of, given, w, sbi, ebi}
use Rattle.ceilings.specs.Paper.{Parameters, W, SBI, EBI, ΔV, ceiling, AsPrinted}

-- the three cases of the growth
module _ (end v : Kmh) where
  pub grown-low : v.0 ≤ 110 → grown_to end v ≡ 0
  unfolding grown_to
  grown-low h = simp (le-leb _ _ h)

  pub grown-mid : 110 < v.0 → v.0 < end.0 → grown_to end v ≡ v.0 - 110
  unfolding grown_to
  grown-mid h i = simp (lt-leb _ _ h, lt-ltb _ _ i)

  pub grown-high : 110 < v.0 → end.0 ≤ v.0 → grown_to end v ≡ end.0 - 110
  unfolding grown_to
  grown-high h i = simp (lt-leb _ _ h, le-ltb _ _ i)

-- a difference of two whole numbers over d
less : (a b d : ℕ) → b ≤ a → 0 < d → (a over d) -q (b over d) ≈q (a - b) over d
less a b d h l =
    ≈q-trans
    (becomes (a ∷ b ∷ d ∷ []) done (shape x0 (num 0) x2 -e shape x1 (num 0) x2) (shape x0 x1 x2) (≈q-refl (mul-pos l l)) l refl)
    (net a b d h l)

-- a band's numbers are 120ths of the paper's
record Matches (b : Band) (p : Parameters) : Type 0 where
  least : b.least ≡ 12 * p.min
  begin : p.V1 ≡ 110
  end : p.V2 ≡ b.end.0
  above : 110 < b.end.0
  span : p.min ≤ p.max
  growth : 12 * (p.max - p.min) ≡ b.growth * (b.end.0 - 110)

module _ (b : Band) (p : Parameters) (is : Matches b p) (v : Kmh) where
  -- the extra for n km/h of growth, in km/h
  abbrev extra : ℕ → Fraction
  extra n = (b.least + b.growth * n) over 120

  low : (p.min over 10) ≈q extra 0
  low = rw is.least (becomes (p.min ∷ b.growth ∷ []) done (over_e x0 10) (over_e (num 12 ⊗ x0 ⊕ x1 ⊗ num 0) 120) (≈q-refl (lit< tt)) (lit< tt) refl)

  high : (p.max over 10) ≈q extra (b.end.0 - 110)
  high =
      let e : p.max ≡ p.min + (p.max - p.min) = let s = is.span in omega arith in
      rw (is.least, ← is.growth)
      (becomes (p.max ∷ p.min ∷ (p.max - p.min) ∷ []) (times (num 120) x0 (x1 ⊕ x2) e done) (over_e x0 10) (over_e (num 12 ⊗ x1 ⊕ num 12 ⊗ x2) 120) (≈q-refl (lit< tt)) (lit< tt) refl)

  mid : p.V1 < v.0 → (p.min over 10) +q ((p.max over 10) -q (p.min over 10)) /q (whole p.V2 -q whole p.V1) *q (whole v.0 -q whole p.V1) ≈q extra (v.0 - 110)
  mid h =
      let l : 0 < p.V2 - p.V1 = rw (is.begin, is.end) (let a = is.above in omega arith) in
      let slope = /q-over (less p.max p.min 10 is.span (lit< tt)) (less p.V2 p.V1 1 (let a = l in omega arith) (lit< tt)) l in
      let g : 12 * (p.max - p.min) ≡ b.growth * (p.V2 - p.V1) = rw (is.begin, is.end) is.growth in
      rw (is.least, ← is.begin)
      (becomes (p.min ∷ (p.max - p.min) ∷ (v.0 - p.V1) ∷ (p.V2 - p.V1) ∷ b.growth ∷ []) (times (num 100 ⊗ x2) (num 12 ⊗ x1) (x4 ⊗ x3) g done)
      (over_e x0 10 +e shape (x1 ⊗ num 1) (num 0) (num 10 ⊗ x3) *e whole_e x2) (over_e (num 12 ⊗ x0 ⊕ x4 ⊗ x2) 120)
      (+q-cong (≈q-refl {a = p.min over 10} (lit< tt)) (*q-cong slope (less v.0 p.V1 1 (omega arith) (lit< tt)))) (lit< tt) refl)

  ΔV-is : ΔV p v ≈q extra (grown_to b.end v)
  unfolding ΔV
  ΔV-is =
      cond-is (leb v.0 p.V1)
      (λ h. rw (grown-low b.end v (rw is.begin at (leb→le v.0 p.V1 h))) low)
      (λ h.
      let g = nleb→lt v.0 p.V1 h in
      let l = rw is.begin at g in
      cond-is (ltb v.0 p.V2)
      (λ i. rw (grown-mid b.end v l (rw is.end at (ltb-true v.0 p.V2 (is_true (ltb v.0 p.V2) i)))) (mid g))
      (λ i. rw (grown-high b.end v l (rw is.end at (ltb-false v.0 p.V2 (is_false (ltb v.0 p.V2) i)))) high))

  ceiling-is : (ceiling_of b v).0 over 120 ≈q ceiling p v
  unfolding ceiling_of
  ceiling-is =
      ≈q-sym
      (becomes (v.0 ∷ b.least ∷ b.growth * grown_to b.end v ∷ []) done (over_e (x1 ⊕ x2) 120 +e whole_e x0) (over_e (num 120 ⊗ x0 ⊕ x1 ⊕ x2) 120)
      (+q-cong ΔV-is (≈q-refl {a = whole v.0} (lit< tt))) (lit< tt) refl)

w-matches : Matches w W
w-matches = record { least = refl; begin = refl; end = refl; above = lit< tt; span = lit≤ tt; growth = refl }

sbi-matches : Matches sbi SBI
sbi-matches = record { least = refl; begin = refl; end = refl; above = lit< tt; span = lit≤ tt; growth = refl }

ebi-matches : Matches ebi EBI
ebi-matches = record { least = refl; begin = refl; end = refl; above = lit< tt; span = lit≤ tt; growth = refl }

pub as-printed : (v : Kmh) → AsPrinted v (given v)
as-printed v = record { w = ceiling-is w W w-matches v; sbi = ceiling-is sbi SBI sbi-matches v; ebi = ceiling-is ebi EBI ebi-matches v }
