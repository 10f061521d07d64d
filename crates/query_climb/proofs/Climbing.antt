-- A climb, step by step as the loops take it; and that it is the highest speed up to which each fits.
use mathlib.Core.Path.{◌≡◌, refl, sym, ap, ◌∙◌}
use mathlib.Core.Bool.{Bool, true, false, cond}
use mathlib.Core.Logic.{⊎_elim}
use Prim.Native.Nat.{ℕ, zero, suc, ◌+◌, ◌-◌, ◌≤◌, ◌<◌}
use native.Mathlib.Omega.{arith}
use native.Mathlib.Numerals.{add-one}
use Rattle.lists.proofs.Split.{below}
use Rattle.query_climb.specs.Climb.{climb}

module _ (fits : ℕ → Bool) where
  -- with so many speeds left
  goes : (v n : ℕ) → fits (suc v) ≡ true → climb fits v (suc n) ≡ climb fits (suc v) n
  unfolding climb
  goes v n e = ap (λ b. cond b (climb fits (suc v) n) v) e

  stops : (v n : ℕ) → fits (suc v) ≡ false → climb fits v (suc n) ≡ v
  unfolding climb
  stops v n e = ap (λ b. cond b (climb fits (suc v) n) v) e

  ends : (v : ℕ) → climb fits v 0 ≡ v
  unfolding climb
  ends v = refl

  -- with an end
  goes_on : (v end : ℕ) → v < end → fits (v + 1) ≡ true → climb fits (v + 1) (end - (v + 1)) ≡ climb fits v (end - v)
  goes_on v end h e =
      let n : end - v ≡ suc (end - (v + 1)) = omega arith in
      ap (λ w. climb fits w (end - (v + 1))) (add-one v) ∙ sym (goes v (end - (v + 1)) (ap fits (sym (add-one v)) ∙ e)) ∙ ap (climb fits v) (sym n)

  stops_at : (v end : ℕ) → v < end → fits (v + 1) ≡ false → v ≡ climb fits v (end - v)
  stops_at v end h e = let n : end - v ≡ suc (end - (v + 1)) = omega arith in rw n (sym (stops v (end - (v + 1)) (ap fits (sym (add-one v)) ∙ e)))

  ends_at : (v end : ℕ) → v ≤ end → end ≤ v → end ≡ climb fits v (end - v)
  ends_at v end l h =
      let n : end - v ≡ 0 = omega arith in
      let e : end ≡ v = omega arith in
      e ∙ sym (ends v) ∙ ap (climb fits v) (sym n)

  -- a climb has reached v: what is left of it leads where the whole leads
  pub record Reached (begin end v : ℕ) : Type 0 where
    pub past : begin ≤ v
    pub within : v ≤ end
    pub left : climb fits v (end - v) ≡ climb fits begin (end - begin)

  pub begins : (begin end : ℕ) → begin ≤ end → Reached begin end begin
  begins begin end h = record { past = omega arith; within = h; left = refl }

  module _ (begin end v : ℕ) (r : Reached begin end v) where
    pub reaches-next : v < end → fits (v + 1) ≡ true → Reached begin end (v + 1)
    reaches-next h e = record { past = omega (arith, r.past); within = omega arith; left = goes_on v end h e ∙ r.left }

    pub stops-there : v < end → fits (v + 1) ≡ false → v ≡ climb fits begin (end - begin)
    stops-there h e = stops_at v end h e ∙ r.left

    pub ends_there : end ≤ v → end ≡ climb fits begin (end - begin)
    ends_there h = ends_at v end r.within h ∙ r.left

  -- each speed up to it fits, and the next does not
  pub record Highest (v n r : ℕ) : Type 0 where
    pub from : v ≤ r
    pub to : r ≤ v + n
    pub each : (w : ℕ) → v < w → w ≤ r → fits w ≡ true
    pub next : r < v + n → fits (suc r) ≡ false

  pub highest : (v n : ℕ) → Highest v n (climb fits v n)
  highest v zero = rw (ends v) (record { from = omega arith; to = omega arith; each = λ w a b. absurd (let i : ⊥ = omega arith in i); next = λ a. absurd (let i : ⊥ = omega arith in i) })
  highest v (suc n) = go (fits (suc v)) refl (highest (suc v) n)
    where
      go : (b : Bool) → fits (suc v) ≡ b → Highest (suc v) n (climb fits (suc v) n) → Highest v (suc n) (climb fits v (suc n))
      go true e h =
          rw (goes v n e)
          (record {
            from = omega (arith, h.from);
            to = omega (arith, h.to);
            each = λ w a b. ⊎_elim (λ i. h.each w i b) (λ i. let j : w ≡ suc v = omega arith in rw j e) (below (suc v) w);
            next = λ a. h.next (omega arith);
          })
      go false e h =
          rw (stops v n e)
          (record { from = omega arith; to = omega arith; each = λ w a b. absurd (let i : ⊥ = omega arith in i); next = λ a. e })

-- climbs by tests that agree on the way
pub same-climb : (f g : ℕ → Bool) (v n : ℕ) → ((w : ℕ) → v < w → w ≤ v + n → f w ≡ g w) → climb f v n ≡ climb g v n
same-climb f g v zero h = ends f v ∙ sym (ends g v)
same-climb f g v (suc n) h = go (g (suc v)) refl (same-climb f g (suc v) n (λ w a b. h w (omega arith) (omega arith)))
  where
    agree : f (suc v) ≡ g (suc v)
    agree = h (suc v) (omega arith) (omega arith)

    go : (b : Bool) → g (suc v) ≡ b → climb f (suc v) n ≡ climb g (suc v) n → climb f v (suc n) ≡ climb g v (suc n)
    go true e i = goes f v n (agree ∙ e) ∙ i ∙ sym (goes g v n e)
    go false e i = stops f v n (agree ∙ e) ∙ sym (stops g v n e)
