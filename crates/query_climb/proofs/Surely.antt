-- A climb is sure of no speed at first, and of what it was sure of and the next ones after that; and it has reached what it is sure of.
use mathlib.Core.Path.{◌≡◌, ◌∙◌}
use mathlib.Core.Bool.{Bool, true, false}
use Prim.Native.Nat.{ℕ, zero, suc, ◌+◌, ◌-◌, ◌≤◌, ◌<◌}
use native.Mathlib.Nat.{lt_of_not-le}
use native.Mathlib.Decide.{dec_le}
use native.Mathlib.Omega.{arith}
use Rattle.query_climb.specs.Sure.{Sure}
use Rattle.query_climb.specs.Climb.{climb}
use Rattle.query_climb.proofs.Climbing.{Reached, begins, reaches-next, stops-there, ends_there}

module _ (fits : ℕ → Bool) (begin : ℕ) where
  pub sure-of-none : Sure fits begin begin
  sure-of-none = record { each = λ v h i. absurd (let j : ⊥ = omega arith in j) }

  pub sure-of-more : (low high : ℕ) → Sure fits begin low → Sure fits low high → Sure fits begin high
  sure-of-more low high s m = record { each = λ v h i. go v h i (dec_le v low) }
    where
      go : (v : ℕ) → begin < v → v ≤ high → Dec (v ≤ low) → fits v ≡ true
      go v h i (yes l) = s.each v h l
      go v h i (no l) = m.each v (lt_of_not-le l) i

module _ (fits : ℕ → Bool) (begin end : ℕ) where
  up_to : (n : ℕ) → begin + n ≤ end → Sure fits begin (begin + n) → Reached fits begin end (begin + n)
  up_to zero h s = let e : begin + 0 ≡ begin = omega arith in rw e (begins fits begin end (omega arith))
  up_to (suc n) h s =
      let e : begin + suc n ≡ begin + n + 1 = omega arith in
      rw e (reaches-next fits begin end (begin + n) (up_to n (omega arith) (record { each = λ v a b. s.each v a (omega arith) })) (omega arith) (s.each (begin + n + 1) (omega arith) (omega arith)))

  pub reaches-sure : (sure : ℕ) → begin ≤ sure → sure ≤ end → Sure fits begin sure → Reached fits begin end sure
  reaches-sure sure h i s = let e : begin + (sure - begin) ≡ sure = omega arith in rw e at (up_to (sure - begin) (omega arith) (rw e s))

  -- the code's climb, from a sure speed, is the whole climb
  pub climbed : (sure r : ℕ) → begin ≤ sure → Sure fits begin sure → (sure ≤ r) × (r ≤ end) → ((v : ℕ) → sure < v → v ≤ r → fits v ≡ true) → (r < end → fits (r + 1) ≡ false) → r ≡ climb fits begin (end - begin)
  climbed sure r b s w each next =
      let reached = reaches-sure r (omega arith) w.1 (sure-of-more fits begin sure r s (record { each = each })) in
      elim (dec_le end r) [ yes i ↦ (let e : r ≡ end = omega arith in e ∙ ends_there fits begin end r reached i) | no i ↦ (let l = lt_of_not-le i in stops-there fits begin end r reached l (next l)) ]
