-- Every accepted train has begun to roll back by the longest time, so there is a last millisecond before it does, and which, if the brake acts in full; after it, it rolls on.
use mathlib.Core.Path.{◌≡◌, refl, sym, ap, ◌∙◌}
use mathlib.Core.List.{[], ◌∷◌}
use Prim.Native.Nat.{ℕ, zero, suc, ◌+◌, ◌*◌, ◌-◌, ◌/◌, ◌≤◌, ◌<◌}
use native.Mathlib.Omega.{arith}
use native.Mathlib.Nat.{mul-zero, mul_comm, le_refl, le_of_eq, le_dest, lt_of_not-le, div-mul-le_self, lt-div-mul-add, le-div_iff_mul-le, div-lt_iff_lt-mul}
use native.Mathlib.Decide.{dec_le}
use Rattle.exact.proofs.Polynomial.{num, ◌⊕◌, ◌⊗◌}
use Rattle.exact.proofs.Certificate.{x0, x1, x2, x3, x4, x5, x6, x7, x8, x9, done, times, cert, equal}
use Rattle.ramp_motion.specs.declared.Plan.{Plan}
use Rattle.ramp_motion.specs.Plan.{full, squares, fast, slow}
use Rattle.ramp_motion.proofs.Brake.{sq, SQ, squares-is, squares-start}
use Rattle.ramp_motion.proofs.Furthest.{Fast, Slow, earlier}
use Rattle.ramp_plan.specs.Fair.{Small, Enough}
use Rattle.ramp_stop.specs.Stop.{Turns, longest}

-- it stands or moves on at 0
pub at-start : (m : Plan) → slow m 0 ≤ fast m 0
at-start m = let e : m.brake * squares m.tm m.tr 0 ≡ 0 = rw (squares-start m.tm m.tr) (mul-zero m.brake) in omega arith

module _ (m : Plan) (s : Small m) (h : Enough m) where
  -- of twice the longest time full braking counts for x; y is for the dead time and half of the rise
  lost : (x y : ℕ) → x + y ≡ 2097152 → y ≤ 70000 → 2 * m.start + m.down * 2097152 + 1 ≤ m.up * 2097152 + 2 * m.brake * m.tr * x
  lost x y e i =
      rw (← e)
      (cert (m.start ∷ m.down ∷ m.up ∷ m.brake ∷ m.tr ∷ x ∷ y ∷ [])
      (times x5 (x1 ⊕ num 9000000 ⊗ x4) (num 2 ⊗ x3 ⊗ x4 ⊕ x2) h
      (times (num 2) x0 (num 5000000000000 ⊗ x4) s.start
      (times x1 x6 (num 70000) i
      (times (num 70000) x1 (num 74163600 ⊗ x4) s.down
      (times (num 9000000 ⊗ x4) (num 2027152) x5 (omega arith) (times (num 1) (num 1) x4 s.some done))))))
      (num 2 ⊗ x0 ⊕ x1 ⊗ (x5 ⊕ x6) ⊕ num 1) (x2 ⊗ (x5 ⊕ x6) ⊕ num 2 ⊗ x3 ⊗ x4 ⊗ x5) refl)

  -- at the longest time the speed is below 0
  pub at-end : fast m longest < slow m longest
  at-end =
      let f = full m.tm m.tr longest in
      let S = squares m.tm m.tr longest in
      let e : sq f m.tr ≡ S = ap (sq f) (omega (arith, s.tm, s.tr)) ∙ sym (squares-is m.tm m.tr longest) in
      let g : 2 * fast m longest + 1 ≤ 2 * slow m longest =
      cert (m.start ∷ m.down ∷ m.up ∷ m.brake ∷ m.tr ∷ f ∷ S ∷ [])
      (times (num 1) (num 2 ⊗ x0 ⊕ x1 ⊗ num 2097152 ⊕ num 1) (x2 ⊗ num 2097152 ⊕ num 2 ⊗ x3 ⊗ x4 ⊗ (num 2 ⊗ x5 ⊕ x4))
      (lost (2 * f + m.tr) (2 * m.tm + m.tr) (omega (arith, s.tm, s.tr)) (omega (arith, s.tm, s.tr)))
      (times (num 2 ⊗ x3) (SQ x5 x4) x6 (le_of_eq e) done))
      (num 2 ⊗ Fast x0 x1 (num 1048576) ⊕ num 1) (num 2 ⊗ Slow x2 x3 (num 1048576) x6) refl in
      omega arith

  -- once the brake acts in full the speed falls evenly, by slowing a millisecond
  abbrev V' : ℕ
  V' = m.start + m.brake * m.tr * (2 * m.tm + m.tr)

  abbrev slowing : ℕ
  slowing = 2 * m.brake * m.tr + m.up - m.down

  evenly : (t : ℕ) → m.tm + m.tr ≤ t → slow m t + V' ≡ fast m t + slowing * t
  evenly t l =
      let f = full m.tm m.tr t in
      let e : squares m.tm m.tr t ≡ sq f m.tr = squares-is m.tm m.tr t ∙ ap (sq f) (omega arith) in
      let g : slowing + m.down ≡ 2 * m.brake * m.tr + m.up = omega arith in
      let i : t ≡ m.tm + m.tr + f = omega arith in
      equal (m.start ∷ m.up ∷ m.down ∷ m.brake ∷ m.tm ∷ m.tr ∷ f ∷ t ∷ squares m.tm m.tr t ∷ slowing ∷ [])
      (times x3 x8 (SQ x6 x5) e (times (num 2 ⊗ x3 ⊗ x5) (x4 ⊕ x5 ⊕ x6) x7 (sym i) (times x7 (num 2 ⊗ x3 ⊗ x5 ⊕ x1) (x9 ⊕ x2) (sym g) done)))
      (Slow x1 x3 x7 x8 ⊕ (x0 ⊕ x3 ⊗ x5 ⊗ (num 2 ⊗ x4 ⊕ x5))) (Fast x0 x2 x7 ⊕ x9 ⊗ x7) refl

  pub slowing-some : 0 < slowing
  slowing-some = let i = s.some in omega arith

  pub in-full : slow m (m.tm + m.tr) ≤ fast m (m.tm + m.tr) → Turns m (V' / slowing)
  in-full moves =
      let t = V' / slowing in
      let T = m.tm + m.tr in
      let e₀ = evenly T (le_refl T) in
      let l : T ≤ t = (le-div_iff_mul-le slowing-some).1 (rw (mul_comm T slowing) (omega arith)) in
      let e₁ = evenly t l in
      let e₂ = evenly (t + 1) (omega arith) in
      let e₃ = evenly longest (omega (arith, s.tm, s.tr)) in
      let d : slowing * t ≤ V' = rw (mul_comm slowing t) (div-mul-le_self V' slowing) in
      let u : V' < slowing * (t + 1) = rw (mul_comm slowing (t + 1)) (up t slowing V' (lt-div-mul-add slowing-some)) in
      let w : V' < slowing * longest = let n = at-end in omega arith in
      record {
        still = omega arith;
        back = omega arith;
        early = (div-lt_iff_lt-mul slowing-some).1 (rw (mul_comm longest slowing) w);
      }
    where
      up : (t g v : ℕ) → v < t * g + g → v < (t + 1) * g
      up t g v h = omega arith

-- the search has it between low and high
pub record Between (m : Plan) (low high : ℕ) : Type 0 where
  pub still : slow m low ≤ fast m low
  pub back : fast m high < slow m high
  pub apart : low < high
  pub early : high ≤ longest

pub begun : (m : Plan) → Small m → fast m (m.tm + m.tr) < slow m (m.tm + m.tr) → Between m 0 (m.tm + m.tr)
begun m s b = record { still = at-start m; back = b; apart = omega (arith, s.some); early = omega (arith, s.tm, s.tr) }

pub turned : (m : Plan) (low high : ℕ) → Between m low high → high - low ≤ 1 → Turns m low
turned m low high b l =
    let i = b.apart in
    let e : low + 1 ≡ high = omega arith in
    record { still = b.still; back = rw e b.back; early = omega (arith, b.early) }

-- so there is one at which it turns
turns-within : (m : Plan) (n low : ℕ) → slow m low ≤ fast m low → fast m (low + n) < slow m (low + n) → low + n ≤ longest → (t : ℕ) × Turns m t
turns-within m zero low still back early = absurd (let e : low + 0 ≡ low = omega arith in let b : fast m low < slow m low = rw e at back in omega arith)
turns-within m (suc n) low still back early =
    let e : low + suc n ≡ low + 1 + n = omega arith in
    go (dec_le (slow m (low + 1)) (fast m (low + 1))) (λ s. turns-within m n (low + 1) s (rw e at back) (omega arith))
  where
    go : Dec (slow m (low + 1) ≤ fast m (low + 1)) → (slow m (low + 1) ≤ fast m (low + 1) → (t : ℕ) × Turns m t) → (t : ℕ) × Turns m t
    go (yes s) on = on s
    go (no b) on = (low, record { still = still; back = lt_of_not-le b; early = omega arith })

pub turns : (m : Plan) → Small m → Enough m → (t : ℕ) × Turns m t
turns m s h = turns-within m longest 0 (at-start m) (at-end m s h) (le_refl longest)

-- once it has begun to roll back it rolls back for ever
pub rolls-on : (m : Plan) (t : ℕ) → Turns m t → (s : ℕ) → t < s → fast m s < slow m s
rolls-on m t h s l = go (dec_le (slow m s) (fast m s))
  where
    go : Dec (slow m s ≤ fast m s) → fast m s < slow m s
    go (no i) = lt_of_not-le i
    go (yes i) =
        let (z, e) = le_dest {n = t + 1} {m = s} (omega arith) in
        let j : slow m (t + 1) ≤ fast m (t + 1) = earlier m (t + 1) z (omega arith) (rw e i) in
        absurd (let n : ⊥ = omega (arith, h.back) in n)
