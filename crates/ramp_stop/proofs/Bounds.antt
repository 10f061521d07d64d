-- Every number of the search and of the place fits its type.
use mathlib.Core.Path.{◌≡◌, refl}
use mathlib.Core.List.{[], ◌∷◌}
use Prim.Native.Nat.{ℕ, ◌+◌, ◌*◌, ◌-◌, ◌^◌, ◌≤◌, ◌<◌}
use native.Mathlib.Omega.{arith}
use native.Mathlib.Nat.{mul-le-mul, mul-pos, add-le-add, le_trans, lt_of_le_of_lt, sub-le}
use lib.Dec.{lit<}
use Rattle.exact.specs.Fraction.{◌over◌, raised}
use Rattle.exact.proofs.Polynomial.{num, ◌⊗◌}
use Rattle.exact.proofs.Certificate.{x0, x1, x2, done, times, cert}
use Rattle.exact.proofs.Raised.{raised-over-le}
use Rattle.wide.specs.Value.{limit}
use Rattle.ramp_motion.specs.declared.Plan.{Plan}
use Rattle.ramp_motion.specs.Plan.{squares, cubes, gain, loss}
use Rattle.ramp_motion.proofs.Brake.{below}
use Rattle.ramp_plan.specs.Fair.{Small}
use Rattle.ramp_stop.specs.Stop.{longest, place_up}

square-small : (a : ℕ) → a ≤ longest → a * a ≤ 1099511627776
square-small a h = mul-le-mul h h

cube-small : (a : ℕ) → a ≤ longest → a * a * a ≤ 1152921504606846976
cube-small a h = mul-le-mul (square-small a h) h

-- the times for which the brake has acted, a, and acts in full, f
pub record Times (a f : ℕ) : Type 0 where
  pub cube : a * a * a ≤ 1152921504606846976
  pub cube-less : f * f * f ≤ a * a * a

pub times-fit : (tm tr t a f : ℕ) → a ≡ t - tm → f ≡ t - (tm + tr) → t ≤ longest → Times a f
times-fit tm tr t a f e e' h =
    let i : a ≤ longest = omega arith in
    let j : f ≤ a = omega arith in
    record { cube = cube-small a i; cube-less = mul-le-mul (mul-le-mul j j) j }

module _ (m : Plan) (t : ℕ) (s : Small m) (l : t ≤ longest) where
  slope-way : (x : ℕ) → x ≤ 74163600 * m.tr → x * t ≤ 2332985131008000000
  slope-way x h = mul-le-mul {n₂ = 2224908000000} {m₂ = 1048576} (let i = s.tr in omega arith) l

  -- what the test of the speed works out
  pub record Tested : Type 0 where
    pub start : m.start ≤ 150000000000000000
    pub up : m.up * t ≤ 2332985131008000000
    pub down : m.down * t ≤ 2332985131008000000
    pub brake : m.brake * squares m.tm m.tr t ≤ 6064334438400000000

  pub tested : Tested
  tested =
      let b : squares m.tm m.tr t ≤ 62914560000 = le_trans (below m.tm m.tr t) (mul-le-mul {n₂ = 2097152} {m₂ = 30000} (omega arith) (omega (arith, s.tr))) in
      record { start = omega (arith, s.start, s.tr); up = slope-way m.up s.up; down = slope-way m.down s.down; brake = mul-le-mul s.brake b }

  -- the loss, as the wide numbers add it up
  pub loss-fits : loss m t < limit
  unfolding limit cubes
  loss-fits =
      let a : 3 * t * (m.up * t) ≤ 3145728 * 2332985131008000000 = mul-le-mul {n₂ = 3145728} (omega arith) (slope-way m.up s.up) in
      let c : cubes m.tm m.tr t ≤ 1152921504606846976 = le_trans (sub-le _ _) (cube-small (t - m.tm) (omega arith)) in
      let b : 2 * m.brake * cubes m.tm m.tr t ≤ 192780000 * 1152921504606846976 = mul-le-mul {n₂ = 192780000} (omega (arith, s.brake)) c in
      lt_of_le_of_lt (add-le-add a b) (lit< tt)

  -- no place is beyond 300 km
  pub gain-most : gain m t ≤ 300000000 * (108 * 10 ^ 10 * m.tr)
  gain-most =
      let d : m.down * t ≤ 74163600 * m.tr * 1048576 = mul-le-mul s.down l in
      let w : 2 * m.start + m.down * t ≤ 88000000000000 * m.tr = omega (arith, s.start) in
      cert (m.tr ∷ t ∷ (2 * m.start + m.down * t) ∷ [])
      (times (num 3 ⊗ x1) x2 (num 88000000000000 ⊗ x0) w (times (num 264000000000000 ⊗ x0) x1 (num 1048576) l done))
      (num 3 ⊗ x1 ⊗ x2) (num 300000000 ⊗ (num (108 * 10 ^ 10) ⊗ x0)) refl

  pub place-most : place_up m t ≤ 300000000
  unfolding place_up
  place-most =
      let h : gain m t - loss m t ≤ 300000000 * (108 * 10 ^ 10 * m.tr) = omega (arith, gain-most) in
      (raised-over-le (gain m t - loss m t) (108 * 10 ^ 10 * m.tr) 300000000 (mul-pos (lit< tt) s.some)).1 h

  pub place-from : (n d r : ℕ) → n ≡ gain m t - loss m t → d ≡ 108 * 10 ^ 10 * m.tr → r ≡ raised (n over d) → (r ≡ place_up m t) × (r ≤ 300000000)
  unfolding place_up
  place-from n d r e f g = let i : r ≡ place_up m t = rw (e, f) at g in (i, rw i place-most)

-- the brake's part of the speed, by what the code has for the squares
pub brake-way : (m : Plan) (t x : ℕ) → Small m → t ≤ longest → x ≡ squares m.tm m.tr t → m.brake * x ≤ 6064334438400000000
brake-way m t x s l e = rw e (tested m t s l).brake

module _ (tm tr t a f : ℕ) (e : a ≡ t - tm) (e' : f ≡ t - (tm + tr)) where
  pub squares-from : a * a - f * f ≡ squares tm tr t
  unfolding squares
  squares-from = rw (e, e')

  pub cubes-from : a * a * a - f * f * f ≡ cubes tm tr t
  unfolding cubes
  cubes-from = rw (e, e')
