-- The place in one word: the plan's numbers are whole numbers of tr, and a fraction of a unit changes nothing that is raised.
use mathlib.Core.Path.{◌≡◌, refl, sym}
use mathlib.Core.List.{[], ◌∷◌}
use Prim.Native.Nat.{ℕ, ◌+◌, ◌*◌, ◌-◌, ◌^◌, ◌/◌, ◌%◌, ◌≤◌, ◌<◌}
use native.Mathlib.Omega.{arith}
use native.Mathlib.Nat.{mul-pos, mul_assoc, le_of_eq, mul-le-mul, le_refl, le_trans, le_antisymm, le_of_mul-le-mul_right, lt_of_not-le, div-mul-le_self, lt-div-mul-add, div-add-mod, div-eq_of_eq-mul_left}
use native.Mathlib.Decide.{dec_le}
use lib.Dec.{lit<, lit≤}
use Rattle.exact.specs.Fraction.{◌over◌, raised}
use Rattle.exact.proofs.Polynomial.{num, ◌⊕◌, ◌⊗◌}
use Rattle.exact.proofs.Certificate.{x0, x1, x2, x3, x4, x5, x6, x7, x8, done, times, cert, equal}
use Rattle.exact.proofs.Raised.{raised-over-le}
use Rattle.ramp_motion.specs.declared.Plan.{Plan}
use Rattle.ramp_motion.specs.Plan.{cubes, gain, loss}
use Rattle.ramp_plan.specs.Fair.{Small, Counted}
use Rattle.ramp_stop.specs.Stop.{word_long, place_up}

-- a product over tr, from the two parts of x
module _ (p x tr : ℕ) (l : 0 < tr) where
  abbrev share : ℕ
  share = p * (x / tr) + p * (x % tr) / tr

  pub share-below : share * tr ≤ p * x
  share-below =
      cert (p ∷ x ∷ tr ∷ (x / tr) ∷ (x % tr) ∷ (p * (x % tr) / tr) ∷ [])
      (times (num 1) (x5 ⊗ x2) (x0 ⊗ x4) (div-mul-le_self (p * (x % tr)) tr) (times x0 (x2 ⊗ x3 ⊕ x4) x1 (let e = div-add-mod x tr in omega arith) done))
      ((x0 ⊗ x3 ⊕ x5) ⊗ x2) (x0 ⊗ x1) refl

  pub share-above : p * x < (share + 1) * tr
  share-above =
      let i : p * (x % tr) + 1 ≤ p * (x % tr) / tr * tr + tr = let h = lt-div-mul-add {a = p * (x % tr)} l in omega arith in
      let j : p * x + 1 ≤ (share + 1) * tr =
      cert (p ∷ x ∷ tr ∷ (x / tr) ∷ (x % tr) ∷ (p * (x % tr) / tr) ∷ [])
      (times x0 x1 (x2 ⊗ x3 ⊕ x4) (let e = div-add-mod x tr in omega arith) (times (num 1) (x0 ⊗ x4 ⊕ num 1) (x5 ⊗ x2 ⊕ x2) i done))
      (x0 ⊗ x1 ⊕ num 1) ((x0 ⊗ x3 ⊕ x5 ⊕ num 1) ⊗ x2) refl in
      omega (arith, j)

  pub share-fits : p * x ≤ 13000000000000000000 * tr → share ≤ 13000000000000000000
  share-fits h = le_of_mul-le-mul_right {k = tr} (le_trans share-below h) l

-- y less a part of one, times 6 tr, over 6 tr u: raised it is y over u raised
pub raised-word : (n d y u tr : ℕ) → 0 < tr → 0 < u → n ≤ 6 * tr * y → 6 * tr * y < n + 6 * tr → d ≡ 6 * tr * u → raised (n over d) ≡ raised (y over u)
raised-word n d y u tr l p h k e =
    let q : 0 < d = rw e (mul-pos (mul-pos (lit< tt) l) p) in
    let r = raised (y over u) in
    let r' = raised (n over d) in
    le_antisymm ((raised-over-le n d r q).1 (wider r ((raised-over-le y u r p).0 (le_refl r)))) ((raised-over-le y u r' p).1 (within r' ((raised-over-le n d r' q).0 (le_refl r'))))
  where
    wider : (r : ℕ) → y ≤ r * u → n ≤ r * d
    wider r i =
        cert (n ∷ y ∷ u ∷ tr ∷ r ∷ d ∷ []) (times (num 1) x0 (num 6 ⊗ x3 ⊗ x1) h (times (num 6 ⊗ x3) x1 (x4 ⊗ x2) i (times x4 (num 6 ⊗ x3 ⊗ x2) x5 (le_of_eq (sym e)) done)))
        x0 (x4 ⊗ x5) refl

    within : (r : ℕ) → n ≤ r * d → y ≤ r * u
    within r j = go (dec_le y (r * u))
      where
        go : Dec (y ≤ r * u) → y ≤ r * u
        go (yes i) = i
        go (no i) =
            let o = lt_of_not-le i in
            let a : r * u + 1 ≤ y = omega arith in
            let b : 6 * tr * y + 1 ≤ n + 6 * tr = omega arith in
            let c : 1 ≤ 0 =
            cert (n ∷ y ∷ u ∷ tr ∷ r ∷ d ∷ [])
            (times (num 6 ⊗ x3) (x4 ⊗ x2 ⊕ num 1) x1 a (times (num 1) (num 6 ⊗ x3 ⊗ x1 ⊕ num 1) (x0 ⊕ num 6 ⊗ x3) b (times (num 1) x0 (x4 ⊗ x5) j (times x4 x5 (num 6 ⊗ x3 ⊗ x2) (le_of_eq e) done))))
            (num 1) (num 0) refl in
            absurd (let z : ⊥ = omega (arith, c) in z)

-- at a moment at which the train has not rolled back beyond its start
module _ (m : Plan) (t : ℕ) (s : Small m) (h : loss m t ≤ gain m t) where
  abbrev c : Counted m
  c = s.counted

  -- an uphill slope alone does not turn the train back
  pub slope-less : m.up * t ≤ 2 * m.start + m.down * t
  slope-less = go (dec_le t 0)
    where
      go : Dec (t ≤ 0) → m.up * t ≤ 2 * m.start + m.down * t
      go (yes i) = le_trans (cert (m.up ∷ t ∷ []) (times x0 x1 (num 0) i done) (x0 ⊗ x1) (num 0) refl) (omega arith)
      go (no i) =
          let l = lt_of_not-le i in
          let e : 3 * t * (m.up * t) ≤ 3 * t * (2 * m.start + m.down * t) = omega arith in
          le_of_mul-le-mul_right {k = 3 * t}
          (cert (m.up ∷ m.start ∷ m.down ∷ t ∷ []) (times (num 1) (num 3 ⊗ x3 ⊗ (x0 ⊗ x3)) (num 3 ⊗ x3 ⊗ (num 2 ⊗ x1 ⊕ x2 ⊗ x3)) e done) (x0 ⊗ x3 ⊗ (num 3 ⊗ x3)) ((num 2 ⊗ x1 ⊕ x2 ⊗ x3) ⊗ (num 3 ⊗ x3)) refl)
          (omega arith)

  pub mean-is : (2 * m.start + m.down * t - m.up * t) / (2 * m.tr) * (2 * m.tr) + m.up * t ≡ 2 * m.start + m.down * t
  mean-is =
      let r = c.rise * t in
      let u = c.speed + c.fall * t in
      let l : 0 < 2 * m.tr = let i = s.some in omega arith in
      let i : r ≤ u =
      le_of_mul-le-mul_right {k = 2 * m.tr}
      (cert (c.speed ∷ c.rise ∷ c.fall ∷ m.tr ∷ t ∷ m.start ∷ m.up ∷ m.down ∷ [])
      (times (num 1) (x6 ⊗ x4) (num 2 ⊗ x5 ⊕ x7 ⊗ x4) slope-less
      (times x4 (num 2 ⊗ x1 ⊗ x3) x6 (le_of_eq (sym c.up_is)) (times (num 2) x5 (x0 ⊗ x3) (le_of_eq c.start_is) (times x4 x7 (num 2 ⊗ x2 ⊗ x3) (le_of_eq c.down_is) done))))
      (x1 ⊗ x4 ⊗ (num 2 ⊗ x3)) ((x0 ⊕ x2 ⊗ x4) ⊗ (num 2 ⊗ x3)) refl)
      l in
      let k = u - r in
      let e : k + r ≡ u = omega arith in
      let f : k * (2 * m.tr) + m.up * t ≡ 2 * m.start + m.down * t =
      equal (c.speed ∷ c.rise ∷ c.fall ∷ m.tr ∷ t ∷ m.start ∷ m.up ∷ m.down ∷ k ∷ [])
      (times x4 x6 (num 2 ⊗ x1 ⊗ x3) c.up_is (times (num 2 ⊗ x3) (x8 ⊕ x1 ⊗ x4) (x0 ⊕ x2 ⊗ x4) e (times (num 2) (x0 ⊗ x3) x5 (sym c.start_is) (times x4 (num 2 ⊗ x2 ⊗ x3) x7 (sym c.down_is) done))))
      (x8 ⊗ (num 2 ⊗ x3) ⊕ x6 ⊗ x4) (num 2 ⊗ x5 ⊕ x7 ⊗ x4) refl in
      let d : (2 * m.start + m.down * t - m.up * t) / (2 * m.tr) ≡ k = div-eq_of_eq-mul_left l (omega arith) in
      rw d f

  -- what the brake takes off the place, but for tr
  abbrev p : ℕ
  p = m.brake / 3 * cubes m.tm m.tr t

  brake-is : 2 * m.brake * cubes m.tm m.tr t ≡ 6 * p
  brake-is =
      let i : 2 * m.brake ≡ 6 * (m.brake / 3) = let j = c.brake-is in omega arith in
      rw i (mul_assoc 6 (m.brake / 3) (cubes m.tm m.tr t))

  -- w is the mean speed without the brake
  module _ (w : ℕ) (e : w * (2 * m.tr) + m.up * t ≡ 2 * m.start + m.down * t) where
    place_is : gain m t - loss m t + 6 * p ≡ 6 * m.tr * (w * t)
    place_is =
        let g : gain m t ≡ 6 * m.tr * (w * t) + 3 * t * (m.up * t) =
        equal (m.start ∷ m.up ∷ m.down ∷ m.tr ∷ t ∷ w ∷ []) (times (num 3 ⊗ x4) (num 2 ⊗ x0 ⊕ x2 ⊗ x4) (x5 ⊗ (num 2 ⊗ x3) ⊕ x1 ⊗ x4) (sym e) done)
        (num 3 ⊗ x4 ⊗ (num 2 ⊗ x0 ⊕ x2 ⊗ x4)) (num 6 ⊗ x3 ⊗ (x5 ⊗ x4) ⊕ num 3 ⊗ x4 ⊗ (x1 ⊗ x4)) refl in
        omega (arith, g, brake-is, h)

    -- no number is longer than a word
    pub unbraked-fits : t ≤ word_long → w * t ≤ 12900000000000000000
    unbraked-fits l =
        let d : m.down * t ≤ 74163600 * m.tr * 524288 = mul-le-mul s.down l in
        let i : w ≤ 24441542758400 =
        le_of_mul-le-mul_right {k = 2 * m.tr} (le_trans (omega (arith, e, d, s.start)) (cert (m.tr ∷ []) done (num 48883085516800 ⊗ x0) (num 24441542758400 ⊗ (num 2 ⊗ x0)) refl)) (let z = s.some in omega arith) in
        le_trans (mul-le-mul {n₂ = 24441542758400} {m₂ = 524288} i l) (lit≤ tt)

    pub brake-fits : t ≤ word_long → p ≤ 13000000000000000000 * m.tr
    brake-fits l =
        le_of_mul-le-mul_right {k = 6}
        (cert (m.tr ∷ (w * t) ∷ p ∷ [])
        (times (num 1) (num 6 ⊗ x2) (num 6 ⊗ x0 ⊗ x1) (omega (arith, place_is)) (times (num 6 ⊗ x0) x1 (num 12900000000000000000) (unbraked-fits l) done))
        (x2 ⊗ num 6) (num 13000000000000000000 ⊗ x0 ⊗ num 6) refl)
        (lit< tt)

    -- x is what the brake takes off, lowered
    module _ (x : ℕ) (a : x * m.tr ≤ p) (b : p < (x + 1) * m.tr) where
      pub brake-less : x ≤ w * t
      brake-less =
          le_of_mul-le-mul_right {k = 6 * m.tr}
          (cert (x ∷ m.tr ∷ p ∷ (w * t) ∷ []) (times (num 6) (x0 ⊗ x1) x2 a (times (num 1) (num 6 ⊗ x2) (num 6 ⊗ x1 ⊗ x3) (omega (arith, place_is)) done)) (x0 ⊗ (num 6 ⊗ x1)) (x3 ⊗ (num 6 ⊗ x1)) refl)
          (let l = s.some in omega arith)

      pub place-word : raised ((w * t - x) over 180000000000) ≡ place_up m t
      unfolding place_up
      place-word =
          let n = gain m t - loss m t in
          let y = w * t - x in
          let i : y + x ≡ w * t = omega (arith, brake-less) in
          sym
          (raised-word n (108 * 10 ^ 10 * m.tr) y 180000000000 m.tr s.some (lit< tt)
          (cert (n ∷ p ∷ m.tr ∷ (w * t) ∷ y ∷ x ∷ []) (times (num 1) (x0 ⊕ num 6 ⊗ x1) (num 6 ⊗ x2 ⊗ x3) (le_of_eq place_is) (times (num 6) (x5 ⊗ x2) x1 a (times (num 6 ⊗ x2) x3 (x4 ⊕ x5) (le_of_eq (sym i)) done))) x0 (num 6 ⊗ x2 ⊗ x4) refl)
          (let k : 6 * m.tr * y + 1 ≤ n + 6 * m.tr =
          cert (n ∷ p ∷ m.tr ∷ (w * t) ∷ y ∷ x ∷ [])
          (times (num 1) (num 6 ⊗ x2 ⊗ x3) (x0 ⊕ num 6 ⊗ x1) (le_of_eq (sym place_is)) (times (num 6) (x1 ⊕ num 1) ((x5 ⊕ num 1) ⊗ x2) (omega (arith, b)) (times (num 6 ⊗ x2) (x4 ⊕ x5) x3 (le_of_eq i) done)))
          (num 6 ⊗ x2 ⊗ x4 ⊕ num 1) (x0 ⊕ num 6 ⊗ x2) refl in
          omega (arith, k))
          (omega arith))
