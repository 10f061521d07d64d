-- Every motion has a plan: whole numbers that are the paper's.
use mathlib.Core.Path.{refl}
use mathlib.Core.List.{[], ◌∷◌}
use Prim.Native.Nat.{ℕ, ◌+◌, ◌*◌, ◌^◌, ◌<◌}
use native.Mathlib.Nat.{mul-pos}
use lib.Dec.{lit<}
use Rattle.exact.specs.Fraction.{signed, ◌over◌, ◌≈q◌}
use Rattle.exact.proofs.Polynomial.{num, ◌⊗◌}
use Rattle.exact.proofs.Certificate.{x0, x1, x2, done}
use Rattle.exact.proofs.Shape.{shape, whole_e, over_e, ◌*e◌}
use Rattle.exact.proofs.Substitution.{≈q-refl, becomes, *q-cong}
use Rattle.train.specs.declared.Inertia.{Inertia}
use Rattle.train.specs.Units.{speed}
use Rattle.train_slope.specs.Slope.{factor, dr}
use Rattle.train_slope.proofs.Decelerations.{di-is, dr-is}
use Rattle.ramp_motion.specs.declared.Overrun.{Overrun}
use Rattle.ramp_motion.specs.declared.Plan.{Plan}
use Rattle.ramp_motion.specs.Motion.{di, dp}
use Rattle.ramp_motion.specs.Plan.{IsPlan}

-- of the slope's deceleration in 10⁻⁷ m/s² and the nominal one in 10⁻⁵ m/s²
module _ (o : Overrun) (up7 dn7 dr5 : ℕ) where
  abbrev tr : ℕ
  tr = 10 * o.tr

  abbrev pub planned : Plan
  planned = record { start = 50000000000 * o.v.0 * tr; up = 18 * up7 * tr; down = 18 * dn7 * tr; brake = 9 * (90 * dr5); tm = 10 * o.tm; tr = tr }

  module _ (l : 0 < o.tr) where
    tr-some : 0 < tr
    tr-some = mul-pos (lit< tt) l

    start_is : speed o.v ≈q (50000000000 * o.v.0 * tr) over (18 * 10 ^ 10 * tr)
    unfolding speed
    start_is =
        becomes (o.v.0 ∷ tr ∷ []) done (whole_e x0 *e over_e (num 5) 18) (shape (num 50000000000 ⊗ x0 ⊗ x1) (num 0) (num (18 * 10 ^ 10) ⊗ x1))
        (≈q-refl (lit< tt)) (mul-pos (lit< tt) tr-some) refl

    brake-is : dr o.weight ≈q dr5 over (10 ^ 5) → dp o ≈q (9 * (90 * dr5)) over (9 * 10 ^ 7)
    unfolding dp
    brake-is e =
        becomes (dr5 ∷ []) done (over_e (num 9) 10 *e over_e x0 (10 ^ 5)) (over_e (num 9 ⊗ (num 90 ⊗ x0)) (9 * 10 ^ 7))
        (*q-cong (≈q-refl {a = 9 over 10} (lit< tt)) e) (lit< tt) refl

    pub is-plan : (k : Inertia) → di k o ≈q signed up7 dn7 (10 ^ 7) → dr o.weight ≈q dr5 over (10 ^ 5) → IsPlan k o planned
    is-plan k e d = record {
      start = start_is;
      slope =
          becomes (up7 ∷ dn7 ∷ tr ∷ []) done (shape x0 x1 (num (10 ^ 7))) (shape (num 18 ⊗ x0 ⊗ x2) (num 18 ⊗ x1 ⊗ x2) (num (18 * 10 ^ 7) ⊗ x2))
          e (mul-pos (lit< tt) tr-some) refl;
      brake = brake-is d;
      tm = refl;
      tr = refl;
    }

module _ (k : Inertia) (o : Overrun) where
  abbrev pub plan_of : Plan
  plan_of = planned o (factor k o.gradient * 981 * o.gradient.rise) (factor k o.gradient * 981 * o.gradient.fall) (685 * o.weight + 9400)

  pub plan_of-is : 0 < o.tr → IsPlan k o plan_of
  plan_of-is l = is-plan o _ _ _ l k (di-is k o.gradient) (dr-is o.weight)
