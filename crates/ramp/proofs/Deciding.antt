-- The refusals go by the one order: what is found out decides which it is.
use mathlib.Core.Path.{◌≡◌, refl, ◌∙◌}
use mathlib.Core.Bool.{true, false}
use Prim.Native.Nat.{ℕ, ◌<◌}
use native.Mathlib.Omega.{arith}
use Rattle.train.specs.declared.Inertia.{Inertia}
use Rattle.train.specs.Refusal.{first_of}
use Rattle.train.proofs.Refusals.{Rising, rising-before, first-after, first-before}
use Rattle.ramp_motion.specs.declared.Overrun.{Overrun}
use Rattle.ramp.specs.Answer.{inputs, strong, weak, ramp_refusals}

-- the refusals go by the one order, so the first that applies is the answer (the train's `soonest` and `applies`)
pub ramp-rising : (k : Inertia) (o : Overrun) → Rising 1 (ramp_refusals k o)
ramp-rising k o = (tt, (tt, (tt, (tt, (tt, (tt, (tt, (tt, (tt, (tt, (tt, (tt, (tt, (tt, (tt, (tt, (tt, tt)))))))))))))))))

module _ (k : Inertia) (o : Overrun) where
  inputs-rising : Rising 1 (inputs k o)
  inputs-rising = rising-before 1 (inputs k o) (weak k o) (ramp-rising k o)

  pub by-inputs : (n : ℕ) → 0 < n → n ≡ first_of (inputs k o) → first_of (ramp_refusals k o) ≡ n
  by-inputs n l e = rw e (first-before (inputs k o) (weak k o) (λ z. omega arith))

  module _ (z : first_of (inputs k o) ≡ 0) where
    decides : first_of (ramp_refusals k o) ≡ first_of (weak k o)
    decides = first-after 0 (inputs k o) (weak k o) inputs-rising z

    pub by-weakness : strong k o ≡ false → first_of (ramp_refusals k o) ≡ 10
    by-weakness e = decides ∙ rw e refl

    pub by-none : strong k o ≡ true → first_of (ramp_refusals k o) ≡ 0
    by-none e = decides ∙ rw e refl
