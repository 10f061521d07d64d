-- Card 13: of two accepted answers alike but for speed, the faster run's is no earlier and no less.
use mathlib.Core.Path.{◌≡◌, refl}
use mathlib.Core.Bool.{cond}
use Prim.Native.Nat.{ℕ, zero, suc, ◌≤◌}
use native.Mathlib.Omega.{arith}
use borrow.Author.Tests.{ne_eqb}
use lib.Dec.{eqb}
use Rattle.train.specs.declared.Inertia.{Inertia}
use Rattle.train.specs.Refusal.{first_of}
use Rattle.ramp_motion.specs.declared.Overrun.{Overrun}
use Rattle.ramp.specs.declared.Stop.{Stop}
use Rattle.ramp.specs.Answer.{at_speed, ramp_refusals, refused, moment, distance, stop_of, RampAnswers}
use Rattle.ramp.proofs.Always.{m, is, small, enough}
use Rattle.ramp.proofs.Speeds.{slower}

-- an answer that is not a refusal is the moment and the distance
pub record Given (k : Inertia) (o : Overrun) (r : Stop) : Type 0 where
  pub accepted : first_of (ramp_refusals k o) ≡ 0
  pub moment-is : r.moment ≡ moment k o
  pub distance_is : r.distance.0 ≡ distance k o

pub given : (k : Inertia) (o : Overrun) (r : Stop) → RampAnswers k o r → r.refusal ≡ 0 → Given k o r
unfolding stop_of
given k o r a z = go (first_of (ramp_refusals k o)) refl a.answer
  where
    go : (n : ℕ) → first_of (ramp_refusals k o) ≡ n → r ≡ cond (eqb n 0) (record { refusal = 0; distance = record { 0 = distance k o }; moment = moment k o }) (refused n) → Given k o r
    go zero e i = record { accepted = e; moment-is = rw i refl; distance_is = rw i refl }
    go (suc n) e i = absurd (let j : suc n ≡ 0 = rw (i, ne_eqb (suc n) 0 (λ q. omega arith)) at z in omega arith)

module _ (k : Inertia) (o : Overrun) (w : ℕ) (l : o.v.0 ≤ w) (r r' : Stop) where
  pub never-falls : RampAnswers k o r → RampAnswers k (record { weight = o.weight; gradient = o.gradient; v = record { 0 = w }; tm = o.tm; tr = o.tr }) r' → r.refusal ≡ 0 → r'.refusal ≡ 0 → (r.moment ≤ r'.moment) × (r.distance.0 ≤ r'.distance.0)
  never-falls a b z z' =
      let g = given k o r a z in
      let g' = given k (at_speed o w) r' b z' in
      let i = g.accepted in
      let h = slower k o (m k o i) (is k o i) (small k o i) (enough k o i) o.v.0 w l (b.spans.accepted z').1.0.1 in
      rw (g.moment-is, g.distance_is, g'.moment-is, g'.distance_is) h
