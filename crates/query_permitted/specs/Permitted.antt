-- Document 01, "Approach", with document 02, Card 5: the permitted speed, at which a train may come up to the signal, and the mark, which
-- says what holds it.
use Rattle.std.specs.Prelude.{◌≡◌, Bool, ◌&&◌, cond, ℕ, ◌*◌, ◌-◌, leb, Result, Ok, Err}
use Rattle.train.specs.declared.Kmh.{Kmh}
use Rattle.train.specs.declared.Metre.{Metre}
use Rattle.train.specs.declared.Train.{Train}
use Rattle.train.specs.declared.Gradient.{Gradient}
use Rattle.train.specs.declared.Coefficients.{Coefficients}
use Rattle.train.specs.declared.refusal.Refusal.{Refusal}
use Rattle.train.specs.Number.{number}
use Rattle.train.specs.Units.{kmh}
use Rattle.step_braking.specs.Braking.{strong}
use Rattle.step_curve.specs.declared.Curve.TheVariants.{P}
use Rattle.step_curve.specs.Step.{distance}
use Rattle.query_climb.specs.Climb.{climb}
use Rattle.query_permitted.specs.declared.Permitted.{Permitted}
use Rattle.query_permitted.specs.declared.Permitted.TheVariants.{Release, Curve}

-- the mark's numbers: "curve", the P distance to the release speed; "release", the release speed itself
abbrev pub on_curve : ℕ
on_curve = 1

abbrev pub on_release : ℕ
on_release = 2

-- the paper's numbers for each case of the answer: the refusal, the permitted speed and the mark
abbrev pub says_of : Kmh → Result Permitted Refusal → ℕ × ℕ × ℕ
says_of v0 (Ok Release) = (0, v0.0, 2)
says_of v0 (Ok (Curve v)) = (0, v.0, 1)
says_of v0 (Err r) = (number r, 0, 0)

-- v0 is the release speed, g the gradient ahead, d the distance to the signal
module _ (k : Coefficients) (t : Train) (g : Gradient) (v0 : Kmh) (d : Metre) where
  -- the P distance is at most 1,000 × (signal - head)
  unfoldable pub within : ℕ → Bool
  within v = leb (distance k t g (kmh v) v0 P).0 (1000 * d.0)

  -- Card 5: a too weak speed does not fit
  unfoldable pub fits : ℕ → Bool
  fits v = strong k t g (kmh v) v0 && within v

  -- climbing from V0 to the top speed at most; V0 where it does not fit itself
  unfoldable pub permitted_of : ℕ
  permitted_of = cond (fits v0.0) (climb fits v0.0 (t.top.0 - v0.0)) v0.0

  unfoldable pub mark_of : ℕ
  mark_of = cond (fits v0.0) on_curve on_release

  -- these numbers are the definitions'; refusal 10 of the step model is decided at V0
  abbrev pub Permits : Result Permitted Refusal → Type 0
  Permits r = says_of v0 r ≡ cond (strong k t g v0 v0) (0, permitted_of, mark_of) (10, 0, 0)
