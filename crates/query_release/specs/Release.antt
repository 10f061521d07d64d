-- Document 01, "Approach": the release speed, at which a train may creep past a closed signal: braked there, it stops within the overlap.
use Rattle.std.specs.Prelude.{◌≡◌, Bool, not, ◌&&◌, cond, ℕ, ◌*◌, min, ◌≤◌, leb, ltb, eqb, Result, Ok, Err}
use Rattle.train.specs.declared.Kmh.{Kmh}
use Rattle.train.specs.declared.Metre.{Metre}
use Rattle.train.specs.declared.Inertia.{Inertia}
use Rattle.train.specs.declared.refusal.Refusal.{Refusal}
use Rattle.train.specs.Number.{number}
use Rattle.ramp_motion.specs.declared.Overrun.{Overrun}
use Rattle.ramp.specs.Answer.{at_speed, strong, distance}
use Rattle.query_climb.specs.Climb.{climb}

-- the paper's numbers for each case of the answer: the refusal and the release speed
abbrev pub says_of : Result Kmh Refusal → ℕ × ℕ
says_of (Ok v) = (0, v.0)
says_of (Err r) = (number r, 0)

-- o is the motion past the signal, from any speed
module _ (k : Inertia) (o : Overrun) (overlap : Metre) where
  -- the ramp answer does not exceed 1,000 × overlap
  abbrev pub stops_within : ℕ → Bool
  stops_within v = leb (distance k (at_speed o v)) (1000 * overlap.0)

  -- climbing from 1 km/h to the lower of 100 and top speed; 0 where speed 1 does not stop within the overlap, or where the overlap is 0
  unfoldable pub release_of : Kmh → ℕ
  release_of top = cond (eqb overlap.0 0) 0 (climb stops_within 0 (min 100 top.0))

  -- refusal 10 of the ramp, which is consulted where there is an overlap; it is the same at every speed
  unfoldable pub weak_past : Bool
  weak_past = ltb 0 overlap.0 && not (strong k o)

  -- these numbers are the definitions'; and the release speed is at most 100, and at most the top speed
  pub record Releases (top : Kmh) (r : Result Kmh Refusal) : Type 0 where
    pub says : says_of r ≡ cond weak_past (10, 0) (0, release_of top)
    pub low : (says_of r).1 ≤ 100
    pub slow : (says_of r).1 ≤ top.0
