-- What the code knows of all motions at once; nobody has to believe this.
use Rattle.train.specs.declared.Inertia.{Inertia}
use Rattle.ramp_motion.specs.declared.Overrun.{Overrun}
use Rattle.ramp_motion.specs.declared.Plan.{Plan}
use Rattle.ramp_motion.specs.Plan.{IsPlan}

-- what holds of every motion with this plan
abbrev pub Each : Plan → (Inertia → Overrun → Type 0) → Type 0
Each m P = (k : Inertia) (o : Overrun) → IsPlan k o m → P k o
