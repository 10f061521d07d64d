-- What the bounds say of the numbers that they stand for; nobody has to believe this.
use Rattle.std.specs.Prelude.{ℕ, ◌+◌, ◌*◌, ◌^◌, ◌≤◌}
use Rattle.step_braking.specs.declared.Course.{Course}
use Rattle.step_braking.specs.Plan.{v9, beta_of}
use Rattle.step_curve.specs.declared.Curve.{Curve}
use Rattle.step_curve.specs.Plan.{square_of, run_of}
use Rattle.step_quick.specs.declared.Bounds.{Bounds}
use Rattle.step_quick.specs.declared.Run.{Run}

-- a deceleration of A over s, and Vβ at v
pub record IsBounds (c : Course) (A s v v0 : ℕ) (r : Bounds) : Type 0 where
  pub beta-above : r.beta * 10 ^ 9 ≤ beta_of c v v0
  pub beta-below : beta_of c v v0 ≤ (r.beta + 1) * 10 ^ 9
  pub a-above : r.a * 32000000 ≤ 81 * A
  pub a-below : 81 * A ≤ (r.a + 1) * 32000000
  pub part : r.part * (r.a + 1) * (64 * 10 ^ 18) ≤ s * square_of (beta_of c v v0) (v9 v0)
  pub most : s * square_of (beta_of c v v0) (v9 v0) ≤ r.most * (64 * 10 ^ 18)
  -- how large they are; the part has 32 bits in mm
  pub beta-most : r.beta ≤ 980743560
  pub a-most : r.a ≤ 6755606550
  pub part-most : r.part ≤ 218638440774
  pub part-fits : r.part * (r.a + 1) ≤ 9131571127944172710

pub record IsRun (k : Curve) (c : Course) (beta v : ℕ) (r : Run) : Type 0 where
  pub above : (b : ℕ) → beta * 10 ^ 9 ≤ b → r.low * (9 * 10 ^ 17) ≤ run_of k c b (v9 v)
  pub below : (b : ℕ) → b ≤ (beta + 1) * 10 ^ 9 → run_of k c b (v9 v) ≤ r.high * (9 * 10 ^ 17)
  pub low-high : r.low ≤ r.high
  pub high-most : r.high ≤ 8992720544
