-- The whole numbers that the code works with: a distance as one number over another.
use Rattle.std.specs.Prelude.{◌≡◌, ℕ, ◌+◌, ◌*◌, ◌-◌, ◌^◌, ◌≤◌, ◌<◌}
use Rattle.exact.specs.Fraction.{◌over◌, raised}
use Rattle.wide.specs.Value.{value_of}
use Rattle.step_braking.specs.declared.Course.{Course}
use Rattle.step_braking.specs.Plan.{v9, s_of, beta_of, gain_of, loss_of, a_most, beta_most, speed_most}
use Rattle.step_curve.specs.declared.Curve.{Curve}
use Rattle.step_curve.specs.declared.Curve.TheVariants.{Ebi, Sbi, W, P}
use Rattle.step_curve.specs.declared.Terms.{Terms}

-- b² - b0²
unfoldable pub square_of : ℕ → ℕ → ℕ
square_of b b0 = (b - b0) * (b + b0)

-- how often a curve counts tR + tf at Vβ, and 1.5 s at V
abbrev pub service_of : Curve → ℕ
service_of Ebi = 0
service_of Sbi = 1
service_of W = 1
service_of P = 1

abbrev pub warning_of : Curve → ℕ
warning_of Ebi = 0
warning_of Sbi = 0
warning_of W = 1
warning_of P = 2

-- the run at the steady speeds b and v, in m / (9·10²³)
unfoldable pub run_of : Curve → Course → ℕ → ℕ → ℕ
run_of k c b v = (c.t8 + service_of k * c.r8) * b + warning_of k * 150000000 * v

-- a curve's distance at the speeds v and v0 is sum_at over 81·10²⁰ a_of, in mm
unfoldable pub a_of : Course → ℕ → ℕ → ℕ
a_of c v v0 = gain_of c v v0 - loss_of c v v0

module _ (k : Curve) (c : Course) (v v0 : ℕ) where
  unfoldable pub sum_at : ℕ
  sum_at = 9 * a_of c v v0 * run_of k c (beta_of c v v0) (v9 v) + 50000 * s_of v * square_of (beta_of c v v0) (v9 v0)

  unfoldable pub place_of : ℕ
  place_of = raised (sum_at over (81 * 10 ^ 20 * a_of c v v0))

-- the sum as its terms have it
unfoldable pub sum_of : Curve → Course → Terms → ℕ
sum_of k c m = 9 * m.a * run_of k c m.beta m.speed + value_of m.part

pub record IsTerms (c : Course) (v v0 : ℕ) (m : Terms) : Type 0 where
  pub a : m.a + loss_of c v v0 ≡ gain_of c v v0
  pub beta : m.beta ≡ beta_of c v v0
  pub speed : m.speed ≡ v9 v
  pub part : value_of m.part ≡ 50000 * s_of v * square_of (beta_of c v v0) (v9 v0)
  pub scale : value_of m.scale ≡ 81 * 10 ^ 20 * m.a

pub record Bounded (m : Terms) : Type 0 where
  pub some : 0 < m.a
  pub a : m.a ≤ a_most
  pub beta : m.beta ≤ beta_most
  pub speed : m.speed ≤ speed_most
  pub scale : value_of m.scale ≡ 81 * 10 ^ 20 * m.a
  pub part : value_of m.part * 10 ^ 6 ≤ m.a * (beta_most * (beta_most + speed_most))
