-- `by_word`: every number is a word long, and the quotient is the place raised.
use mathlib.Core.Path.{◌≡◌, ◌∙◌}
use Prim.Native.Nat.{◌+◌, ◌*◌, ◌-◌, ◌/◌, ◌≤◌, ◌<◌}
use native.Mathlib.Omega.{arith}
use Rattle.std.specs.Int.{div_ceil}
use Rattle.exact.specs.Fraction.{raised}
use Rattle.ramp_motion.specs.Plan.{cubes}
use Rattle.ramp_stop.specs.Stop.{place_up}
use Rattle.ramp_stop.proofs.Bounds.{place-most}
use Rattle.ramp_stop.proofs.Word.{unbraked-fits, brake-fits, brake-less, place-word}
use Rattle.ramp_stop.proofs.place.by_word.Goals as goal
use Rattle.ramp_stop.proofs.place.by_word.Goals.{After-mean_speed, After-product_over-braked}

unbraked : (c : After-mean_speed) → c.mean_speed.result * c.args.t ≤ 12900000000000000000
unbraked c = unbraked-fits _ _ c.requires.0 c.requires.2 _ c.mean_speed.ensures c.requires.1

-- what the brake takes off lies between whole numbers of tr
braked : (c : After-product_over-braked) → let m = c.args.m in let p = m.brake / 3 * cubes m.tm m.tr c.args.t in
    (c.product_over-braked.result * m.tr ≤ p) × (p < (c.product_over-braked.result + 1) * m.tr)
braked c = rw c.cubes_at.ensures at c.product_over-braked.ensures

less : (c : After-product_over-braked) → c.product_over-braked.result ≤ c.mean_speed.result * c.args.t
less c =
    brake-less _ _ c.requires.0 c.requires.2 _ c.mean_speed.ensures _ (braked c).0 (braked c).1

-- the quotient is the place raised
is : (c : After-product_over-braked) → div_ceil (c.mean_speed.result * c.args.t - c.product_over-braked.result) 180000000000 ≡ place_up c.args.m c.args.t
unfolding raised
is c = omega (arith, place-word _ _ c.requires.0 c.requires.2 _ c.mean_speed.ensures _ (braked c).0 (braked c).1)

most : (c : After-product_over-braked) → place_up c.args.m c.args.t ≤ 300000000
most c = place-most _ _ c.requires.0 (omega (arith, c.requires.1))

pub overflow_mul-unbraked : goal.overflow_mul-unbraked
overflow_mul-unbraked c = omega (arith, unbraked (goal.at.overflow_mul-unbraked c).After-mean_speed)

pub product_over-braked-requires : goal.product_over-braked-requires
product_over-braked-requires c =
    let m = c.requires.0 in
    rw c.cubes_at.ensures (omega (arith, m.brake), m.some, m.tr, brake-fits _ _ m c.requires.2 _ c.mean_speed.ensures c.requires.1)

pub overflow_sub-unbraked : goal.overflow_sub-unbraked
overflow_sub-unbraked c = less (goal.at.overflow_sub-unbraked c).After-product_over-braked

pub overflow_cast-result : goal.overflow_cast-result
overflow_cast-result c =
    let b = (goal.at.overflow_cast-result c).After-product_over-braked in
    omega (arith, c.div_ceil.ensures, is b, most b)

pub returns : goal.returns
returns c =
    let b = (goal.at.returns c).After-product_over-braked in
    let e : c.div_ceil.result ≡ place_up c.args.m c.args.t = c.div_ceil.ensures ∙ is b in
    (e, rw e (most b))
