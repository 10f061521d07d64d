-- The first values are within their spans.
use mathlib.Core.Path.{refl}
use lib.Dec.{lit≤}
use Rattle.train.specs.Coefficients.{first, Within}

pub first-within : Within first
first-within = record {
  dt = lit≤ tt;
  h = lit≤ tt;
  kr-least = lit≤ tt;
  kr = lit≤ tt;
  cr = lit≤ tt;
  plus = lit≤ tt;
  minus = lit≤ tt;
  vc = lit≤ tt;
  vc-fives = (30, refl);
  inertia = record { ki1-least = lit≤ tt; ki1 = lit≤ tt; ki2-least = lit≤ tt; ki2 = lit≤ tt; ki3-least = lit≤ tt; ki3 = lit≤ tt; i1 = lit≤ tt; i2-up = lit≤ tt; i2 = lit≤ tt };
}
