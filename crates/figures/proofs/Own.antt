-- Document 02, Card 5: figures with coefficients of a train's own, worked out in fractions from document 002's formulas, of the definitions,
-- in one theorem. KC at VC and above it with nC of both signs, and below 0; Ki at i1 and i2, in the ramp too; T = 0; Kr, cr, Dt and h.
use mathlib.Core.Path.{refl}
use mathlib.Core.List.{List, [], ◌∷◌}
use Prim.Native.Nat.{ℕ}
use lib.IntN.{ℤ, pos, negsuc}
use Rattle.exact.specs.Fraction.{◌over◌, raised}
use Rattle.train.specs.declared.Coefficients.{Coefficients}
use Rattle.train.specs.Units.{kmh, speed}
use Rattle.train.specs.Coefficients.{first}
use Rattle.train.specs.Gradient.{gradient_of}
use Rattle.train_delay.specs.Delay.{delay, tf}
use Rattle.train_slope.specs.Slope.{factor, di, dr}
use Rattle.step_curve.specs.declared.Curve.TheVariants.{Ebi, P}
use Rattle.step_braking.specs.Braking.{T, K0, KC, dp, Vβ, strong}
use Rattle.step_curve.specs.Step.{EBI, SBI, distance}
use Rattle.step_curve.specs.Step as step
use Rattle.step.specs.Answer.{step_of}
use Rattle.ramp_motion.specs.Motion as motion
use Rattle.ramp_motion.specs.Motion.{place_at}
use Rattle.ramp.specs.Answer.{overrun}
use Rattle.figures.proofs.Rows.{ep, Row, gives, refuses, reaches, Holds}

-- Dt, h, Kr, cr, nC and VC, with the first values for the slope; Ki1, Ki2, Ki3, i1 and i2, with the first values for the rest
abbrev pub braked : ℕ → ℕ → ℕ → ℕ → ℤ → ℕ → Coefficients
braked dt h kr cr nc vc = record { dt = dt; h = h; kr = kr; cr = cr; nc = record { plus = (gradient_of nc).rise; minus = (gradient_of nc).fall }; vc = kmh vc; inertia = first.inertia }

abbrev pub sloped : ℕ → ℕ → ℕ → ℕ → ℤ → Coefficients
sloped ki1 ki2 ki3 i1 i2 = record {
  dt = first.dt;
  h = first.h;
  kr = first.kr;
  cr = first.cr;
  nc = first.nc;
  vc = first.vc;
  inertia = record { ki1 = ki1; ki2 = ki2; ki3 = ki3; i1 = i1; i2 = gradient_of i2 };
}

infix 80 ◌with-own◌
pub record Figure : Type 0 where
  pub own : Coefficients
  pub row : Row

abbrev pub ◌with-own◌ : Row → Coefficients → Figure
r with-own k = record { own = k; row = r }

abbrev pub All : List Figure → Type 0
All [] = Unit
All (f ∷ fs) = Holds f.own f.row × All fs

-- An EP train of BW 100: tf' = 3.5, dr = 0.779. Decimals are exact but for those that end in "..".
pub figures : List Figure
figures =
    -- at VC, KC = 1: 5.55 · 250/9 + (250/9)² / (2 · 0.44403) = 1023.03243.. m
    gives (ep 100) 100 0 (pos 0) Ebi 1023033 with-own braked 130 10 57 5 (negsuc 9) 100
    -- 5 km/h above it, KC = 1 - 0.010 · 5 = 0.95, dp = 0.4218285: 5.55 · 175/6 + (175/6)² / (2 · 0.4218285) = 1170.21659.. m
    ∷ gives (ep 100) 105 0 (pos 0) Ebi 1170217 with-own braked 130 10 57 5 (negsuc 9) 100
    -- KC = 1 + 0.010 · 20 = 1.2, dp = 0.532836: 5.55 · 100/3 + (100/3)² / (2 · 0.532836) = 1227.63892.. m
    ∷ gives (ep 100) 120 0 (pos 0) Ebi 1227639 with-own braked 130 10 57 5 (pos 10) 100
    -- KC = 1 - 0.010 · 110 = -0.1, dp = -0.044403; on 35 per mille di = 0.309015, dp + di = 0.264612, Vβ = 275/9 - 5.55 di = 28.84052..;
    -- 5.55 Vβ + Vβ² / (2 · 0.264612) = 1731.75425.. m
    ∷ refuses (ep 100) 110 0 (pos 0) 10 with-own braked 130 10 57 5 (negsuc 9) 0
    ∷ gives (ep 100) 110 0 (pos 35) Ebi 1731755 with-own braked 130 10 57 5 (negsuc 9) 0
    -- T = 0: EBI 0; P = (1.0 + 0) · 25 + 2 · 37.5 = 100 m
    ∷ gives (ep 100) 90 90 (pos 0) Ebi 0 with-own braked 0 0 57 5 (pos 0) 150
    ∷ gives (ep 100) 90 90 (pos 0) P 100000 with-own braked 0 0 57 5 (pos 0) 150
    -- T = 5 + 2 · 3.5 = 12: 12 · 10 = 120 m; P: + (1.0 + 7) · 10 + 2 · 15 = 230 m
    ∷ gives (ep 100) 36 36 (pos 0) Ebi 120000 with-own braked 200 50 57 5 (pos 0) 150
    ∷ gives (ep 100) 36 36 (pos 0) P 230000 with-own braked 200 50 57 5 (pos 0) 150
    -- dp = 1.5 · 0.779 = 1.1685: 55.5 + 10² / (2 · 1.1685) = 98.28990.. m; 0.3 · 0.779 = 0.2337: 269.44950.. m
    ∷ gives (ep 100) 36 0 (pos 0) Ebi 98290 with-own braked 130 10 150 5 (pos 0) 150
    ∷ gives (ep 100) 36 0 (pos 0) Ebi 269450 with-own braked 130 10 30 5 (pos 0) 150
    -- K0 = 1 - 0.10 · 36/72 = 0.95, dp = 0.4218285: 5.55 · 20 + (20² - 10²) / (2 · 0.4218285) = 466.59475.. m
    ∷ gives (ep 100) 72 36 (pos 0) Ebi 466595 with-own braked 130 10 57 10 (pos 0) 150
    -- i = i1: Ki2 = 1.20, di = 0.11772, Vβ = 9.346654; 5.55 Vβ + Vβ² / (2 · 0.56175) = 129.63088.. m
    ∷ gives (ep 100) 36 0 (pos 10) Ebi 129631 with-own sloped 80 120 80 10 (negsuc 9)
    -- above it Ki1 = 0.80, di = 0.086328, Vβ = 9.5208796; 5.55 Vβ + Vβ² / (2 · 0.530358) = 138.29933.. m
    ∷ gives (ep 100) 36 0 (pos 11) Ebi 138300 with-own sloped 80 120 80 10 (negsuc 9)
    -- i = i2: Ki3 = 0.80, di = -0.07848, Vβ = 10.435564; 5.55 Vβ + Vβ² / (2 · 0.36555) = 206.87237.. m
    ∷ gives (ep 100) 36 0 (negsuc 9) Ebi 206873 with-own sloped 80 120 80 10 (negsuc 9)
    -- above it Ki2 = 1.20, di = -0.105948, Vβ = 10.5880114; 5.55 Vβ + Vβ² / (2 · 0.338082) = 224.56049.. m
    ∷ gives (ep 100) 36 0 (negsuc 8) Ebi 224561 with-own sloped 80 120 80 10 (negsuc 9)
    -- the ramp on these four, dp = 0.9 · 0.779 = 0.7011: 10 · 4 - di · 4²/2 - 0.7011 · 2³ / (6 · 4) = 38.82454, 39.075676, 40.39414, 40.613884 m
    ∷ reaches (overrun 100 (gradient_of (pos 10)) (kmh 36) 200 400) (4 over 1) 38825 with-own sloped 80 120 80 10 (negsuc 9)
    ∷ reaches (overrun 100 (gradient_of (pos 11)) (kmh 36) 200 400) (4 over 1) 39076 with-own sloped 80 120 80 10 (negsuc 9)
    ∷ reaches (overrun 100 (gradient_of (negsuc 9)) (kmh 36) 200 400) (4 over 1) 40395 with-own sloped 80 120 80 10 (negsuc 9)
    ∷ reaches (overrun 100 (gradient_of (negsuc 8)) (kmh 36) 200 400) (4 over 1) 40614 with-own sloped 80 120 80 10 (negsuc 9)
    ∷ []

pub own-figures : All figures
unfolding figures step_of distance strong EBI SBI step.W step.P Vβ dp KC K0 T tf delay dr di factor speed raised place_at motion.dp
own-figures =
    ((refl, refl), ((refl, refl), ((refl, refl), (refl, ((refl, refl), ((refl, refl), ((refl, refl), ((refl, refl), ((refl, refl), ((refl, refl), ((refl, refl), ((refl, refl), ((refl, refl), ((refl, refl), ((refl, refl), ((refl, refl), (refl, (refl, (refl, (refl, tt))))))))))))))))))))
