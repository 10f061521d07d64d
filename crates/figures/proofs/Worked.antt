-- Figures worked out in fractions from document 01's formulas, of the definitions, in one theorem: what the starred ones leave open.
-- K at its thresholds, K0 where V0 is between 0 and V, a climb without the clamp, the four curves, the delay rows, the 0.05 m/s² of refusal 10,
-- and the ramp's places in each of its three phases.
use mathlib.Core.Path.{refl}
use mathlib.Core.Bool.{true, false}
use mathlib.Core.List.{List, [], ◌∷◌}
use lib.IntN.{pos, negsuc}
use Rattle.exact.specs.Fraction.{◌over◌, raised}
use Rattle.train.specs.declared.BrakeType.TheVariants.{Passenger, Freight}
use Rattle.train.specs.Units.{kmh, speed}
use Rattle.train.specs.Coefficients.{first}
use Rattle.train.specs.Gradient.{gradient_of}
use Rattle.train_delay.specs.Delay.{delay, tf}
use Rattle.train_slope.specs.Slope.{factor, di, dr}
use Rattle.step_curve.specs.declared.Curve.TheVariants.{Ebi, Sbi, W, P}
use Rattle.step_braking.specs.Braking.{T, K0, KC, dp, Vβ, strong}
use Rattle.step_curve.specs.Step.{EBI, SBI, distance}
use Rattle.step_curve.specs.Step as step
use Rattle.step.specs.Answer.{step_of}
use Rattle.ramp_motion.specs.Motion as motion
use Rattle.ramp_motion.specs.Motion.{place_at}
use Rattle.ramp.specs.Answer.{overrun}
use Rattle.figures.proofs.Rows.{train, ep, freight, Row, gives, refuses, reaches, All}

-- Decimals are exact but for those that end in "..". An EP train has tf = 1.3 · 3.5 = 4.55 and T = 5.55; BW 100 has 0.57 · dr = 0.44403.
pub rows : List Row
rows =
    -- K 1.00: di = -0.1962, Vβ = 10 + 0.1962 · 5.55 = 11.08891; 5.55 Vβ + Vβ² / (2 · 0.24783) = 309.62464.. m
    gives (ep 100) 36 0 (negsuc 19) Ebi 309625
    -- K 1.1: di = -0.226611, Vβ = 10 + 0.226611 · 5.55 = 11.25769105; 5.55 Vβ + Vβ² / (2 · 0.217419) = 353.93495.. m
    ∷ gives (ep 100) 36 0 (negsuc 20) Ebi 353935
    -- and its P: + 5.55 Vβ + 2 · 15 = 446.41513.. m
    ∷ gives (ep 100) 36 0 (negsuc 20) P 446416
    -- K 0.90: di = 0.008829, Vβ = 10 - 0.008829 · 5.55 = 9.95099905; 5.55 Vβ + Vβ² / (2 · 0.452859) = 164.55830.. m
    ∷ gives (ep 100) 36 0 (pos 1) Ebi 164559
    -- over VC and the top speed: K0 = 1 - 0.05 · 72/180 = 0.98, dp = 0.4351494; 5.55 · 50 + (50² - 20²) / (2 · 0.4351494) = 2690.46437.. m
    ∷ gives (ep 100) 180 72 (pos 0) Ebi 2690465
    -- di = 0.132435, Vβ = 125/9 - 0.132435 · 5.55 = 13.15387.., K0 = 0.99, dp = 0.4395897;
    -- 5.55 Vβ + (Vβ² - (25/9)²) / (2 · 0.5720247) = 217.49808.. m, + (1.0 + 4.55) Vβ = 290.50209.., + 1.5 · 125/9 = 311.33542.., and again = 332.16875..
    ∷ gives (ep 100) 50 10 (pos 15) Ebi 217499
    ∷ gives (ep 100) 50 10 (pos 15) Sbi 290503
    ∷ gives (ep 100) 50 10 (pos 15) W 311336
    ∷ gives (ep 100) 50 10 (pos 15) P 332169
    -- brake not working: delay = 3.5 + 0.15 · 2² = 4.1, tf = 5.33; 6.33 · 10 = 63.3 m
    ∷ gives (train Passenger false 100 200) 36 36 (pos 0) Ebi 63300
    -- the freight row is the larger: delay = 13.5 + 0.04 · 5² = 14.5, tf = 18.85; 19.85 · 10 = 198.5 m
    ∷ gives (freight 500) 36 36 (pos 0) Ebi 198500
    -- the same to a stop: 198.5 + 10² / (2 · 0.44403) = 311.10500.. m
    ∷ gives (freight 500) 36 0 (pos 0) Ebi 311106
    -- BW 45, downhill, to 18 km/h: 0.57 · dr = 0.2292825, K0 = 0.975, di = -0.0981, Vβ = 10 + 0.0981 · 19.85 = 11.947285;
    -- 19.85 Vβ + (Vβ² - 5²) / (2 · (0.2235504375 - 0.0981)) = 706.41310.. m
    ∷ gives (train Freight false 45 500) 36 18 (negsuc 9) Ebi 706414
    -- BW 160, brake not working: 0.57 · dr = 0.6783, tf = 5.33; 6.33 · 10 + 10² / (2 · 0.6783) + 6.33 · 10 + 2 · 15 = 230.31369.. m
    ∷ gives (train Passenger false 160 200) 36 0 (pos 0) P 230314
    -- brake working: of 3.5 and 13.5 + 0.04 · 10² = 17.5 the larger, tf = 22.75; 23.75 · 10 = 237.5 m
    ∷ gives (train Freight true 100 1000) 36 36 (pos 0) Ebi 237500
    -- 0.57 · dr = 0.248805, di = -0.18639: dp + di = 0.248805 · (1 - 0.05 · 329/330) - 0.18639 = 0.05001.., and 0.04997475 where V0 = V;
    -- Vβ = 275/3 + 0.18639 · 5.55 = 92.70113..; 5.55 Vβ + (Vβ² - (1645/18)²) / (2 · 0.05001..) = 2929.59709.. m
    ∷ gives (ep 50) 330 329 (negsuc 18) Ebi 2929598
    ∷ refuses (ep 50) 330 330 (negsuc 18) 10
    -- the ramp, dp = 0.9 · 0.779 = 0.7011, while the brake rises: 10 · 4 - 0.7011 · 2³ / (6 · 4) = 39.7663 m
    ∷ reaches (overrun 100 (gradient_of (pos 0)) (kmh 36) 200 400) (4 over 1) 39767
    -- at its stop, w = (10 - 0.7011 · 2) / 0.7011 = 85978/7011: 10 · (6 + w) - 0.7011 · (4²/6 + 2 w + w²/2) = 110.84910.. m
    ∷ reaches (overrun 100 (gradient_of (pos 0)) (kmh 36) 200 400) (128044 over 7011) 110850
    -- at its stop before the brake acts, di = 0.309015, t = 5/18 / di = 500000/556227: 5/18 · t - di · t² / 2 = 0.12484.. m
    ∷ reaches (overrun 100 (gradient_of (pos 35)) (kmh 1) 2000 1) (500000 over 556227) 125
    -- BW 60, downhill, dp = 0.9 · 0.505 = 0.4545, di = -0.226611: 10 · 4 + 0.226611 · 4²/2 - 0.4545 · 2³ / (6 · 4) = 41.661388 m,
    -- and 10 · 10 + 0.226611 · 10²/2 - 0.4545 · (4²/6 + 2 · 4 + 4²/2) = 102.84655 m
    ∷ reaches (overrun 60 (gradient_of (negsuc 20)) (kmh 36) 200 400) (4 over 1) 41662
    ∷ reaches (overrun 60 (gradient_of (negsuc 20)) (kmh 36) 200 400) (10 over 1) 102847
    ∷ []

pub worked : All first rows
unfolding rows step_of distance strong EBI SBI step.W step.P Vβ dp KC K0 T tf delay dr di factor speed raised place_at motion.dp
worked =
    ((refl, refl), ((refl, refl), ((refl, refl), ((refl, refl), ((refl, refl), ((refl, refl), ((refl, refl), ((refl, refl), ((refl, refl), ((refl, refl), ((refl, refl), ((refl, refl), ((refl, refl), ((refl, refl), ((refl, refl), ((refl, refl), (refl, (refl, (refl, (refl, (refl, (refl, tt))))))))))))))))))))))
