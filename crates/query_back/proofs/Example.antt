-- Steps on a line that rises and falls, by the definitions.
use mathlib.Core.Path.{◌≡◌, refl}
use mathlib.Core.List.{[]}
use Prim.Native.Nat.{ℕ}
use lib.IntN.{ℤ, pos, negsuc}
use Rattle.lists.specs.Counted.{every, all_hold}
use Rattle.sheet_line.specs.Bytes.{u16_at, u32_at, signed}
use Rattle.sheet.specs.Sheet.{keeps, accepted}
use Rattle.sheet_span.specs.Least.{stretch_up_to}
use Rattle.sheet_walk.specs.declared.Back.{Back}
use Rattle.sheet_walk.specs.Walk.{walk_at}
use Rattle.sheet_walk.specs.Back.{ended, back_on}
use Rattle.query_way.proofs.Example.{hilly, alike-there}
use Rattle.query_back.specs.Answer.{refused, back_of}

-- a step: the stretch, its gradient, the least so far and its stretch
abbrev at : ℕ → ℤ → ℤ → ℕ → Back
at k g least j = record { refusal = 0; end = 0; stretch = k; gradient = g; least = least; least_stretch = j }

-- head, L, step, and its answer, on the way to the signal at 6, which is the start of stretch 2
abbrev Steps-to : ℕ → ℕ → ℕ → Back → Type 0
Steps-to head length n r = back_of hilly 0 head length n ≡ r

-- With the head at the signal and no length there is one step. With the tail at 3, the start of stretch 1, the walk ends there; with the
-- tail 1 m before it, at stretch 0, and so with every longer train.
pub walks : Steps-to 6 0 0 (at 2 (pos 3) (pos 3) 2) × (Steps-to 6 0 1 ended × (Steps-to 3 0 1 (at 1 (negsuc 4) (negsuc 4) 1) × (Steps-to 3 0 2 ended × (Steps-to 3 1 2 (at 0 (pos 10) (negsuc 4) 1) × (Steps-to 3 1 3 ended × Steps-to 0 1000 2 (at 0 (pos 10) (negsuc 4) 1))))))
unfolding back_of back_on walk_at stretch_up_to accepted keeps all_hold every u32_at u16_at signed
walks = (refl, (refl, (refl, (refl, (refl, (refl, refl))))))

-- with an equal rise before the signal's: the later of equals is the lower
pub ties : (back_of alike-there 0 3 0 0 ≡ at 2 (pos 3) (pos 3) 2) × ((back_of alike-there 0 3 0 1 ≡ at 1 (pos 3) (pos 3) 1) × (back_of alike-there 0 0 0 2 ≡ at 0 (pos 10) (pos 3) 1))
unfolding back_of back_on walk_at stretch_up_to accepted keeps all_hold every u32_at u16_at signed
ties = (refl, (refl, refl))

-- each refusal, where the later ones apply too
pub walks-refused : (back_of [] 1 7 1001 0 ≡ refused 2) × ((back_of [] 1 7 1000 0 ≡ refused 7) × ((back_of hilly 1 7 1000 0 ≡ refused 8) × (back_of hilly 0 7 1000 0 ≡ refused 9)))
unfolding back_of accepted keeps all_hold every u32_at u16_at signed
walks-refused = (refl, (refl, (refl, refl)))
