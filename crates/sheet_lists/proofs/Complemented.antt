-- The sheet's two's complement is the machine's; and what two bytes say of a gradient is what is to be said of it.
use mathlib.Core.Path.{◌≡◌, refl, sym, ◌∙◌}
use mathlib.Core.Logic.{◌⊎◌, inl, inr, ⊎_elim}
use Prim.Native.Nat.{◌≤◌}
use native.Mathlib.Omega.{arith}
use borrow.Author.Tests.{lt-ltb, le-ltb}
use lib.IntN.{ℤ, pos, negsuc}
use mir.Syntax.{w16}
use mir.Val.{SFits, of_z}
use Rattle.lists.proofs.Split.{below}
use Rattle.train.specs.Gradient.{gradient_of, Moderate}
use Rattle.sheet_line.specs.Bytes.{signed, complement}
use Rattle.sheet_lists.specs.Lists.{coded}
use Rattle.sheet_line.proofs.Complement.{signed_up, signed-complement, moderate-fits}

pub unsigned : (z : ℤ) → SFits w16 z → of_z w16 z ≡ complement z
unfolding complement
unsigned (pos n) f = refl
unsigned (negsuc n) f = omega (arith, f.sfits)

pub coded-is : (z : ℤ) → SFits w16 z → coded z ≡ complement z
unfolding complement
coded-is (pos n) f = simp (lt-ltb n 32768 (omega (arith, f.sfits)))
coded-is (negsuc n) f = simp (lt-ltb n 32768 (omega (arith, f.sfits)))

pub moderate-coded : (z : ℤ) → Moderate (gradient_of z) → Moderate (gradient_of (signed (coded z)))
moderate-coded z m = let f = moderate-fits z m in rw (coded-is z f, signed-complement z f) m

fits-else : (z : ℤ) → SFits w16 z ⊎ (coded z ≡ 36)
fits-else (pos n) = ⊎_elim (λ l. inl (record { sfits = omega arith })) (λ h. inr (simp (le-ltb n 32768 h))) (below n 32768)
fits-else (negsuc n) = ⊎_elim (λ l. inl (record { sfits = omega arith })) (λ h. inr (simp (le-ltb n 32768 h))) (below n 32768)

pub coded-moderate : (z : ℤ) → Moderate (gradient_of (signed (coded z))) → Moderate (gradient_of z)
coded-moderate z m =
    ⊎_elim
    (λ f. rw (coded-is z f, signed-complement z f) at m)
    (λ e. let r = (rw (e, signed_up 36 (omega arith)) at m).rise in absurd (let k : 36 ≤ 35 = r in omega arith))
    (fits-else z)

-- the bytes of a number that fits are both
pub both : (z : ℤ) → SFits w16 z → (of_z w16 z ≡ complement z) × (of_z w16 z ≡ coded z)
both z f = (unsigned z f, unsigned z f ∙ sym (coded-is z f))
