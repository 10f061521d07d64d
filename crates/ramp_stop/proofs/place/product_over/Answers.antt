-- `product_over`: the two parts make the quotient lowered, and each is a word long.
use native.Mathlib.Omega.{arith}
use Rattle.ramp_stop.proofs.Word.{share-below, share-above, share-fits}
use Rattle.ramp_stop.proofs.place.product_over.Goals as goal

pub overflow_mul-result : goal.overflow_mul-result
overflow_mul-result c = omega (arith, share-fits _ c.args.x _ c.requires.1 c.requires.3)

pub overflow_add-result : goal.overflow_add-result
overflow_add-result c = omega (arith, share-fits _ c.args.x _ c.requires.1 c.requires.3)

pub returns : goal.returns
returns c = (share-below _ _ _ c.requires.1, share-above _ _ _ c.requires.1)
