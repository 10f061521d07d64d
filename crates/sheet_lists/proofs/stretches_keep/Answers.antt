-- `stretches_keep`: what two bytes say of a gradient is what is to be said of it.
use Prim.Native.Nat.{ℕ}
use lib.IntN.{pos}
use lib.ListN.{get_or}
use Rattle.sheet_line.proofs.Deciding.{decides-alike}
use Rattle.sheet_lists.proofs.Complemented.{moderate-coded, coded-moderate}
use Rattle.sheet_lists.proofs.stretches_keep.Goals as goal

pub returns : goal.returns
returns c =
    let gradient = λ (k : ℕ). get_or c.args.gradients.now k (pos 0) in
    decides-alike
    (λ a. record { rising = a.rising; each = λ k h. ((a.each k h).0, coded-moderate (gradient k) (a.each k h).1) })
    (λ a. record { rising = a.rising; each = λ k h. ((a.each k h).0, moderate-coded (gradient k) (a.each k h).1) })
    c.records_keep.ensures
