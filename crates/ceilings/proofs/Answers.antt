-- A speed over 330 is refused with zeros; of any other the answer is the three ceilings.
use mathlib.Core.Path.{refl}
use mathlib.Core.List.{[]}
use mathlib.Core.Logic.{inl}
use Prim.Native.Nat.{◌≤◌, ◌<◌}
use native.Mathlib.Omega.{arith}
use borrow.Author.Tests.{lt-ltb, le-ltb}
use Rattle.train.specs.declared.Kmh.{Kmh}
use Rattle.train.proofs.Lending.{refused-demand, given-demand}
use Rattle.ceilings.specs.Ceilings.{refused, given, limits_of}
use Rattle.ceilings.specs.Answer.{CeilingAnswers}
use Rattle.ceilings.proofs.Agrees.{as-printed}

module _ (v : Kmh) where
  pub ceilings-refused : 330 < v.0 → CeilingAnswers v refused
  unfolding limits_of
  ceilings-refused l = record {
    answer = simp (lt-ltb _ _ l);
    printed = λ z. absurd (omega arith);
    lent = refused-demand 3 _ [] (refl, (refl, (refl, tt)));
    spans = record { accepted = λ z. absurd (omega arith); refused = λ k. inl (refl, λ h. omega arith) };
  }

  pub ceilings-given : v.0 ≤ 330 → CeilingAnswers v (given v)
  unfolding limits_of
  ceilings-given l = record {
    answer = simp (le-ltb _ _ l);
    printed = λ z. as-printed v;
    lent = given-demand _ [];
    spans = record { accepted = λ z. (omega arith, tt); refused = λ k. absurd (omega arith) };
  }
