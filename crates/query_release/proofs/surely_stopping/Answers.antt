-- `surely_stopping`: the train stops from the speed that halving has found, so from each below it.
use mathlib.Core.Logic.{inl, inr}
use borrow.Author.Rules.{rules}
use native.Mathlib.Omega.{arith}
use Rattle.query_climb.proofs.Surely.{sure-of-none}
use Rattle.query_release.proofs.Surely.{sure-of}
use Rattle.query_release.proofs.surely_stopping.Goals as goal

pub returns : goal.returns
returns c =
    let p = c.requires in
    let h = c.last_holding-surely.ensures in
    (λ k o is. elim h.yes [ inl z ↦ rw z (sure-of-none _ 0) | inr t ↦ sure-of k o c.args.m is p.0 p.1 _ _ (omega arith) (search rules) ], omega arith)
