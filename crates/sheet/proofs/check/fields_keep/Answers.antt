-- `fields_keep`: the counts, the first start, and both tables.
use Prim.Native.Nat.{ℕ, ◌+◌, ◌*◌}
use mathlib.Core.Bool.{Bool}
use mathlib.Core.List.{List}
use mathlib.Core.Path.{◌≡◌, sym, ◌∙◌, refl, ap}
use borrow.Author.Tests.{eq-eqb, eqb-true}
use Rattle.sheet_line.specs.declared.Table.{Table}
use Rattle.sheet_line.specs.declared.Table.TheVariants.{Stretches, Signals}
use Rattle.sheet_line.specs.Records.{KeepsItself, Along, Decides, Counts}
use Rattle.sheet.proofs.Kept.{keeps-of, kept_of}
use Rattle.sheet_line.proofs.Deciding.{agrees}
use Rattle.lists.proofs.Holding.{no, refuted}
use Rattle.sheet_line.specs.Bytes.{u16_at, u32_at}
use Rattle.sheet.proofs.check.fields_keep.Goals as goal
use Rattle.sheet.proofs.check.fields_keep.Goals.{then-counts_keep, else-counts_keep, then-u32_at-eq0, else-u32_at-eq0}

-- what was asked of the numbers read is asked of the sheet's
counted : (s : List ℕ) (b : Bool) {n m end : ℕ} → n ≡ u16_at s 0 → m ≡ u16_at s 2 → end ≡ u32_at s 16 → Decides b (Counts n m end) → Decides b (Counts (u16_at s 0) (u16_at s 2) (u32_at s 16))
counted s b e f g d = rw (← e, ← f, ← g) d

abbrev Table-keeps : Table → List ℕ → ℕ → ℕ → ℕ → Type 0
Table-keeps t s at end n = Along (λ k. u32_at s (at + 6 * k)) (λ k. KeepsItself t end (u32_at s (at + 6 * k)) (u16_at s (at + 6 * k + 4))) n

asked : (t : Table) (s : List ℕ) (b : Bool) {at at' end end' n n' : ℕ} → at ≡ at' → end ≡ end' → n ≡ n' → Decides b (Table-keeps t s at end n) → Decides b (Table-keeps t s at' end' n')
asked t s b e f g d = rw (← e, ← f, ← g) d

pub returns-then-table_keeps : goal.returns-then-table_keeps
returns-then-table_keeps c =
    let s = c.args.s.now in
    let n = c.u16_at-n.ensures in
    let m = c.u16_at-m.ensures in
    let end = c.u32_at-end.ensures in
    let signals = asked Signals s _ (ap (λ (n : ℕ). 20 + 6 * n) n) end m c.table_keeps-then-table_keeps.ensures in
    elim c.if-u32_at-eq0.branch [
      | then-u32_at-eq0 w ↦ elim c.if-counts_keep.branch [
        | then-counts_keep v ↦ agrees _ signals (λ k. (kept_of _ k).signals)
            (λ p. keeps-of _ (record {
              counts = (counted s _ n m end c.counts_keep.ensures).yes v.if-counts_keep.true;
              origin = sym v.u32_at.ensures ∙ eqb-true _ 0 (sym v.value-is ∙ w.if-u32_at-eq0.true);
              stretches = (asked Stretches s _ refl end n w.table_keeps.ensures).yes (sym w.value-is ∙ c.if-table_keeps.true);
              signals = p;
            }))
        | else-counts_keep v ↦ no (sym v.if-counts_keep.false ∙ sym v.value-is ∙ w.if-u32_at-eq0.true)
      ]
      | else-u32_at-eq0 w ↦ no (sym w.if-u32_at-eq0.false ∙ sym w.value-is ∙ c.if-table_keeps.true)
    ]

pub returns-else-table_keeps : goal.returns-else-table_keeps
returns-else-table_keeps c =
    let s = c.args.s.now in
    let n = c.u16_at-n.ensures in
    let m = c.u16_at-m.ensures in
    let end = c.u32_at-end.ensures in
    c.if-table_keeps.false ∙ sym (refuted _ (λ k. elim c.if-u32_at-eq0.branch [
      | then-u32_at-eq0 w ↦ (asked Stretches s _ refl end n w.table_keeps.ensures).no (sym w.value-is ∙ c.if-table_keeps.false) (kept_of _ k).stretches
      | else-u32_at-eq0 w ↦ elim c.if-counts_keep.branch [
        | then-counts_keep v ↦ no (sym w.if-u32_at-eq0.false ∙ v.value-is ∙ eq-eqb _ 0 (v.u32_at.ensures ∙ (kept_of _ k).origin))
        | else-counts_keep v ↦ (counted s _ n m end c.counts_keep.ensures).no v.if-counts_keep.false (kept_of _ k).counts
      ]
    ]))
