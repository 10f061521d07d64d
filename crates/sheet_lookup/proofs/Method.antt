-- A method of an opened sheet that hands the sheet's bytes, its counts and a number to a covered function meets its contract: a walk of its MIR by hand, once for whatever record is read. All that it knows of the covered function is that it meets its contract.
-- The struct is Copy: what it owns is had twice, one copy is kept whole for the exit, and the other is what the callee asks, beside the lifetime's token, which comes back.
use mathlib.Core.Path.{◌≡◌, refl}
use Prim.Native.Nat.{ℕ, ◌<◌, ◌^◌}
use mathlib.Core.List.{List, [], ◌∷◌}
use lib.Dec.{T as Holds}
use lib.ListN.{length}
use seplogic.Ra.Ura.{Ura}
use mir.Syntax.{Callee, Fn, Ty, local, value_local, place, field as part, copy, assign, rv_opd, call, seq, return, ty_int, ty_ref, named, erased, imm, w8, w32}
use mir.Val.{Val, WT, has_ty, vint}
use base.Logic.{SProp, ent, sep, ex_e, snd∗, id⊢}
use base.Fml.{Lft, Share, Fml, ftrue, flft}
use prog.Wp.{Calls, Loops, WpFn, Tables}
use types.Logic.{Logic, sem}
use contract.Monad.{fact}
use types.Kit.{‵, raw, ◌⊛◌, given, ⋆, some, later, ◌$◌, ◌∵◌, !, qed, by, move, drop, use1, use2, split, learn, pick, fsplit, fjoin, suffices, frame, await, done}
use types.Part.{whole, sub, look_in}
use types.Run.{look, init, forget, stop, fld, from, load, of_opd, and_then, no_more, assigns, land, returns, enter, alloc1, alloc0, params1, pass1, pass0, free1, free0}
use sound.WpLaws.{FmC, fm_of, WpFn-mono}
use denote.RattleType.{RattleType, owns}
use denote.Laws.{Is, shows}
use denote.Plain.{uint_vals, uint_Tells, uint_Makes}
use denote.Builtin.{u8, u32}
use denote.Exit.{yes}
use denote.Signature.{named_lft}
use denote.Slice.{slice_ty, slice_val, ShrSlice}
use denote.Steps.{owned, peeks, heard, nothing}
use denote.Struct.Struct.{layout}
use denote.Struct.Declared.{Declared, shape, row}
use denote.Struct.Laws as LL
use denote.Struct.Rest.{all_own, own_open}
use denote.Struct.Values.{Values}
use denote.Triple.Statement.{Triple}
use denote.Triple.Call.{calls_at}
use denote.Triple.Clauses.{ensured, lasts, closing}
use denote.Triple.Entry.{Vals, on_entry}
use denote.Triple.Spec.{Meets}
use denote.Triple.Walked.{says, needs, Stays, stay_none, walk_of, Goes-none, Walks, ends_at, walked, walk_Meets}
use Rattle.sheet_lookup.specs.Counts.{IsCounts}
use Rattle.sheet_lookup.specs.declared.opened.Sheet.{Sheet}
use Rattle.sheet_lookup.specs.contracts.opened.Counts as counts
use Rattle.sheet_lookup.proofs.opened.Counts.TheLaws as counts'
use Rattle.sheet_lookup.specs.contracts.opened.Sheet as T
use Rattle.sheet_lookup.proofs.opened.Sheet.TheLaws as T'
use Rattle.sheet_lookup.proofs.Asked.{Opened, covered, method, covered-clauses, method-clauses, Covered}

-- the method's MIR: _3 = self.bytes; _4 = self.counts; _0 = f(_3, _4, _2)
abbrev pub body : Ty → Callee → Fn
body τ f =
    record {
      lifetimes = 1;
      outlives = [];
      ty_params = [];
      givens = 0;
      params = 2;
      locals =
          local τ value_local
          ∷ local (T'.mir (named 0)) value_local
          ∷ local (ty_int w32) value_local
          ∷ local (slice_ty (ty_ref erased imm (ty_int w8))) value_local
          ∷ local counts'.mir value_local
          ∷ [];
      body =
          seq (assign (place 3 []) (rv_opd (copy (place 1 (part 0 ∷ [])))))
          (seq (assign (place 4 []) (rv_opd (copy (place 1 (part 1 ∷ [])))))
          (seq (call f (copy (place 3 []) ∷ copy (place 4 []) ∷ copy (place 2 []) ∷ []) (place 0 [])) return));
    }

-- the record that is read, its laws, what a sheet says of it, and the covered function's name
module _ (D : Declared) (L : LL.Laws D) (found : List ℕ → ℕ → (row D).Denot) (f : Callee) where
  abbrev code : Fn
  code = body (layout (shape D)) f

  abbrev Row : RattleType
  Row = row D

  abbrev stayed : Stays (method Row found).signature.params (method Row found).kept
  stayed = (stay_none Opened yes, (stay_none (λ _. u32) yes, tt))

  module _ {M : Type 1} {𝓤 : Ura M} (𝓛 : Logic 𝓤) (κ : Lft) (q : Share) (d : Sheet) (k : ℕ) (okk : k < 2 ^ 32) (ok : IsCounts d.bytes.now d.counts) where
    open 𝓛 use {H}

    abbrev mach : Val
    mach = T'.lowered d

    abbrev at : Vals (method Row found).signature (κ, tt)
    at = (mach ∷ [], (vint w32 k ∷ [], tt))

    -- the machine value of the bytes
    abbrev v : Val
    v = slice_val d.bytes.ref_ptr (length d.bytes.now)

    abbrev Post : Val → SProp 𝓤
    Post = (walk_of 𝓛 (method Row found) stayed (method-clauses Row found 𝓤)).post (((κ, tt), (q, tt), tt, (d, (k, tt)), at), tt)

    abbrev Own : Fml
    Own = (Opened (κ, tt)).own_val d (mach ∷ [])

    -- the struct's type and laws, and d's fields' values
    abbrev N : Declared
    N = T.the_type (named_lft 1 0 tt (κ, tt))

    abbrev NL : LL.Laws N
    NL = T'.the_laws (named_lft 1 0 tt (κ, tt))

    abbrev vd : Values N.parts
    vd = (d.bytes, (d.counts, tt))

    -- what the callee is passed
    abbrev passed : Vals (covered Row found).signature (κ, tt)
    passed = (v ∷ [], (counts'.lowered d.counts ∷ [], (vint w32 k ∷ [], tt)))

    abbrev to : (Covered Row found 𝓤 𝓛).Ghost
    to = (((κ, tt), (q, tt), tt, (d.bytes, (d.counts, (k, tt))), passed), tt)

    asked : ent 𝓤 (on_entry 𝓛 (covered Row found).signature (κ, tt) (q, tt) (d.bytes, (d.counts, (k, tt))) passed) ((Covered Row found 𝓤 𝓛).pre to)
    asked = qed 𝓛 ((‵ (flft κ q) ⊛ ‵ ftrue) ∷ ‵ (owns (ShrSlice (named 0) κ u8 ∷ counts.the_row ∷ u32 ∷ []) (d.bytes, (d.counts, (k, tt))) passed) ∷ []) ∵ says ! ok $ frame ! $ done !

    -- what the struct owns gives what the callee asks, and is kept
    apart : ent 𝓤 (on_entry 𝓛 (method Row found).signature (κ, tt) (q, tt) (d, (k, tt)) at) (sep 𝓤 ((Covered Row found 𝓤 𝓛).pre to) (sem 𝓛 Own))
    apart =
        qed 𝓛 ((‵ (flft κ q) ⊛ ‵ ftrue) ∷ ‵ (owns (Opened (κ, tt) ∷ u32 ∷ []) (d, (k, tt)) at) ∷ []) ∵
        move ! (1 ∷ []) $ fsplit ! $ move ! (1 ∷ []) $ drop ! $ use1 𝓛 (‵ Own ⊛ ‵ Own) ((LL.copy N (T'.the_copy (named_lft 1 0 tt (κ, tt))) 𝓛).twice d (mach ∷ [])) $ split ! $
        use1 𝓛 (given (mach ∷ [] ≡ mach ∷ []) (‵ (all_own N.parts NL vd))) (own_open 𝓛 N NL vd mach) $ learn ! (λ _. fsplit ! $ move ! (1 ∷ []) $ fsplit ! $
        -- [what the counts own; nothing; what the bytes own; what the struct owns; the token]
        move ! (1 ∷ []) $ owned ! u32 (Is u32) (uint_Makes 𝓛 w32) k _ (refl, okk) $ fjoin ! $ move ! (1 ∷ 0 ∷ []) $ fjoin ! $ move ! (1 ∷ 0 ∷ []) $ fjoin ! $
        move ! (2 ∷ 0 ∷ []) $ use2 𝓛 (raw ((Covered Row found 𝓤 𝓛).pre to)) asked $ frame ! $ done !)

    -- of the callee's `ensured`, the clause alone: it has no `&mut`, so what is said of last values is dropped
    said : (r : Row.Denot) → ent 𝓤 (ensured 𝓛 (covered Row found) (covered-clauses Row found 𝓤) (κ, tt) (d.bytes, (d.counts, (k, tt))) tt r) (fact 𝓤 (r ≡ found d.bytes.now k))
    said r = ex_e 𝓤 _ (λ ws. snd∗ 𝓤 (sem 𝓛 (lasts (covered Row found) (κ, tt) (d.bytes, (d.counts, (k, tt))) ws)) (fact 𝓤 (r ≡ found d.bytes.now k)))

    exits : (r : Row.Denot) (u : Val) → r ≡ found d.bytes.now k → ent 𝓤 (⋆ 𝓛 (‵ (Row.own_val r (u ∷ [])) ∷ (‵ (flft κ q) ⊛ ‵ ftrue) ∷ ‵ Own ∷ [])) (Post u)
    exits r u e =
        qed 𝓛 (‵ (Row.own_val r (u ∷ [])) ∷ (‵ (flft κ q) ⊛ ‵ ftrue) ∷ ‵ Own ∷ []) ∵
        suffices ! _ (ends_at 𝓛 (method Row found) stayed (method-clauses Row found 𝓤) (((κ, tt), (q, tt), tt, (d, (k, tt)), at), tt) u r (tt, (tt, tt)) (tt, (tt, tt))) $ says ! e $
        move ! (1 ∷ []) $ frame ! $ nothing ! $ owned ! u32 (Is u32) (uint_Makes 𝓛 w32) k _ (refl, okk) $ fjoin ! $ move ! (2 ∷ 0 ∷ []) $ fjoin ! $ frame ! $ done !

    module _ (C : Calls 𝓤 H) (Λ : Loops 𝓤 H) (fm : FmC 𝓤 H 𝓛.laws C) (known : Triple 𝓤 (C f) (Covered Row found 𝓤 𝓛)) where
      walk : Holds (has_ty (T'.mir (named 0)) mach) × WT mach → ent 𝓤 (on_entry 𝓛 (method Row found).signature (κ, tt) (q, tt) (d, (k, tt)) at) (WpFn 𝓤 H C Λ code (mach ∷ vint w32 k ∷ []) Post)
      walk wt =
          qed 𝓛 (raw (on_entry 𝓛 (method Row found).signature (κ, tt) (q, tt) (d, (k, tt)) at) ∷ []) ∵ enter ! C Λ code (mach ∷ vint w32 k ∷ []) _ $
          alloc1 ! (λ l₀. alloc1 ! (λ l₁. alloc1 ! (λ l₂. alloc1 ! (λ l₃. alloc1 ! (λ l₄. alloc0 ! $ params1 ! $ pass1 ! (init ! 6 refl wt) $ pass1 ! (init ! 4 refl (tt, record { fits = okk })) $ pass0 ! $
          assigns ! (of_opd ! (load ! (from ! (fld ! refl (stop !))) (look_in ! 6 (sub ! 0 refl (whole !))))) (from ! (stop !)) (init ! 2 refl (tt, wt.1.0)) $
          assigns ! (of_opd ! (load ! (from ! (fld ! refl (stop !))) (look_in ! 6 (sub ! 1 refl (whole !))))) (from ! (stop !)) (init ! 0 refl (tt, wt.1.1.0)) $
          move ! (10 ∷ []) $ use1 𝓛 (raw ((Covered Row found 𝓤 𝓛).pre to) ⊛ ‵ Own) apart $ split ! $
          calls_at ! fm (Covered Row found 𝓤 𝓛) known to (and_then ! (load ! (from ! (stop !)) (look ! 4 refl)) (and_then ! (load ! (from ! (stop !)) (look ! 2 refl)) (and_then ! (load ! (from ! (stop !)) (look ! 6 refl)) (no_more !)))) (λ u.
          use1 𝓛 (later (some (λ (r : Row.Denot). ((‵ (flft κ q) ⊛ ‵ ftrue) ⊛ ‵ (Row.own_val r (u ∷ []))) ⊛ raw (ensured 𝓛 (covered Row found) (covered-clauses Row found 𝓤) (κ, tt) (d.bytes, (d.counts, (k, tt))) tt r)))) (id⊢ 𝓤 _) $ await ! tt $ pick ! (λ r.
          split ! $ move ! (1 ∷ []) $ use1 𝓛 (raw (fact 𝓤 (r ≡ found d.bytes.now k))) (said r) $ heard ! (r ≡ found d.bytes.now k) (λ e. split ! $ move ! (1 ∷ []) $
          -- [the result; the token; what the struct owns; _4; …; _3; …; _2; …; _1; …; room for _0; …]
          peeks ! Row (Is Row) (shows 𝓛 Row) r (u ∷ []) (λ is.
          land ! (from ! (stop !)) (init ! 11 refl ((LL.lawful D L 𝓛).typed r _ is).0) $
          returns ! (look ! 11 refl) $ forget ! 3 refl $ forget ! 5 refl $ forget ! 7 refl $ forget ! 9 refl $ forget ! 11 refl $
          move ! (11 ∷ 12 ∷ []) $ free1 ! $ move ! (9 ∷ 10 ∷ []) $ free1 ! $ move ! (7 ∷ 8 ∷ []) $ free1 ! $ move ! (5 ∷ 6 ∷ []) $ free1 ! $ move ! (3 ∷ 4 ∷ []) $ free1 ! $ free0 ! $ by ! (exits r u e))))))))))

  module _ {M : Type 1} {𝓤 : Ura M} (𝓛 : Logic 𝓤) where
    open 𝓛 use {H}

    walks : (C : Calls 𝓤 H) (Λ : Loops 𝓤 H) → FmC 𝓤 H 𝓛.laws C → Triple 𝓤 (C f) (Covered Row found 𝓤 𝓛)
        → Walks 𝓛 (method Row found) stayed (WpFn 𝓤 H C Λ code) (method-clauses Row found 𝓤)
    walks C Λ fm known =
        walked 𝓛 (method Row found) stayed (method-clauses Row found 𝓤) (WpFn 𝓤 H C Λ code)
        (λ κs. (LL.vals (T.the_type (named_lft 1 0 tt κs)) (T'.the_laws (named_lft 1 0 tt κs)), (uint_vals w32, tt))) (λ κs. (LL.tells (T.the_type (named_lft 1 0 tt κs)) (T'.the_laws (named_lft 1 0 tt κs)), (uint_Tells w32, tt)))
        (λ κs qs bounds a g are. needs 𝓤 _ _
        (λ ok. walk 𝓛 κs.0 qs.0 a.0 a.1.0 are.1.0.1 ok C Λ fm known ((LL.lawful (T.the_type (named_lft 1 0 tt κs)) (T'.the_laws (named_lft 1 0 tt κs)) 𝓛).typed a.0 _ are.0).0))

    pub method-meets : (𝓣 : Tables 𝓤 H) → Triple 𝓤 (𝓣.C f) (Covered Row found 𝓤 𝓛) → Meets 𝓛 (method Row found).signature (WpFn 𝓤 H 𝓣.C 𝓣.Λ code) (closing 𝓛 (method Row found) (method-clauses Row found 𝓤))
    method-meets 𝓣 known =
        walk_Meets 𝓛 (method Row found) stayed (Goes-none 𝓛 1 Opened yes (λ κs x f. refl), (Goes-none 𝓛 1 (λ _. u32) yes (λ κs x f. refl), tt)) (method-clauses Row found 𝓤)
        (WpFn 𝓤 H 𝓣.C 𝓣.Λ code) (WpFn-mono 𝓤 H 𝓛.laws 𝓣 code) (walks 𝓣.C 𝓣.Λ (fm_of 𝓤 H 𝓛.laws 𝓣) known)
