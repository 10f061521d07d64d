-- A function with plain parameters that opens accepted bytes and asks the sheet for a record meets its contract: a walk of its MIR by hand, once for whatever record is asked for. All that it knows of `open` and of the method is that each meets its contract.
-- The machine value that `open` returns is stored and passed on as it is. In a local of a body MIR erases the lifetime of the struct's type, so the value is shown to have the type at `erased`: what the struct owns does not say the lifetime's name.
use mathlib.Core.Path.{◌≡◌, refl, sym, subst, ap, ◌∙◌}
use mathlib.Core.Bool.{true}
use Prim.Native.Nat.{ℕ, ◌<◌, ◌^◌}
use mathlib.Core.List.{List, [], ◌∷◌}
use lib.ListN.{length}
use seplogic.Ra.Ura.{Ura}
use mir.Syntax.{Callee, Fn, Ty, local, value_local, place, copy, call, seq, return, ty_int, ty_ref, named, erased, imm, w8, w32}
use mir.Val.{Val, vint}
use base.Logic.{SProp, ent, sep, ex_e, snd∗, id⊢}
use base.Fml.{Lft, Share, Fml, ftrue, flft}
use prog.Memory.{Memory}
use prog.Routine.{Routine}
use prog.Wp.{Calls, Loops, WpFn, Tables}
use types.Logic.{Logic, sem}
use contract.Monad.{Fun, fact}
use types.Kit.{‵, raw, ◌⊛◌, ⋆, some, later, ◌$◌, ◌∵◌, !, qed, by, move, drop, use1, use2, split, pick, fsplit, fjoin, suffices, frame, await, done}
use types.Run.{look, init, forget, stop, from, load, and_then, no_more, land, returns, enter, alloc1, alloc0, params1, pass1, pass0, free1, free0}
use sound.WpLaws.{FmC, fm_of, WpFn-mono}
use denote.RattleType.{RattleType, owns}
use denote.Laws.{Is, shows}
use denote.Plain.{uint_vals, uint_Tells, uint_Makes}
use denote.Builtin.{u8, u32}
use denote.Exit.{yes}
use denote.Ref.{Bor, NamedLft}
use denote.Signature.{plain}
use denote.Slice.{slice_ty, slice_val, ShrSlice, shr_slice_vals, shr_slice_Tells, shr_slice_Lawful, shr_slice_copy}
use denote.Steps.{owned, peeks, heard, nothing}
use denote.Struct.Struct.{layout}
use denote.Struct.Declared.{Declared, shape, row}
use denote.Struct.Laws as LL
use denote.Triple.Statement.{Contract, Triple}
use denote.Triple.Call.{calls_at}
use denote.Triple.Clauses.{ensured, lasts, closing}
use denote.Triple.Entry.{Vals, on_entry}
use denote.Triple.Spec.{Meets, triple_of}
use denote.Triple.Walked.{says, needs, Stays, stay_none, stay_none_slice, walk_of, Goes-none, Goes-none_slice, Walks, ends_at, walked, walk_Meets}
use Rattle.sheet.specs.Sheet.{accepted}
use Rattle.sheet_lookup.specs.Counts.{IsCounts}
use Rattle.sheet_lookup.specs.declared.opened.Sheet.{Sheet}
use Rattle.sheet_lookup.specs.contracts.opened.Sheet as T
use Rattle.sheet_lookup.proofs.opened.Sheet.TheLaws as T'
use Rattle.sheet_lookup.specs.contracts.opened.open as opn
use Rattle.sheet_lookup.proofs.opened.open.Symbol.{name as #open}
use Rattle.sheet_lookup.proofs.Asked.{Opened, method, above, method-clauses, above-clauses, Method}

-- the function's MIR: _3 = open(_1); _0 = f(_3, _2)
abbrev pub body : Ty → Callee → Fn
body τ f =
    record {
      lifetimes = 1;
      outlives = [];
      ty_params = [];
      givens = 0;
      params = 2;
      locals =
          local τ value_local
          ∷ local (slice_ty (ty_ref (named 0) imm (ty_int w8))) value_local
          ∷ local (ty_int w32) value_local
          ∷ local (T'.mir erased) value_local
          ∷ [];
      body = seq (call #open (copy (place 1 []) ∷ []) (place 3 [])) (seq (call f (copy (place 3 []) ∷ copy (place 2 []) ∷ []) (place 0 [])) return);
    }

module _ {M : Type 1} {𝓤 : Ura M} (𝓛 : Logic 𝓤) (mem : Memory → SProp 𝓤) (run : Routine → Fun 𝓤) where
  -- the contract of `open`
  abbrev pub Open : Contract 𝓤
  Open = triple_of 𝓛 opn.signature (opn.spec 𝓛 mem run)

-- the record that is asked for, its laws, what a sheet says of it, and the method's name
module _ (D : Declared) (L : LL.Laws D) (found : List ℕ → ℕ → (row D).Denot) (f : Callee) where
  abbrev code : Fn
  code = body (layout (shape D)) f

  abbrev Row : RattleType
  Row = row D

  abbrev stayed : Stays (above Row found).signature.params (above Row found).kept
  stayed = (stay_none_slice (0 ∷ []) tt (plain (λ _. u8)) yes, (stay_none (λ _. u32) yes, tt))

  module _ {M : Type 1} {𝓤 : Ura M} (𝓛 : Logic 𝓤) (mem : Memory → SProp 𝓤) (run : Routine → Fun 𝓤) (κ : Lft) (q : Share) (s : Bor (List ℕ)) (k : ℕ) (okk : k < 2 ^ 32) (ok : accepted s.now ≡ true) where
    -- the machine value that s has
    open 𝓛 use {H}

    abbrev v : Val
    v = slice_val s.ref_ptr (length s.now)

    abbrev at : Vals (above Row found).signature (κ, tt)
    at = (v ∷ [], (vint w32 k ∷ [], tt))

    -- the struct's type as a local of a body has it
    abbrev αᵉ : NamedLft
    αᵉ = record { mir = erased; lft = κ }

    abbrev Post : Val → SProp 𝓤
    Post = (walk_of 𝓛 (above Row found) stayed (above-clauses Row found 𝓤)).post (((κ, tt), (q, tt), tt, (s, (k, tt)), at), tt)

    abbrev Own : Fml
    Own = (ShrSlice (named 0) κ u8).own_val s (v ∷ [])

    -- what `open` promises of its result
    abbrev Opens : Sheet → Type 0
    Opens r = (r.bytes ≡ s) × IsCounts s.now r.counts

    -- the call of `open`: what it is passed, what it asks, and what is known of its result
    abbrev to-open : (Open 𝓛 mem run).Ghost
    to-open = (((κ, tt), (q, tt), tt, (s, tt), (v ∷ [], tt)), tt)

    goes-open : ent 𝓤 (on_entry 𝓛 (above Row found).signature (κ, tt) (q, tt) (s, (k, tt)) at) (sep 𝓤 ((Open 𝓛 mem run).pre to-open) (sem 𝓛 Own))
    goes-open =
        qed 𝓛 ((‵ (flft κ q) ⊛ ‵ ftrue) ∷ ‵ (owns (ShrSlice (named 0) κ u8 ∷ u32 ∷ []) (s, (k, tt)) at) ∷ []) ∵
        move ! (1 ∷ []) $ fsplit ! $ move ! (1 ∷ []) $ drop ! $ use1 𝓛 (‵ Own ⊛ ‵ Own) ((shr_slice_copy 𝓛 (named 0) κ u8 (LL.u8-copy).shr_laws).twice s (v ∷ [])) $ split ! $
        nothing ! $ move ! (1 ∷ 0 ∷ []) $ fjoin ! $ move ! (2 ∷ 0 ∷ []) $
        use2 𝓛 (raw ((Open 𝓛 mem run).pre to-open)) (qed 𝓛 ((‵ (flft κ q) ⊛ ‵ ftrue) ∷ ‵ (owns (ShrSlice (named 0) κ u8 ∷ []) (s, tt) (v ∷ [], tt)) ∷ []) ∵ says ! ok $ frame ! $ done !) $ frame ! $ done !

    open_said : (r : Sheet) → ent 𝓤 (ensured 𝓛 opn.ended (opn.clauses 𝓛 mem run) (κ, tt) (s, tt) tt r) (fact 𝓤 (Opens r))
    open_said r = ex_e 𝓤 _ (λ ws. snd∗ 𝓤 (sem 𝓛 (lasts opn.ended (κ, tt) (s, tt) ws)) (fact 𝓤 (Opens r)))

    -- the call of the method, at the struct r with the machine value u
    abbrev to : Sheet → Val → (Method Row found 𝓤 𝓛).Ghost
    to r u = (((κ, tt), (q, tt), tt, (r, (k, tt)), (u ∷ [], (vint w32 k ∷ [], tt))), tt)

    goes : (r : Sheet) (u : Val) → Opens r → ent 𝓤 (⋆ 𝓛 (‵ ((Opened (κ, tt)).own_val r (u ∷ [])) ∷ (‵ (flft κ q) ⊛ ‵ ftrue) ∷ [])) ((Method Row found 𝓤 𝓛).pre (to r u))
    goes r u e =
        qed 𝓛 (‵ ((Opened (κ, tt)).own_val r (u ∷ [])) ∷ (‵ (flft κ q) ⊛ ‵ ftrue) ∷ []) ∵ says ! (subst (λ (x : Bor (List ℕ)). IsCounts x.now r.counts) (sym e.0) e.1) $
        nothing ! $ owned ! u32 (Is u32) (uint_Makes 𝓛 w32) k _ (refl, okk) $ fjoin ! $ move ! (1 ∷ 0 ∷ []) $ fjoin ! $ move ! (1 ∷ 0 ∷ []) $ frame ! $ done !

    said : (r : Sheet) (t : Row.Denot) → ent 𝓤 (ensured 𝓛 (method Row found) (method-clauses Row found 𝓤) (κ, tt) (r, (k, tt)) tt t) (fact 𝓤 (t ≡ found r.bytes.now k))
    said r t = ex_e 𝓤 _ (λ ws. snd∗ 𝓤 (sem 𝓛 (lasts (method Row found) (κ, tt) (r, (k, tt)) ws)) (fact 𝓤 (t ≡ found r.bytes.now k)))

    exits : (t : Row.Denot) (u : Val) → t ≡ found s.now k → ent 𝓤 (⋆ 𝓛 (‵ (Row.own_val t (u ∷ [])) ∷ (‵ (flft κ q) ⊛ ‵ ftrue) ∷ ‵ Own ∷ [])) (Post u)
    exits t u e =
        qed 𝓛 (‵ (Row.own_val t (u ∷ [])) ∷ (‵ (flft κ q) ⊛ ‵ ftrue) ∷ ‵ Own ∷ []) ∵
        suffices ! _ (ends_at 𝓛 (above Row found) stayed (above-clauses Row found 𝓤) (((κ, tt), (q, tt), tt, (s, (k, tt)), at), tt) u t (tt, (tt, tt)) (tt, (tt, tt))) $ says ! e $
        move ! (1 ∷ []) $ frame ! $ nothing ! $ owned ! u32 (Is u32) (uint_Makes 𝓛 w32) k _ (refl, okk) $ fjoin ! $ move ! (2 ∷ 0 ∷ []) $ fjoin ! $ frame ! $ done !

    module _ (C : Calls 𝓤 H) (Λ : Loops 𝓤 H) (fm : FmC 𝓤 H 𝓛.laws C) (known-open : Triple 𝓤 (C #open) (Open 𝓛 mem run)) (known : Triple 𝓤 (C f) (Method Row found 𝓤 𝓛)) where
      walk : Is (ShrSlice (named 0) κ u8) s (v ∷ []) → ent 𝓤 (on_entry 𝓛 (above Row found).signature (κ, tt) (q, tt) (s, (k, tt)) at) (WpFn 𝓤 H C Λ code (v ∷ vint w32 k ∷ []) Post)
      walk p =
          qed 𝓛 (raw (on_entry 𝓛 (above Row found).signature (κ, tt) (q, tt) (s, (k, tt)) at) ∷ []) ∵ enter ! C Λ code (v ∷ vint w32 k ∷ []) _ $
          alloc1 ! (λ l₀. alloc1 ! (λ l₁. alloc1 ! (λ l₂. alloc1 ! (λ l₃. alloc0 ! $ params1 ! $ pass1 ! (init ! 4 refl ((shr_slice_Lawful 𝓛 (named 0) κ u8).typed s (v ∷ []) p).0) $ pass1 ! (init ! 2 refl (tt, record { fits = okk })) $ pass0 ! $
          move ! (8 ∷ []) $ use1 𝓛 (raw ((Open 𝓛 mem run).pre to-open) ⊛ ‵ Own) goes-open $ split ! $
          calls_at ! fm (Open 𝓛 mem run) known-open to-open (and_then ! (load ! (from ! (stop !)) (look ! 6 refl)) (no_more !)) (λ u.
          use1 𝓛 (later (some (λ (r : Sheet). ((‵ (flft κ q) ⊛ ‵ ftrue) ⊛ ‵ ((Opened (κ, tt)).own_val r (u ∷ []))) ⊛ raw (ensured 𝓛 opn.ended (opn.clauses 𝓛 mem run) (κ, tt) (s, tt) tt r)))) (id⊢ 𝓤 _) $ await ! tt $ pick ! (λ r.
          split ! $ move ! (1 ∷ []) $ use1 𝓛 (raw (fact 𝓤 (Opens r))) (open_said r) $ heard ! (Opens r) (λ e. split ! $ move ! (1 ∷ []) $
          -- [what the struct owns; the token; what s owns; room for _3; …; _2; …; _1; …; room for _0; …]
          peeks ! (Opened (κ, tt)) (Is (Opened (κ, tt))) (shows 𝓛 (Opened (κ, tt))) r (u ∷ []) (λ is.
          land ! (from ! (stop !)) (init ! 3 refl ((LL.lawful (T.the_type αᵉ) (T'.the_laws αᵉ) 𝓛).typed r _ is).0) $
          use2 𝓛 (raw ((Method Row found 𝓤 𝓛).pre (to r u))) (goes r u e) $
          calls_at ! fm (Method Row found 𝓤 𝓛) known (to r u) (and_then ! (load ! (from ! (stop !)) (look ! 2 refl)) (and_then ! (load ! (from ! (stop !)) (look ! 4 refl)) (no_more !))) (λ u'.
          use1 𝓛 (later (some (λ (t : Row.Denot). ((‵ (flft κ q) ⊛ ‵ ftrue) ⊛ ‵ (Row.own_val t (u' ∷ []))) ⊛ raw (ensured 𝓛 (method Row found) (method-clauses Row found 𝓤) (κ, tt) (r, (k, tt)) tt t)))) (id⊢ 𝓤 _) $ await ! tt $ pick ! (λ t.
          split ! $ move ! (1 ∷ []) $ use1 𝓛 (raw (fact 𝓤 (t ≡ found r.bytes.now k))) (said r t) $ heard ! (t ≡ found r.bytes.now k) (λ e'. split ! $ move ! (1 ∷ []) $
          -- [the result; the token; what s owns; _3; …; _2; …; _1; …; room for _0; …]
          peeks ! Row (Is Row) (shows 𝓛 Row) t (u' ∷ []) (λ is'.
          land ! (from ! (stop !)) (init ! 9 refl ((LL.lawful D L 𝓛).typed t _ is').0) $
          returns ! (look ! 9 refl) $ forget ! 3 refl $ forget ! 5 refl $ forget ! 7 refl $ forget ! 9 refl $
          move ! (9 ∷ 10 ∷ []) $ free1 ! $ move ! (7 ∷ 8 ∷ []) $ free1 ! $ move ! (5 ∷ 6 ∷ []) $ free1 ! $ move ! (3 ∷ 4 ∷ []) $ free1 ! $ free0 ! $
          by ! (exits t u' (e' ∙ ap (λ (x : Bor (List ℕ)). found x.now k) e.0))))))))))))))

  module _ {M : Type 1} {𝓤 : Ura M} (𝓛 : Logic 𝓤) (mem : Memory → SProp 𝓤) (run : Routine → Fun 𝓤) where
    open 𝓛 use {H}

    walks : (C : Calls 𝓤 H) (Λ : Loops 𝓤 H) → FmC 𝓤 H 𝓛.laws C → Triple 𝓤 (C #open) (Open 𝓛 mem run) → Triple 𝓤 (C f) (Method Row found 𝓤 𝓛)
        → Walks 𝓛 (above Row found) stayed (WpFn 𝓤 H C Λ code) (above-clauses Row found 𝓤)
    walks C Λ fm known-open known =
        walked 𝓛 (above Row found) stayed (above-clauses Row found 𝓤) (WpFn 𝓤 H C Λ code) (λ κs. (shr_slice_vals, (uint_vals w32, tt))) (λ κs. (shr_slice_Tells (named 0) κs.0 u8, (uint_Tells w32, tt)))
        (λ κs qs bounds a g are. needs 𝓤 _ _ (λ ok. walk 𝓛 mem run κs.0 qs.0 a.0 a.1.0 are.1.0.1 ok C Λ fm known-open known are.0))

    pub above-meets : (𝓣 : Tables 𝓤 H) → Triple 𝓤 (𝓣.C #open) (Open 𝓛 mem run) → Triple 𝓤 (𝓣.C f) (Method Row found 𝓤 𝓛)
        → Meets 𝓛 (above Row found).signature (WpFn 𝓤 H 𝓣.C 𝓣.Λ code) (closing 𝓛 (above Row found) (above-clauses Row found 𝓤))
    above-meets 𝓣 known-open known =
        walk_Meets 𝓛 (above Row found) stayed (Goes-none_slice 𝓛 1 (0 ∷ []) tt (plain (λ _. u8)) yes, (Goes-none 𝓛 1 (λ _. u32) yes (λ κs x f. refl), tt)) (above-clauses Row found 𝓤)
        (WpFn 𝓤 H 𝓣.C 𝓣.Λ code) (WpFn-mono 𝓤 H 𝓛.laws 𝓣 code) (walks 𝓣.C 𝓣.Λ (fm_of 𝓤 H 𝓛.laws 𝓣) known-open known)
