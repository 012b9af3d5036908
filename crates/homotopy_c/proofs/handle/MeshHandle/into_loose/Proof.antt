-- `into_loose` hands over what the handle held.
use Rattle.homotopy_c.proofs.Common.{Goes-blank, Good, one, the_row as Kept, ◌≡◌, List, [], ◌∷◌, ◌++◌, refl, sym, subst, lit<, proved_at, leaves, Some, None, ghosts, and_tt, ftrue, SProp, ent, emp, id⊢, fact, fact_i, tables, yes, layout, RattleType, owns, Ptr, block_ptr, null_ptr, tests_null, plain, type_at, types_at, nothing, alive, Stays, stay_dropped, walk_of, Goes-dropped, Fn, Val, vptr, vcons, vnil, WpFn, Env, alloc_all, pass_all, free_all, look_at, get, get_in, sets, env, ‵, raw, ◌⊛◌, at_ret, ◌$◌, ◌∵◌, !, qed, by, move, keep, drop, split, fsplit, fjoin, suffices, use0, use1, rewrite, agg, sub, whole, stop, fld, of_opd, lit, bin, first, branches, skips, exec, no_more, and_then, returns, returns_within, enter}
use Rattle.core.proofs.option.Made.{Some-of, none_of}
use Rattle.homotopy_c.specs.contracts.handle.MeshHandle.into_loose.{ended, clauses}
use Rattle.homotopy_c.specs.contracts.handle.MeshHandle.into_loose.Key.{name as #self}
use types.Match.{live}
use Rattle.std.proofs.alloc.Global.TheLaws as heap_laws
use Rattle.std.specs.contracts.alloc.Global as heap
use Rattle.homotopy_c.proofs.HandleValues.{handle_val, handle_told, handle_typed, ptr_typed, either_held}
use Rattle.homotopy_c.proofs.LooseValues.{both, Loose, loose_good, loose_in}
use Rattle.homotopy_c.specs.contracts.handle.MeshHandle as handle
use Rattle.homotopy_c.proofs.handle.MeshHandle.into_loose.Statement.{statement}
use Rattle.homotopy_c.proofs.handle.MeshHandle.into_loose.Code as code

pub into_loose_spec : {M : Type 1} → statement M
into_loose_spec 𝓤 𝓛 𝓜 𝓡 wired =
    let H = 𝓛.H in let 𝓣 = tables 𝓤 H 𝓜 𝓡 𝓡.env in let c = clauses 𝓛 𝓜.mem 𝓡.returns in let fn : Fn = code.function in
    let Z : RattleType = heap.the_row in let LZ = heap_laws.the_row_laws in let L : RattleType = Loose Kept Z LZ ghosts in
    let hs : Stays ended.signature.params ended.kept =
    (stay_dropped (plain (λ _. handle.the_row)) yes, (stay_dropped (plain (λ _. Z)) yes, tt)) in
    proved_at 𝓛 ended hs c 𝓜 𝓡
    (Goes-blank 𝓛 0 (plain (λ _. handle.the_row)) yes (λ κs x f. tt), (Goes-dropped 𝓛 0 (plain (λ _. Z)) yes (λ κs x f. refl), tt))
    #self fn (code.unfolded 𝓤 H 𝓜 𝓡 wired) (λ z are.
    let Post : Val → SProp 𝓤 = (walk_of 𝓛 ended hs c).post z in let Run : List Val → SProp 𝓤 = λ ws. WpFn 𝓤 H 𝓣.C 𝓣.Λ fn ws Post in
    let Out : RattleType = type_at ended.signature.result z.0.0 in
    let d = z.0.3.0 in let a = z.0.3.1.0 in let h = one (layout Z) z.0.4.1.0 ((LZ.lawful 𝓛).typed a z.0.4.1.0 are.1.0) in
    let toks = raw (alive 𝓛 ended.signature z.0.0 z.0.1) in
    qed 𝓛 ((toks ⊛ ‵ (owns (types_at ended.signature.params z.0.0) z.0.3 z.0.4)) ∷ ‵ ftrue ∷ []) ∵
    move ! (1 ∷ []) $ drop ! $ split ! $ move ! (1 ∷ []) $ fsplit ! $ fsplit ! $ move ! (2 ∷ []) $ fsplit ! $
    -- [the allocator; nothing; the field; what it points to; the tokens]
    keep ! (3 ∷ 0 ∷ 4 ∷ []) $ rewrite ! 1 (λ (us : List Val). ‵ (Z.own_val a us)) h.1 refl $
    suffices ! (Run (handle_val d.at ∷ h.0 ∷ [])) (subst (λ (us : List Val). ent 𝓤 (Run (handle_val d.at ∷ h.0 ∷ [])) (Run us))
    (sym (λ i. handle_told d.at z.0.4.0 are.0.0 i ++ (h.1 i ++ []))) (id⊢ 𝓤 (Run (handle_val d.at ∷ h.0 ∷ [])))) $
    either_held ! a d.at d.kept
    (λ is none.
    suffices ! (Run (handle_val null_ptr ∷ h.0 ∷ []))
    (subst (λ (p : Ptr). ent 𝓤 (Run (handle_val null_ptr ∷ h.0 ∷ [])) (Run (handle_val p ∷ h.0 ∷ []))) (sym is) (id⊢ 𝓤 _)) $
    enter ! 𝓣.C 𝓣.Λ fn (handle_val null_ptr ∷ h.0 ∷ []) Post $ alloc_all ! (λ l. pass_all ! refl (handle_typed null_ptr, (h.2, tt)) $
    let En : Env 𝓤 H = env fn.locals l in
    sets ! (of_opd ! (get_in ! (fld ! refl (stop !)) (sub ! 0 refl (whole !)))) refl (ptr_typed null_ptr) $
    sets ! (bin ! (get ! refl) (lit ! tt) tt) refl (tt, tt) $ first ! $ branches ! (get ! refl)
    (λ _. sets ! (agg ! (and_then ! (lit ! tt) (no_more !))) refl (tt, (record { fits = lit< tt }, tt)) $
    returns_within ! Post refl (look_at ! 0 refl) $ free_all ! refl $
    use0 𝓛 (raw (fact 𝓤 (d.kept ≡ None))) (fact_i 𝓤 (d.kept ≡ None) (emp 𝓤) none) $
    use0 𝓛 (‵ (Out.own_val None (live 0 vnil ∷ []))) (none_of 𝓛 L) $ nothing ! $ nothing ! $ fjoin ! $ nothing ! $ fjoin ! $
    keep ! (4 ∷ 0 ∷ 1 ∷ 2 ∷ []) $ by ! (leaves 𝓛 ended hs c z (live 0 vnil) None (tt, (tt, tt)) (tt, (tt, tt))))
    (λ wrong. absurd wrong)))
    (λ b o x is held t. let made : Val = both (vptr b o) h.0 in let typed = loose_good Kept Z LZ ghosts b o h.0 h.2 in
    let out : Val = live 1 (vcons made vnil) in let r : L.Denot = record { at = block_ptr b o; alloc = a; value = x } in
    let good : Good (layout Out) out = (and_tt _ typed.0, (record { fits = lit< tt }, (typed.1, tt))) in
    suffices ! (Run (handle_val (block_ptr b o) ∷ h.0 ∷ []))
    (subst (λ (p : Ptr). ent 𝓤 (Run (handle_val (block_ptr b o) ∷ h.0 ∷ [])) (Run (handle_val p ∷ h.0 ∷ []))) (sym is) (id⊢ 𝓤 _)) $
    enter ! 𝓣.C 𝓣.Λ fn (handle_val (block_ptr b o) ∷ h.0 ∷ []) Post $
    alloc_all ! (λ l. pass_all ! refl (handle_typed (block_ptr b o), (h.2, tt)) $ let En : Env 𝓤 H = env fn.locals l in
    sets ! (of_opd ! (get_in ! (fld ! refl (stop !)) (sub ! 0 refl (whole !)))) refl (tt, tt) $
    sets ! (bin ! (get ! refl) (lit ! tt) (tests_null (block_ptr b o) t)) refl (tt, tt) $ first ! $
    branches ! (get ! refl) (λ wrong. absurd wrong) (λ _.
    skips ! $ exec ! 𝓣.C 𝓣.Λ En code.Mir.t-4 (at_ret En Post) $
    sets ! (of_opd ! (get ! refl)) refl (tt, tt) $
    sets ! (agg ! (and_then ! (get ! refl) (and_then ! (get ! refl) (no_more !)))) refl typed $
    sets ! (agg ! (and_then ! (lit ! tt) (and_then ! (get ! refl) (no_more !)))) refl good $
    returns ! (look_at ! 0 refl) $ free_all ! refl $
    loose_in Kept Z LZ ghosts ! b o h.0 a x $ use1 𝓛 (‵ (Out.own_val (Some r) (out ∷ []))) (Some-of 𝓛 L r made) $
    use0 𝓛 (raw (fact 𝓤 (d.kept ≡ Some x))) (fact_i 𝓤 (d.kept ≡ Some x) (emp 𝓤) held) $
    nothing ! $ nothing ! $ fjoin ! $ nothing ! $ fjoin ! $ move ! (3 ∷ 0 ∷ 2 ∷ 1 ∷ []) $
    by ! (leaves 𝓛 ended hs c z out (Some r) (tt, (tt, tt)) (tt, (tt, tt)))))))
