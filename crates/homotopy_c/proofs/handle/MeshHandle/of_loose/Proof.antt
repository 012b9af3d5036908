-- `of_loose` holds what the pointer of the box owned.
use Rattle.homotopy_c.proofs.Common.{Goes-blank, the_row as Kept, ◌≡◌, List, [], ◌∷◌, ◌++◌, refl, sym, subst, proved_at, leaves, Some, ghosts, Global, box_owns, ftrue, fsep, fex, SProp, ent, emp, id⊢, fact, fact_i, tables, yes, RattleType, owns, block_ptr, plain, types_at, nothing, alive, Stays, stay_dropped, walk_of, Fn, Val, vptr, WpFn, alloc_all, pass_all, free_all, look_at, get, get_in, sets, ‵, raw, ◌⊛◌, ◌$◌, ◌∵◌, !, qed, by, move, keep, drop, split, fsplit, fjoin, fpack, suffices, use0, agg, sub, whole, stop, fld, of_opd, no_more, and_then, returns, enter}
use Rattle.homotopy_c.specs.contracts.handle.MeshHandle.of_loose.{ended, clauses}
use Rattle.homotopy_c.specs.contracts.handle.MeshHandle.of_loose.Key.{name as #self}
use Rattle.std.proofs.alloc.Global.TheLaws as heap_laws
use Rattle.std.specs.contracts.alloc.Global as heap
use Rattle.homotopy_c.proofs.HandleValues.{handle_val, handle_own, handle_made, handle_typed}
use Rattle.homotopy_c.proofs.LooseValues.{both, Loose, loose_good, loose_out}
use Rattle.homotopy_c.proofs.handle.MeshHandle.of_loose.Statement.{statement}
use Rattle.homotopy_c.proofs.handle.MeshHandle.of_loose.Code as code

pub of_loose_spec : {M : Type 1} → statement M
of_loose_spec 𝓤 𝓛 𝓜 𝓡 wired =
    let H = 𝓛.H in let 𝓣 = tables 𝓤 H 𝓜 𝓡 𝓡.env in let c = clauses 𝓛 𝓜.mem 𝓡.returns in let fn : Fn = code.function in
    let Z : RattleType = heap.the_row in let LZ = heap_laws.the_row_laws in let L : RattleType = Loose Kept Z LZ ghosts in
    let hs : Stays ended.signature.params ended.kept = (stay_dropped (plain (λ _. L)) yes, tt) in
    proved_at 𝓛 ended hs c 𝓜 𝓡 (Goes-blank 𝓛 0 (plain (λ _. L)) yes (λ κs x f. tt), tt) #self fn (code.unfolded 𝓤 H 𝓜 𝓡 wired) (λ z are.
    let Post : Val → SProp 𝓤 = (walk_of 𝓛 ended hs c).post z in let Run : List Val → SProp 𝓤 = λ ws. WpFn 𝓤 H 𝓣.C 𝓣.Λ fn ws Post in
    let d = z.0.3.0 in let x = d.value in
    qed 𝓛 ((raw (alive 𝓛 ended.signature z.0.0 z.0.1) ⊛ ‵ (owns (types_at ended.signature.params z.0.0) z.0.3 z.0.4)) ∷ ‵ ftrue ∷ []) ∵
    move ! (1 ∷ []) $ drop ! $ split ! $ move ! (1 ∷ []) $ fsplit ! $ loose_out Kept Z LZ ghosts ! d z.0.4.0 (λ b o h at vs fits.
    let w : Val = both (vptr b o) h in
    -- [the box; the allocator; nothing; the tokens]
    keep ! (0 ∷ 3 ∷ []) $
    suffices ! (Run (w ∷ [])) (subst (λ (us : List Val). ent 𝓤 (Run (w ∷ [])) (Run us)) (sym (λ i. vs i ++ [])) (id⊢ 𝓤 (Run (w ∷ [])))) $
    enter ! 𝓣.C 𝓣.Λ fn (w ∷ []) Post $ alloc_all ! (λ l. pass_all ! refl (loose_good Kept Z LZ ghosts b o h fits, tt) $
    sets ! (of_opd ! (get_in ! (fld ! refl (stop !)) (sub ! 0 refl (whole !)))) refl (tt, tt) $
    sets ! (of_opd ! (get ! refl)) refl (tt, tt) $
    sets ! (agg ! (and_then ! (get ! refl) (no_more !))) refl (handle_typed (block_ptr b o)) $
    returns ! (look_at ! 0 refl) $ free_all ! refl $
    nothing ! $ fpack ! (Some x ≡ Some x) (λ _. ftrue) refl $ move ! (1 ∷ 0 ∷ []) $ fjoin ! $
    fpack ! Kept.Denot
    (λ mesh. fsep (box_owns (ghosts.dealloc_token d.alloc) Kept (block_ptr b o) mesh) (fex (Some x ≡ Some mesh) (λ _. ftrue))) x $
    fpack ! Global (λ y. fex Kept.Denot
    (λ mesh. fsep (box_owns (ghosts.dealloc_token y) Kept (block_ptr b o) mesh) (fex (Some x ≡ Some mesh) (λ _. ftrue)))) d.alloc $
    use0 𝓛 (‵ (handle_own (block_ptr b o) (handle_val (block_ptr b o) ∷ []))) (handle_made 𝓛 (block_ptr b o)) $ fjoin ! $
    use0 𝓛 (raw (fact 𝓤 (Some x ≡ Some x))) (fact_i 𝓤 (Some x ≡ Some x) (emp 𝓤) refl) $
    nothing ! $ nothing ! $ fjoin ! $ move ! (3 ∷ 0 ∷ 2 ∷ 1 ∷ []) $
    by ! (leaves 𝓛 ended hs c z (handle_val (block_ptr b o)) (record { at = block_ptr b o; kept = Some x }) (tt, tt) (tt, tt)))))
