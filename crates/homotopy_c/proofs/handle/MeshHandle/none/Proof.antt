-- `none` is null.
use Rattle.homotopy_c.proofs.Common.{◌≡◌, [], ◌∷◌, refl, proved_at, leaves, None, ftrue, SProp, emp, fact, fact_i, tables, null_ptr, nothing, alive, Stays, walk_of, Fn, Val, Env, alloc_all, pass_all, free_all, look_at, sets, env, ‵, raw, ◌⊛◌, ◌$◌, ◌∵◌, !, qed, by, move, drop, split, fjoin, fpack, use0, agg, lit, no_more, and_then, returns, enter}
use Rattle.homotopy_c.specs.contracts.handle.MeshHandle.none.{ended, clauses}
use Rattle.homotopy_c.specs.contracts.handle.MeshHandle.none.Key.{name as #self}
use Rattle.homotopy_c.proofs.HandleValues.{handle_val, handle_own, handle_made, handle_typed}
use Rattle.homotopy_c.proofs.handle.MeshHandle.none.Statement.{statement}
use Rattle.homotopy_c.proofs.handle.MeshHandle.none.Code as code

pub none_spec : {M : Type 1} → statement M
none_spec 𝓤 𝓛 𝓜 𝓡 wired =
    let H = 𝓛.H in let 𝓣 = tables 𝓤 H 𝓜 𝓡 𝓡.env in let c = clauses 𝓛 𝓜.mem 𝓡.returns in let fn : Fn = code.function in
    let hs : Stays ended.signature.params ended.kept = tt in
    proved_at 𝓛 ended hs c 𝓜 𝓡 tt #self fn (code.unfolded 𝓤 H 𝓜 𝓡 wired) (λ z are.
    let Post : Val → SProp 𝓤 = (walk_of 𝓛 ended hs c).post z in
    qed 𝓛 ((raw (alive 𝓛 ended.signature z.0.0 z.0.1) ⊛ ‵ ftrue) ∷ ‵ ftrue ∷ []) ∵
    move ! (1 ∷ []) $ drop ! $ split ! $ move ! (1 ∷ []) $ drop ! $
    enter ! 𝓣.C 𝓣.Λ fn [] Post $ alloc_all ! (λ l. pass_all ! refl tt $ let En : Env 𝓤 H = env fn.locals l in
    sets ! (agg ! (and_then ! (lit ! tt) (no_more !))) refl (handle_typed null_ptr) $
    returns ! (look_at ! 0 refl) $ free_all ! refl $
    use0 𝓛 (raw (fact 𝓤 (None ≡ None))) (fact_i 𝓤 (None ≡ None) (emp 𝓤) refl) $
    nothing ! $ fpack ! (None ≡ None) (λ _. ftrue) refl $
    use0 𝓛 (‵ (handle_own null_ptr (handle_val null_ptr ∷ []))) (handle_made 𝓛 null_ptr) $ fjoin ! $ nothing ! $
    move ! (3 ∷ 0 ∷ 1 ∷ 2 ∷ []) $
    by ! (leaves 𝓛 ended hs c z (handle_val null_ptr) (record { at = null_ptr; kept = None }) tt tt)))
