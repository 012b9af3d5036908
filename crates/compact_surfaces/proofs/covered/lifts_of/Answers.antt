use Rattle.compact_surfaces.proofs.Common.{lift_by, ◌≡◌, ℕ, List, [], ◌∷◌, ◌++◌, ap, ◌∙◌, sym, subst, arith, ap₂, map, get_or_default, map_more, take_all, IsWalk, walk_at}
use Rattle.compact_surfaces.proofs.covered.lifts_of.Goals as goal

pub lift-requires-clause-walk : goal.lift-requires-clause-walk
lift-requires-clause-walk c =
    let walks : List (List ℕ) = c.args.walks.now in
    subst (IsWalk c.args.faces.now)
    (sym (c.index-walks-place.is ∙ get_or_default walks c.loop-place.place c.index-walks-place.result [] c.loop-place-test.true))
    (c.requires.walks c.loop-place.place c.loop-place-test.true)

pub loop-place-preserved : goal.loop-place-preserved
loop-place-preserved c =
    let walks : List (List ℕ) = c.args.walks.now in
    let place : ℕ = c.loop-place.place in
    let read : c.index-walks-place.result ≡ walk_at walks place =
    c.index-walks-place.is ∙ get_or_default walks place c.index-walks-place.result [] c.loop-place-test.true in
    c.in_ok-push.ensures.items
    ∙ ap₂ (λ (ws : List (List ℕ)) (w : List ℕ). ws ++ w ∷ []) c.loop-place.invariant
    (c.in_ok-above.ensures ∙ ap (lift_by c.args.faces.now c.args.ways.now) read)
    ∙ sym (map_more (lift_by c.args.faces.now c.args.ways.now) walks place [] c.loop-place-test.true)

pub returns : goal.returns
returns c =
    c.loop-place.invariant
    ∙ ap (map (lift_by c.args.faces.now c.args.ways.now))
    (take_all c.loop-place.place c.args.walks.now (omega (arith, c.loop-place-test.false)))
