use Rattle.move_lifting.proofs.Common.{backward, ◌≡◌, ℕ, ◌<◌, ◌-◌, ◌++◌, List, length, take, drop, get_or, refl, ap, ◌∙◌, subst, arith, on_ok_weaker, AreFreelyEqual, numbers, VertexName}
use Rattle.move_lifting.proofs.ExpandLemmas.{length-numbers}
use Rattle.move_lifting.proofs.LayLemmas.{laid_two, behind_first}
use Rattle.move_lifting.proofs.TreeUpLemmas.{way_some}
use Rattle.move_lifting.proofs.tree_way.put_over.Goals as goal
use Rattle.move_lifting.proofs.tree_way.put_over.Goals.{In_ok-up}

-- the way up has a vertex
some : (c : In_ok-up) → 0 < length c.in_ok-up.up.items
some c =
    way_some c.args.on.now.surface.now c.args.on.now.split.now c.requires.split c.args.from.0 c.in_ok-up.up.items c.in_ok-up.ensures

pub back_along-requires : goal.back_along-requires
back_along-requires c =
    rw c.deref.ensures.value
    (way_some c.args.on.now.surface.now c.args.on.now.split.now c.requires.split c.args.to.0 c.in_ok-way.way.items c.in_ok-way.ensures)

pub slice_bounds-put_all-count : goal.slice_bounds-put_all-count
slice_bounds-put_all-count c = grind (arith, some)

pub slice_bounds-put_all-start : goal.slice_bounds-put_all-start
slice_bounds-put_all-start c = grind (arith, some)

pub returns-clause-freely : goal.returns-clause-freely
returns-clause-freely c =
    on_ok_weaker c.put_all-2.result (λ free root ways h.
    let mesh = c.args.on.now.surface.now.mesh in
    let x : ℕ = c.args.from.0 in
    let y : ℕ = c.args.to.0 in
    let read = c.deref-2.result.now in
    let up : numbers (take (length read - 1) (drop 1 read)) ≡ ways x =
    behind_first read (take (length read - 1) (drop 1 read)) refl ∙ ap (λ (l : List VertexName). drop 1 (numbers l)) c.deref-2.ensures.value
    ∙ ap (drop 1) (c.in_ok-up.ensures root ways h) in
    let down : numbers c.deref-3.result.now ≡ backward y (ways y) =
    ap numbers c.deref-3.ensures.value ∙ c.in_ok-down.ensures
    ∙ ap (λ (l : List VertexName). backward (get_or (numbers l) 0 0) (drop 1 (numbers l))) c.deref.ensures.value
    ∙ ap (λ (l : List ℕ). backward (get_or l 0 0) (drop 1 l)) (c.in_ok-way.ensures root ways h) in
    laid_two mesh (numbers c.args.walk.now.items) (numbers c.put_all.new.walk.items) (numbers c.put_all-2.new.walk.items)
    (ways x) (backward y (ways y)) (omega (arith, c.requires.some, length-numbers c.args.walk.now.items))
    (subst (λ (l : List ℕ). AreFreelyEqual mesh (numbers c.args.walk.now.items ++ l) (numbers c.put_all.new.walk.items)) up
    (c.in_ok-put_all.ensures.freely mesh))
    (subst (λ (l : List ℕ). AreFreelyEqual mesh (numbers c.put_all.new.walk.items ++ l) (numbers c.put_all-2.new.walk.items)) down
    (free mesh)))
    c.put_all-2.ensures.freely
