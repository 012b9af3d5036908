use Rattle.move_lifting.proofs.Common.{origin_of, twin_of, backward, ℕ, ◌++◌, ◌∷◌, List, ap, subst, ◌∙◌, arith, on_ok_weaker, AreFreelyEqual, numbers}
use Rattle.move_lifting.proofs.ExpandLemmas.{length-numbers}
use Rattle.move_lifting.proofs.LayLemmas.{laid_round}
use Rattle.move_lifting.proofs.TreeUpLemmas.{origin_used}
use Rattle.move_lifting.proofs.spoke_walks.go_round.Goals as goal

pub put_over-requires-clause-to : goal.put_over-requires-clause-to
put_over-requires-clause-to c = grind (arith, origin_used)

pub put_over-requires-2-clause-from : goal.put_over-requires-2-clause-from
put_over-requires-2-clause-from c = grind (arith, origin_used)

pub returns-clause-freely : goal.returns-clause-freely
returns-clause-freely c =
    on_ok_weaker c.put_over-2.result (λ free root ways h.
    let s = c.args.cut.now.on.surface.now in
    let y : ℕ = c.args.start.0 in
    let tail : ℕ = c.origin-tail.result.0 in
    let head : ℕ = c.origin-head.result.0 in
    let begun : List ℕ = numbers c.args.walk.now.items in
    let end : List ℕ = numbers c.put_over-2.new.walk.items in
    let round : AreFreelyEqual s.mesh (begun ++ (ways y ++ ((backward tail (ways tail) ++ head ∷ ways head) ++ backward y (ways y)))) end =
    laid_round s.mesh begun (numbers c.put_over.new.walk.items) (numbers c.put_vertex.new.walk.items) end (ways y)
    (backward tail (ways tail)) (ways head) (backward y (ways y)) head
    (omega (arith, c.requires.some, length-numbers c.args.walk.now.items))
    (c.in_ok-put_over.ensures.freely root ways h) (c.in_ok-put_vertex.ensures.freely s.mesh) (free root ways h) in
    subst (λ (v : ℕ). AreFreelyEqual s.mesh
    (begun ++ (ways y ++ ((backward v (ways v) ++ origin_of s (twin_of s c.args.dart.0) ∷ ways (origin_of s (twin_of s c.args.dart.0)))
    ++ backward y (ways y)))) end) c.origin-tail.ensures
    (subst (λ (v : ℕ). AreFreelyEqual s.mesh (begun ++ (ways y ++ ((backward tail (ways tail) ++ v ∷ ways v) ++ backward y (ways y)))) end)
    (c.origin-head.ensures ∙ ap (origin_of s) c.twin.ensures.twin) round))
    c.put_over-2.ensures.freely
