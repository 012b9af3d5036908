use Rattle.move_lifting.proofs.Common.{origin_of, OrientedMesh, PolygonView, side_at, last_side, ◌≡◌, ℕ, ◌-◌, ◌∷◌, [], ◌++◌, false, List, get_or, refl, ap, ◌∙◌, arith, common_steps, is_used, numbers, VertexName}
use Rattle.std.proofs.Common.{if◌then◌else◌}
use Rattle.move_lifting.proofs.ApproachLemmas.{first_spoke, made_more, none_made, last_used, spoke_some}
use Rattle.move_lifting.proofs.ExpandLemmas.{length-numbers}
use Rattle.move_lifting.proofs.spoke_walks.SpokeWalks.of.Goals as goal

-- where the walks start
start_is : (s : OrientedMesh) (polygon : PolygonView) (start side count : ℕ) → start ≡ origin_of s side
    → side ≡ side_at polygon (count - 1) → count ≡ polygon.degree → start ≡ origin_of s (last_side polygon)
start_is s polygon start side count starts last all = grind (arith, side_at)

pub loop-spoke-init : goal.loop-spoke-init
loop-spoke-init c =
    let s = c.args.cut.now.on.surface.now in
    let split = c.args.cut.now.on.split.now in
    let polygon = c.args.cut.now.polygon.now in
    let alone : numbers c.in_ok-walk.walk.items ≡ origin_of s (last_side polygon) ∷ [] =
    c.in_ok-walk.ensures
    ∙ ap (λ (x : ℕ). x ∷ [])
    (start_is c.args.cut.now.on.surface.now c.args.cut.now.polygon.now c.origin-start.result.0
    c.side.result.0 c.degree-degree.result
    c.origin-start.ensures c.side.ensures c.degree-degree.ensures.degree) in
    none_made s split polygon c.args.named.now c.new-walks.result (numbers c.in_ok-walk.walk.items) c.new-walks.ensures
    (first_spoke c.requires.cut.surface
    (numbers c.in_ok-walk.walk.items) alone)

pub go_round-requires-clause-some : goal.go_round-requires-clause-some
go_round-requires-clause-some c =
    omega (
      arith,
      spoke_some c.requires.cut.surface c.loop-spoke.invariant.own,
      length-numbers c.loop-spoke.walk.items,
    )

pub go_round-requires-clause-start : goal.go_round-requires-clause-start
go_round-requires-clause-start c =
    ap (is_used c.args.cut.now.on.surface.now.mesh)
    (start_is c.args.cut.now.on.surface.now c.args.cut.now.polygon.now c.origin-start.result.0
    c.side.result.0 c.degree-degree.result
    c.origin-start.ensures c.side.ensures c.degree-degree.ensures.degree)
    ∙ last_used c.requires.cut.surface

pub loop-spoke-preserved : goal.loop-spoke-preserved
loop-spoke-preserved c =
    let polygon = c.args.cut.now.polygon.now in
    let marked = get_or c.args.named.now c.loop-spoke.spoke false in
    let walk : List ℕ = numbers c.loop-spoke.walk.items in
    let more : c.push_if.new.self ≡ c.loop-spoke.walks ++ (if marked then walk else []) ∷ [] =
    c.in_ok-push_if.ensures
    ∙ ap (λ (l : List VertexName). c.loop-spoke.walks ++ (if marked then numbers l else []) ∷ []) c.deref.ensures.value in
    made_more c.requires.cut.surface c.args.named.now c.loop-spoke.spoke c.side-in-loop-spoke.result.0
    c.origin-start.result.0 c.loop-spoke.walks c.push_if.new.self walk (numbers c.go_round.new.walk.items) marked
    c.side-in-loop-spoke.ensures (start_is c.args.cut.now.on.surface.now c.args.cut.now.polygon.now c.origin-start.result.0
    c.side.result.0 c.degree-degree.result
    c.origin-start.ensures c.side.ensures c.degree-degree.ensures.degree) refl c.loop-spoke.invariant more c.in_ok-go_round.ensures.no_spur
    c.in_ok-go_round.ensures.freely

pub returns-clause-made : goal.returns-clause-made
returns-clause-made c spoke marked = grind (arith, common_steps)
