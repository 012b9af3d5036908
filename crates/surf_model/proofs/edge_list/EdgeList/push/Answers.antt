use Rattle.surf_model.proofs.Common.{◌≡◌, ◌+◌, ◌≤◌, ◌∷◌, [], ◌++◌, List, length, map, arith, rules, common_steps, length-map, SideEntry, MOST_SIDES, DartName}
use Rattle.surf_model.proofs.EdgeListLemmas.{edge_list-push, stored-push, dart_count-edges}
use Rattle.surf_model.proofs.edge_list.EdgeList.push.Goals as goal
use Rattle.surf_model.proofs.edge_list.EdgeList.push.Goals.{After-len}

-- the sides of the new edge end behind those that there were
end : (c : After-len) → c.len.result ≡ length c.self.inside.darts.items + length c.args.sides.now
end c = grind (arith, common_steps)

few : (c : After-len) → c.len.result ≤ MOST_SIDES
few c = omega (arith, end c, c.requires.room, dart_count-edges _ _ _ c.args.self.now c.self.invariant c.self.view_is)

pub overflow_cast-len : goal.overflow_cast-len
overflow_cast-len c = omega (arith, few (goal.at.overflow_cast-len c).After-len)

pub invariant_of-self-2 : goal.invariant_of-self-2
invariant_of-self-2 c =
    let i = c.self.inside in
    let len = (goal.at.invariant_of-self-2 c).After-len in
    let new : List DartName = map (λ (side : SideEntry). side.dart) c.args.sides.now in
    let size : length new ≡ length c.args.sides.now = length-map c.args.sides.now (λ (side : SideEntry). side.dart) in
    let pairs : c.push.new.self.items ≡ i.pairs.items ++ c.args.ends ∷ [] = search rules in
    let stops : c.push-2.new.self.items ≡ i.stops.items ++ c.len.result ∷ [] = search rules in
    rw (pairs, stops, c.in_ok-append.ensures.ok) (edge_list-push i.pairs.items i.stops.items i.darts.items new c.args.ends c.len.result
    c.self.invariant (omega (arith, size, c.requires.some)) (omega (arith, size, end len)) (few len))

pub returns : goal.returns
returns c = grind (arith, stored-push, end)
