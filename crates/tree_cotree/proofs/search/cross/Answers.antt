use Rattle.tree_cotree.proofs.Common.{rotation_system, Rotations, ◌≡◌, ◌<◌, ℕ, true, List, length, sym, ◌∙◌, subst, rules, arith, set, common_steps, maps_of, node_in, crosses, dart_numbers, IsFound, IsOrder}
use Rattle.tree_cotree.proofs.SearchLemmas.{IsNewDart, root_found, kept_found, none_kept, order_pushed, found_pushed, added_pushed}
use Rattle.tree_cotree.proofs.search.cross.Goals.{then-across-root-via-then-across-root, then-across-root-via-else-across-root+then-is_some}
use Rattle.tree_cotree.proofs.search.cross.Goals as goal

pub returns-then-across-root-clause-crossed : goal.returns-then-across-root-clause-crossed
returns-then-across-root-clause-crossed c =
    let maps : Rotations = maps_of c.args.graph.now in
    let node : ℕ → ℕ = node_in c.args.graph.now in
    let across : c.node_across-across.result ≡ node (maps.twin c.args.dart.0) = c.node_across-across.ensures in
    let order : List ℕ = dart_numbers c.args.search.now.order.items in
    let from = c.args.search.now.from.items in
    let below : c.node_across-across.result < length from = rw across (c.requires.below (maps.twin c.args.dart.0)
    ((rotation_system c.args.graph.now.surface.now c.requires.valid).twin_within c.args.dart.0 c.requires.dart)) in
    λ passes. subst (IsFound node order) across (elim c.then-across-root.branch [
      | then-across-root-via-then-across-root w ↦ grind (arith, root_found)
      | then-across-root-via-else-across-root+then-is_some w ↦
          kept_found c.node_across-across.result w.index.result.now c.requires.order
          below w.index.ensures (sym w.is_some.ensures ∙ w.if-is_some.true)
    ])

pub returns-clause-order : goal.returns-clause-order
returns-clause-order c =
    let maps : Rotations = maps_of c.args.graph.now in
    let node : ℕ → ℕ = node_in c.args.graph.now in
    let d : ℕ = c.args.dart.0 in
    let order : List ℕ = dart_numbers c.args.search.now.order.items in
    let from = c.args.search.now.from.items in
    let allowed = crosses c.args.graph.now in
    let system = rotation_system c.args.graph.now.surface.now c.requires.valid in
    let across : c.node_across-across.result ≡ node (maps.twin d) = c.node_across-across.ensures in
    let below : node (maps.twin d) < length from = c.requires.below (maps.twin d) (system.twin_within d c.requires.dart) in
    let same : c.may_cross.result ≡ true = search rules in
    let new : IsNewDart maps node allowed (length from) c.args.root order from d = grind (arith, none_kept) in
    subst (λ entry. IsOrder maps node allowed (length from) c.args.root (dart_numbers c.push.new.self.items)
    (set from c.node_across-across.result entry)) (sym c.some.ensures) (order_pushed c.args.search.now.order.items c.push.new.self.items
    c.node_across-across.result c.twin-back.result system c.requires.order new c.twin-back.ensures.twin across c.in_ok-push.ensures.items)

pub returns-clause-crossed : goal.returns-clause-crossed
returns-clause-crossed c =
    let maps : Rotations = maps_of c.args.graph.now in
    let node : ℕ → ℕ = node_in c.args.graph.now in
    λ passes. found_pushed maps node c.args.search.now.order.items c.push.new.self.items c.args.dart.0 c.twin-back.result
    c.twin-back.ensures.twin c.in_ok-push.ensures.items

pub index-requires : goal.index-requires
index-requires c =
    let maps : Rotations = maps_of c.args.graph.now in
    let from = c.args.search.now.from.items in
    let below : c.node_across-across.result < length from =
    subst (λ v. v < length from) (sym c.node_across-across.ensures)
    (c.requires.below (maps.twin c.args.dart.0) ((rotation_system c.args.graph.now.surface.now c.requires.valid).twin_within c.args.dart.0
    c.requires.dart)) in grind arith

pub returns-clause-added : goal.returns-clause-added
returns-clause-added c = grind (arith, common_steps, added_pushed)
