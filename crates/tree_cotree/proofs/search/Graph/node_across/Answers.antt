use Rattle.tree_cotree.proofs.Common.{rotation_system, Rotations, rotations_of, arith, ◌≡◌, ℕ, ap, ◌∙◌}
use Rattle.tree_cotree.proofs.search.Graph.node_across.Goals as goal

pub returns-in-Vertices : goal.returns-in-Vertices
returns-in-Vertices c =
    let maps : Rotations = rotations_of c.args.self.now.surface.now in
    let d : ℕ = c.args.dart.0 in
    let here : c.origin.result.0 ≡ maps.origin (maps.twin d) =
    c.origin.ensures ∙ ap maps.origin c.next.ensures.next
    ∙ (rotation_system c.args.self.now.surface.now c.requires.valid).follows d c.requires.dart in grind arith
