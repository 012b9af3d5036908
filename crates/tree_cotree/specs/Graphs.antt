-- What a search goes over: the vertices or the faces of a surface, joined across some of its edges.
use Rattle.std.specs.Prelude.{ℕ, Bool}
use Rattle.halfedge_map.specs.RotationSystems.{Rotations, rotations_of}
use Rattle.tree_cotree.specs.declared.search.Graph.{Graph}
use Rattle.tree_cotree.specs.Searches.{node_of, next_round_node, is_allowed}

-- the maps of the surface
abbrev pub maps_of : Graph → Rotations
maps_of graph = rotations_of graph.surface.now

-- the node that a dart belongs to
abbrev pub node_in : Graph → ℕ → ℕ
node_in graph = node_of graph.nodes (maps_of graph)

-- the dart that follows round the node
abbrev pub turn_in : Graph → ℕ → ℕ
turn_in graph = next_round_node graph.nodes (maps_of graph)

-- the edges that a search may cross
abbrev pub crosses : Graph → ℕ → Bool
crosses graph = is_allowed graph.edges graph.kinds.now
