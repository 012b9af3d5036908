-- How walks lie in memory: the vertices of all of them one after another, and the place of each.
use Rattle.std.specs.Prelude.{ℕ, ◌-◌, ◌≤◌, List, length, map, take, drop, All}
use Rattle.surf_model.specs.Vertices.{numbers}
use Rattle.surf_model.specs.declared.names.VertexName.{VertexName}
use Rattle.move_lifting.specs.declared.spoke_walks.Place.{Place}

-- the walk that lies at a place
abbrev pub walk_at_place : List VertexName → Place → List ℕ
walk_at_place vertices place = numbers (take (place.end - place.start) (drop place.start vertices))

-- the walks that lie so
abbrev pub stored_walks : List Place → List VertexName → List (List ℕ)
stored_walks places vertices = map (walk_at_place vertices) places

-- each place is within the vertices
abbrev pub ArePlacesWithin : List Place → List VertexName → Type 0
ArePlacesWithin places vertices = All (λ place. (place.start ≤ place.end) × (place.end ≤ length vertices)) places
