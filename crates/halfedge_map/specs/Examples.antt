-- The maps on the darts at work, on the tetrahedron, with its last face also turned round. Each line is proved by computing.
use Rattle.std.specs.Prelude.{◌≡◌, ℕ, true, false, List, [], ◌∷◌, pos, refl}
use Rattle.surf_model.specs.FaceLists.{all_sides, is_used}
use Rattle.surf_model.specs.Edges.{Edge}
use Rattle.surf_model.specs.declared.edges.Side.{Side}
use Rattle.halfedge_map.specs.OrientedMeshes.{OrientedMesh}
use Rattle.halfedge_map.specs.DartMaps.{side_of, face_of, origin_of, target_of, next_of, twin_of, edge_of}
use Rattle.halfedge_map.specs.DartMaps.{start_corner_of, dart_at_corner, used_vertices, euler_of}

abbrev side : ℕ → ℕ → Side
side f t = record { face = record { 0 = f }; at = t }

-- the edges, where the last face has these sides on the edges 1 2, 1 3 and 2 3
abbrev edges : Side → Side → Side → List Edge
edges a b c =
    record { low = 0; high = 1; sides = side 0 0 ∷ side 1 2 ∷ [] }
    ∷ record { low = 0; high = 2; sides = side 0 2 ∷ side 2 0 ∷ [] }
    ∷ record { low = 0; high = 3; sides = side 1 0 ∷ side 2 2 ∷ [] }
    ∷ record { low = 1; high = 2; sides = side 0 1 ∷ a ∷ [] }
    ∷ record { low = 1; high = 3; sides = side 1 1 ∷ b ∷ [] }
    ∷ record { low = 2; high = 3; sides = side 2 1 ∷ c ∷ [] }
    ∷ []

-- no face names vertex 4
abbrev tetrahedron : OrientedMesh
tetrahedron =
    record {
      mesh = record { count = 5; faces = (0 ∷ 1 ∷ 2 ∷ []) ∷ (0 ∷ 3 ∷ 1 ∷ []) ∷ (0 ∷ 2 ∷ 3 ∷ []) ∷ (1 ∷ 3 ∷ 2 ∷ []) ∷ [] };
      table = edges (side 3 2) (side 3 0) (side 3 1);
      signs = false ∷ false ∷ false ∷ false ∷ [];
    }

-- the last face is listed the other way, and flipped
abbrev turned : OrientedMesh
turned =
    record {
      mesh = record { count = 4; faces = (0 ∷ 1 ∷ 2 ∷ []) ∷ (0 ∷ 3 ∷ 1 ∷ []) ∷ (0 ∷ 2 ∷ 3 ∷ []) ∷ (1 ∷ 2 ∷ 3 ∷ []) ∷ [] };
      table = edges (side 3 0) (side 3 2) (side 3 1);
      signs = false ∷ false ∷ false ∷ true ∷ [];
    }

-- Dart 0 goes from 0 to 1, dart 1 follows, and after dart 2 comes dart 0 again.
starts : origin_of tetrahedron 0 ≡ 0
unfolding origin_of side_of all_sides
starts = refl

ends : target_of tetrahedron 0 ≡ 1
unfolding target_of side_of all_sides
ends = refl

follows : next_of tetrahedron 0 ≡ 1
unfolding next_of side_of all_sides
follows = refl

comes_round : next_of tetrahedron 2 ≡ 0
unfolding next_of side_of all_sides
comes_round = refl

-- Dart 5 goes from 1 to 0, in face 1, along edge 0.
other_way : twin_of tetrahedron 0 ≡ 5
unfolding twin_of side_of all_sides
other_way = refl

and_back : twin_of tetrahedron 5 ≡ 0
unfolding twin_of side_of all_sides
and_back = refl

lies_in : face_of tetrahedron 5 ≡ 1
unfolding face_of side_of all_sides
lies_in = refl

lies_on : edge_of tetrahedron 5 ≡ 0
unfolding edge_of side_of all_sides
lies_on = refl

-- In the flipped face dart 9 goes from 2 to 1, then come darts 11 and 10.
flipped_start : origin_of turned 9 ≡ 2
unfolding origin_of side_of all_sides
flipped_start = refl

flipped_end : target_of turned 9 ≡ 1
unfolding target_of side_of all_sides
flipped_end = refl

flipped_next : next_of turned 9 ≡ 11
unfolding next_of side_of all_sides
flipped_next = refl

flipped_round : next_of turned 11 ≡ 10
unfolding next_of side_of all_sides
flipped_round = refl

-- Corner 0 of that face is vertex 1, where dart 11 starts, though side (3, 0) is dart 9.
flipped_corner : dart_at_corner turned 3 0 ≡ 11
unfolding dart_at_corner
flipped_corner = refl

flipped_corner_of : start_corner_of turned 11 ≡ 0
unfolding start_corner_of side_of all_sides
flipped_corner_of = refl

-- Vertex 4 is not counted.
four_used : used_vertices tetrahedron ≡ 4
unfolding used_vertices is_used
four_used = refl

sphere : euler_of tetrahedron ≡ pos 2
unfolding euler_of used_vertices is_used
sphere = refl
