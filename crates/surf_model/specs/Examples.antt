-- The definitions at work, on the tetrahedron, the cube and the torus of seven vertices. Each line is proved by computing.
use Rattle.std.specs.Prelude.{◌≡◌, ℕ, true, false, [], ◌∷◌, Some, None, refl}
use Rattle.surf_model.specs.declared.names.VertexName.{VertexName}
use Rattle.surf_model.specs.declared.names.FaceName.{FaceName}
use Rattle.surf_model.specs.declared.moves.Move.TheVariants.{Insert, Remove, Across}
use Rattle.surf_model.specs.FaceLists.{all_sides, is_edge, is_used}
use Rattle.surf_model.specs.Meshes.{tetrahedron, cube, torus}
use Rattle.surf_model.specs.Moves.{apply, apply_all, greatest_darts}

abbrev vertex : ℕ → VertexName
vertex v = record { 0 = v }

abbrev face : ℕ → FaceName
face f = record { 0 = f }

-- Vertices 2 and 3 form an edge, in either order. A vertex forms none with itself, and no face names vertex 4.
edge_between : is_edge tetrahedron 3 2 ≡ true
unfolding is_edge all_sides
edge_between = refl

no_edge_to_itself : is_edge tetrahedron 0 0 ≡ false
unfolding is_edge all_sides
no_edge_to_itself = refl

not_used : is_used tetrahedron 4 ≡ false
unfolding is_used
not_used = refl

-- Round the face 0 1 2, two of its sides are replaced by the third.
across : apply tetrahedron (0 ∷ 1 ∷ 2 ∷ []) (Across 0 (face 0) 0 true 2) ≡ Some (0 ∷ 2 ∷ [])
unfolding apply
across = refl

-- Read by falling places, the face has 0 2 1 there, and not 0 1 2.
wrong_way : apply tetrahedron (0 ∷ 1 ∷ 2 ∷ []) (Across 0 (face 0) 0 false 2) ≡ None
unfolding apply
wrong_way = refl

-- Three entries from place 1 on are more than there are.
past_the_end : apply tetrahedron (0 ∷ 1 ∷ 2 ∷ []) (Across 1 (face 0) 1 true 2) ≡ None
unfolding apply
past_the_end = refl

no_such_face : apply tetrahedron (0 ∷ 1 ∷ 2 ∷ []) (Across 0 (face 4) 0 true 2) ≡ None
unfolding apply
no_such_face = refl

-- No side taken: the whole boundary goes in. All sides taken: it goes out.
boundary_in : apply tetrahedron (0 ∷ []) (Across 0 (face 0) 0 false 0) ≡ Some (0 ∷ 1 ∷ 2 ∷ 0 ∷ [])
unfolding apply
boundary_in = refl

boundary_out : apply tetrahedron (0 ∷ 1 ∷ 2 ∷ 0 ∷ []) (Across 0 (face 0) 0 true 3) ≡ Some (0 ∷ [])
unfolding apply
boundary_out = refl

spur_in : apply tetrahedron (0 ∷ []) (Insert 0 (vertex 1)) ≡ Some (0 ∷ 1 ∷ 0 ∷ [])
unfolding apply is_edge all_sides
spur_in = refl

spur_out : apply tetrahedron (0 ∷ 1 ∷ 0 ∷ []) (Remove 0 (vertex 1)) ≡ Some (0 ∷ [])
unfolding apply
spur_out = refl

-- Across three faces of the cube, and across two of the torus, the walks lead to their partners.
three_faces :
    apply_all cube (0 ∷ 1 ∷ 2 ∷ 6 ∷ []) (Across 0 (face 0) 0 false 2 ∷ Across 1 (face 4) 1 false 2 ∷ Across 0 (face 5) 1 false 2 ∷ [])
    ≡ Some (0 ∷ 4 ∷ 7 ∷ 6 ∷ [])
unfolding apply
three_faces = refl

two_faces : apply_all torus (0 ∷ 1 ∷ 3 ∷ []) (Across 0 (face 0) 0 true 2 ∷ Across 0 (face 7) 0 true 1 ∷ []) ≡ Some (0 ∷ 2 ∷ 3 ∷ [])
unfolding apply
two_faces = refl

peak_of_two_faces : greatest_darts torus (0 ∷ 1 ∷ 3 ∷ []) (Across 0 (face 0) 0 true 2 ∷ Across 0 (face 7) 0 true 1 ∷ []) ≡ 2
unfolding greatest_darts apply
peak_of_two_faces = refl
