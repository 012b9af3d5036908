-- A renamed mesh and renamed moves at work, on the tetrahedron. Each line is proved by computing.
use Rattle.std.specs.Prelude.{◌≡◌, ℕ, ◌+◌, ◌-◌, ◌*◌, ◌/◌, true, [], ◌∷◌, map, Some, refl}
use Rattle.surf_model.specs.declared.moves.Move.TheVariants.{Insert, Remove, Across}
use Rattle.surf_model.specs.FaceLists.{FaceList, all_sides, is_edge}
use Rattle.surf_model.specs.Meshes.{tetrahedron}
use Rattle.surf_model.specs.Moves.{apply}
use Rattle.renaming.specs.Renamings.{renamed_move}

-- the tetrahedron on the vertices 3, 5, 7 and 9
abbrev pub odd_tetrahedron : FaceList
odd_tetrahedron = record { count = 10; faces = (3 ∷ 5 ∷ 7 ∷ []) ∷ (3 ∷ 9 ∷ 5 ∷ []) ∷ (3 ∷ 7 ∷ 9 ∷ []) ∷ (5 ∷ 9 ∷ 7 ∷ []) ∷ [] }

abbrev pub there : ℕ → ℕ
there v = 2 * v + 3

abbrev pub back : ℕ → ℕ
back v = (v - 3) / 2

same_faces : odd_tetrahedron.faces ≡ map (map there) tetrahedron.faces
same_faces = refl

and_back : tetrahedron.faces ≡ map (map back) odd_tetrahedron.faces
and_back = refl

-- Vertices 2 and 3 form an edge, and so do 7 and 9.
same_edge : is_edge odd_tetrahedron (there 2) (there 3) ≡ true
unfolding is_edge all_sides
same_edge = refl

-- A spur from vertex 0 out to vertex 1 is one from vertex 3 out to vertex 5.
spur_in : apply odd_tetrahedron (3 ∷ []) (renamed_move there (Insert 0 (record { 0 = 1 }))) ≡ Some (3 ∷ 5 ∷ 3 ∷ [])
unfolding apply is_edge all_sides
spur_in = refl

spur_out : apply odd_tetrahedron (3 ∷ 5 ∷ 3 ∷ []) (renamed_move there (Remove 0 (record { 0 = 1 }))) ≡ Some (3 ∷ [])
unfolding apply
spur_out = refl

-- A face keeps its number.
across : apply odd_tetrahedron (3 ∷ 5 ∷ 7 ∷ []) (renamed_move there (Across 0 (record { 0 = 0 }) 0 true 2)) ≡ Some (3 ∷ 7 ∷ [])
unfolding apply
across = refl
