-- The mesh of some faces of a mesh: what it is, and what its faces are called in the whole mesh.
use Rattle.std.specs.Prelude.{ℕ, Bool, List, map, slice_index}
use Rattle.surf_model.specs.FaceLists.{FaceList, face_at}
use Rattle.surf_model.specs.Surfaces.{is_flipped}
use Rattle.surf_model.specs.declared.moves.Move.{Move}
use Rattle.surf_model.specs.declared.moves.Move.TheVariants.{Insert, Remove, Across}

-- the mesh of the faces with these names, in this order, over the same vertices
abbrev pub submesh : FaceList → List ℕ → FaceList
submesh mesh names = record { count = mesh.count; faces = map (face_at mesh) names }

-- the signs of these faces
abbrev pub signs_among : List Bool → List ℕ → List Bool
signs_among signs names = map (is_flipped signs) names

-- a move of the submesh as a move of the whole mesh: the same, with the name that its face has there
abbrev pub move_of_whole_mesh : List ℕ → Move → Move
move_of_whole_mesh names (Insert at via) = Insert at via
move_of_whole_mesh names (Remove at via) = Remove at via
move_of_whole_mesh names (Across at face corner forward taken) = Across at (record { 0 = slice_index names face.0 }) corner forward taken

abbrev pub renamed_moves : List ℕ → List Move → List Move
renamed_moves names moves = map (move_of_whole_mesh names) moves
