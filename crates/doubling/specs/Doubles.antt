-- The double of a mesh: the mesh, a mirror copy of it, and a quad across the boundary for each edge that has one side.
use Rattle.std.specs.Prelude.{ℕ, ◌+◌, Bool, ◌==◌, List, [], ◌∷◌, ◌++◌, map, filter, reverse}
use Rattle.surf_model.specs.FaceLists.{FaceList, FaceSide, all_sides}
use Rattle.surf_model.specs.Surfaces.{sides_between}

-- the mirror of a vertex, in a mesh of so many vertices
abbrev pub mirror : ℕ → ℕ → ℕ
mirror count v = v + count

-- the mirror of a face: read backwards, with the mirrors of its vertices
abbrev pub mirror_face : ℕ → List ℕ → List ℕ
mirror_face count face = reverse (map (mirror count) face)

-- whether a side is on the boundary: its edge has no other side
abbrev pub is_rim : FaceList → FaceSide → Bool
is_rim mesh side = sides_between mesh side.tail side.head == 1

-- the quad between a side and its mirror: back along the side, over to the mirror, along it, and over again
abbrev pub rim_quad : ℕ → FaceSide → List ℕ
rim_quad count side = side.head ∷ side.tail ∷ mirror count side.tail ∷ mirror count side.head ∷ []

-- the quads of the sides on the boundary, by rising face and then by rising place
abbrev pub rim_quads : FaceList → List (List ℕ)
rim_quads mesh = map (rim_quad mesh.count) (filter (is_rim mesh) (all_sides mesh))

-- The double: the faces keep their numbers, then come their mirrors in the same order, and then the quads.
abbrev pub double_of : FaceList → FaceList
double_of mesh =
    record {
      count = mesh.count + mesh.count;
      faces = mesh.faces ++ map (mirror_face mesh.count) mesh.faces ++ rim_quads mesh;
    }
