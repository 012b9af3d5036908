-- How far the double is built: its first faces stand, and no face is begun.
use Rattle.std.specs.Prelude.{◌≡◌, ◌⊎◌, ℕ, ◌+◌, ◌<◌, List, [], ◌∷◌, ◌++◌, map, filter, take}
use Rattle.surf_model.specs.FaceLists.{FaceList, PendingFace, all_sides, total_sides}
use Rattle.surf_model.specs.declared.limits.TheConstants.{MOST_SIDES}
use Rattle.doubling.specs.Doubles.{mirror_face, is_rim, rim_quad, double_of}
use Rattle.doubling.specs.declared.fault.DoubleFault.{DoubleFault}
use Rattle.doubling.specs.declared.fault.DoubleFault.TheVariants.{TooManySides, OutOfMemory}

-- these faces, over the vertices of the double
abbrev pub begun : FaceList → List (List ℕ) → PendingFace
begun mesh faces = record { mesh = record { count = mesh.count + mesh.count; faces = faces }; pending = [] }

-- the first n faces of the mesh
abbrev pub with_faces : FaceList → ℕ → PendingFace
with_faces mesh n = begun mesh (take n mesh.faces)

-- all faces of the mesh, and the mirrors of the first n
abbrev pub with_mirrors : FaceList → ℕ → PendingFace
with_mirrors mesh n = begun mesh (mesh.faces ++ take n (map (mirror_face mesh.count) mesh.faces))

-- all faces of the mesh, all mirrors, and the quads of the first n sides
abbrev pub with_quads : FaceList → ℕ → PendingFace
with_quads mesh n =
    begun mesh
    (mesh.faces ++ map (mirror_face mesh.count) mesh.faces ++ map (rim_quad mesh.count) (filter (is_rim mesh) (take n (all_sides mesh))))

-- a face more
abbrev pub with_face : PendingFace → List ℕ → PendingFace
with_face old ring = record { mesh = record { count = old.mesh.count; faces = old.mesh.faces ++ ring ∷ [] }; pending = [] }

-- why a face is not put behind others: there would be too many sides, or there is no memory
abbrev pub HasNoRoom : ℕ → DoubleFault → Type 0
HasNoRoom sides fault = (fault ≡ OutOfMemory) ⊎ ((fault ≡ TooManySides) × (MOST_SIDES < sides))

-- why the double is not built
abbrev pub EndsEarly : FaceList → DoubleFault → Type 0
EndsEarly mesh fault = HasNoRoom (total_sides (double_of mesh)) fault
