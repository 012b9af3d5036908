-- The conditions at work on small meshes: each line is proved by computing. Rings are in proofs/RingExamples.antt, and
-- what `check_closed` answers on such meshes is in the tests.
use Rattle.std.specs.Prelude.{◌≡◌, ℕ, List, [], ◌∷◌, map, refl}
use Rattle.surf_model.specs.FaceLists.{FaceList, all_sides}
use Rattle.surf_model.specs.Meshes.{tetrahedron, moebius_band}
use Rattle.surf_model.specs.Surfaces.{sides_between}
use Rattle.manifold_check.specs.Faults.{IsFirstFault}
use Rattle.manifold_check.specs.declared.fault.SurfaceFault.TheVariants.{NoFace}

-- the tetrahedron without its last face
abbrev open_tetrahedron : FaceList
open_tetrahedron = record { count = 4; faces = (0 ∷ 1 ∷ 2 ∷ []) ∷ (0 ∷ 3 ∷ 1 ∷ []) ∷ (0 ∷ 2 ∷ 3 ∷ []) ∷ [] }

-- a sphere of one face, which goes along two edges and back
abbrev pub slit : FaceList
slit = record { count = 3; faces = (0 ∷ 1 ∷ 2 ∷ 1 ∷ []) ∷ [] }

-- the same face twice
abbrev two_slits : FaceList
two_slits = record { count = 3; faces = (0 ∷ 1 ∷ 2 ∷ 1 ∷ []) ∷ (0 ∷ 1 ∷ 2 ∷ 1 ∷ []) ∷ [] }

-- a torus of one face with twelve sides
abbrev twelve_gon : FaceList
twelve_gon = record { count = 5; faces = (0 ∷ 2 ∷ 1 ∷ 3 ∷ 0 ∷ 4 ∷ 1 ∷ 2 ∷ 0 ∷ 3 ∷ 1 ∷ 4 ∷ []) ∷ [] }

abbrev pairs : List (ℕ × ℕ)
pairs = (0, 1) ∷ (0, 2) ∷ (0, 3) ∷ (1, 2) ∷ (1, 3) ∷ (2, 3) ∷ []

-- how many sides join each pair of the first four vertices
abbrev numbers_of_sides : FaceList → List ℕ
numbers_of_sides mesh = map (λ (p : ℕ × ℕ). sides_between mesh p.0 p.1) pairs

-- Each edge of the tetrahedron has two sides. Without its last face, the least edge that has not is that of 1 and 2.
closed_edges : numbers_of_sides tetrahedron ≡ 2 ∷ 2 ∷ 2 ∷ 2 ∷ 2 ∷ 2 ∷ []
unfolding all_sides
closed_edges = refl

open_edges : numbers_of_sides open_tetrahedron ≡ 2 ∷ 2 ∷ 2 ∷ 1 ∷ 1 ∷ 1 ∷ []
unfolding all_sides
open_edges = refl

-- The edges inside the band have two sides, those at its rim one.
band_edges : numbers_of_sides moebius_band ≡ 2 ∷ 1 ∷ 1 ∷ 2 ∷ 1 ∷ 2 ∷ []
unfolding all_sides
band_edges = refl

-- The two sides of an edge may lie in one face, and follow each other.
slit_edges : numbers_of_sides slit ≡ 2 ∷ 0 ∷ 0 ∷ 2 ∷ 0 ∷ 0 ∷ []
unfolding all_sides
slit_edges = refl

two_slits_edges : numbers_of_sides two_slits ≡ 4 ∷ 0 ∷ 0 ∷ 4 ∷ 0 ∷ 0 ∷ []
unfolding all_sides
two_slits_edges = refl

twelve_gon_edges : numbers_of_sides twelve_gon ≡ 0 ∷ 2 ∷ 2 ∷ 2 ∷ 2 ∷ 0 ∷ []
unfolding all_sides
twelve_gon_edges = refl

-- A list without faces is at fault for that.
no_face : IsFirstFault (record { count = 3; faces = [] }) NoFace
no_face = refl
