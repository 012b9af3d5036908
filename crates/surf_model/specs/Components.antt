-- The components of a face list. Two used vertices are of one component where a walk joins them, a face is of the component of its
-- vertices, and the components stand in the order of their least vertices.
use Rattle.std.specs.Prelude.{◌≡◌, ℕ, ◌<◌, ◌==◌, ◌↔◌, List, length, filter, slice_index, IsTrue}
use Rattle.std.specs.List.{range_with_len}
use Rattle.surf_model.specs.FaceLists.{FaceList, face_at, is_used}
use Rattle.surf_model.specs.Surfaces.{AreJoinedByWalk}

-- any two used vertices are joined by a walk: there is one component at most
abbrev pub EachTwoAreJoined : FaceList → Type 0
EachTwoAreJoined mesh = (u v : ℕ) → IsTrue (is_used mesh u) → IsTrue (is_used mesh v) → AreJoinedByWalk mesh u v

-- the least vertex of a component
pub record IsLeastOfComponent (mesh : FaceList) (v : ℕ) : Type 0 where
  pub used : IsTrue (is_used mesh v)
  pub least : (w : ℕ) → w < v → AreJoinedByWalk mesh v w → ⊥

-- a component by its place, which some least vertex has
pub record HasLeastVertex (mesh : FaceList) (places : List ℕ) (k : ℕ) : Type 0 where
  pub vertex : ℕ
  pub least : IsLeastOfComponent mesh vertex
  pub place : slice_index places vertex ≡ k

-- for each used vertex the place of its component, where there are so many components
pub record ArePlacesOfComponents (mesh : FaceList) (count : ℕ) (places : List ℕ) : Type 0 where
  pub each_vertex : length places ≡ mesh.count
  pub below : (v : ℕ) → IsTrue (is_used mesh v) → slice_index places v < count
  pub joined : (u v : ℕ) → IsTrue (is_used mesh u) → IsTrue (is_used mesh v)
      → (slice_index places u ≡ slice_index places v) ↔ AreJoinedByWalk mesh u v
  pub each_place : (k : ℕ) → k < count → HasLeastVertex mesh places k
  pub in_order : (u v : ℕ) → IsLeastOfComponent mesh u → IsLeastOfComponent mesh v → u < v → slice_index places u < slice_index places v

-- the place of the component of a face: that of its vertices
abbrev pub place_of_face : FaceList → List ℕ → ℕ → ℕ
place_of_face mesh places f = slice_index places (slice_index (face_at mesh f) 0)

-- the faces of component k, rising
abbrev pub faces_of_component : FaceList → List ℕ → ℕ → List ℕ
faces_of_component mesh places k = filter (λ f. place_of_face mesh places f == k) (range_with_len 0 (length mesh.faces))
