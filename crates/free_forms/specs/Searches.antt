-- A search of the faces from the boundary, breadth first.
use Rattle.std.specs.Prelude.{◌≡◌, ℕ, ◌<◌, ◌≤◌, Bool, true, false, if◌then◌else◌, List, [], ◌∷◌, ◌++◌, length, slice_index, slice_index_or, slice_set, sum_by, IsTrue}
use Rattle.surf_model.specs.FaceLists.{FaceList, face_at}
use Rattle.surf_model.specs.Edges.{Edge, edge_in}
use Rattle.surf_model.specs.Surfaces.{ArePartners}
use Rattle.surf_model.specs.declared.edges.Side.{Side}
use Rattle.free_forms.specs.Parents.{parent_of}
use Rattle.free_forms.specs.declared.search.Search.{Search}

-- the faces that are reached, in order; for each face whether it is reached; and for each face the place of its parent
pub record SearchView : Type 0 where
  pub order : List ℕ
  pub reached : List Bool
  pub places : List ℕ

-- what a search has come to
abbrev pub view_of_search : Search → SearchView
view_of_search search = record { order = search.order.items; reached = search.reached.items; places = search.places.items }

-- a face is reached
abbrev pub IsFaceReached : SearchView → ℕ → Type 0
IsFaceReached search f = IsTrue (slice_index_or search.reached f false)

-- the search once the face of a side is reached by that side: nothing changes where it was reached before
abbrev pub with_side : SearchView → Side → SearchView
with_side search side =
    if slice_index_or search.reached side.face.0 false
    then search
    else record {
      order = search.order ++ side.face.0 ∷ [];
      reached = slice_set search.reached side.face.0 true;
      places = slice_set search.places side.face.0 side.at;
    }

-- the parent of a face
abbrev pub parent_in : FaceList → SearchView → ℕ → Side
parent_in mesh search f = parent_of (record { mesh = mesh; places = search.places }) f

-- a number for a mark
abbrev pub bit : Bool → ℕ
bit b = if b then 1 else 0

-- crossing the parent of a face leads to a face that was reached before it
pub record IsParentSearch (mesh : FaceList) (search : SearchView) : Type 0 where
  pub each_place : length search.places ≡ length mesh.faces
  pub each_mark : length search.reached ≡ length mesh.faces
  pub counted : sum_by bit search.reached ≡ length search.order
  pub in_order : (f : ℕ) → IsFaceReached search f → (j : ℕ) × (j < length search.order) × (slice_index search.order j ≡ f)
  pub in_marks : (j : ℕ) → j < length search.order → IsFaceReached search (slice_index search.order j)
  pub within : (f : ℕ) → IsFaceReached search f → slice_index search.places f < length (face_at mesh f)
  pub falls : (j : ℕ) (other : Side) → j < length search.order
      → ArePartners mesh (parent_in mesh search (slice_index search.order j)) other
      → (i : ℕ) × (i < j) × (slice_index search.order i ≡ other.face.0)

-- what is reached stays so, in the same order
pub record Grows (old new : SearchView) : Type 0 where
  pub more : length old.order ≤ length new.order
  pub order : (j : ℕ) → j < length old.order → slice_index new.order j ≡ slice_index old.order j
  pub reached : (f : ℕ) → IsFaceReached old f → IsFaceReached new f

-- across the first sides of a face, up to place n, all faces are reached
abbrev pub NeighboursReached : FaceList → SearchView → ℕ → ℕ → Type 0
NeighboursReached mesh search f n =
    (t : ℕ) (other : Side) → t < n → t < length (face_at mesh f) → ArePartners mesh (record { face = record { 0 = f }; at = t }) other
    → IsFaceReached search other.face.0

-- the same of the first faces in order
abbrev pub IsClosedUpTo : FaceList → SearchView → ℕ → Type 0
IsClosedUpTo mesh search n =
    (j : ℕ) → j < n → j < length search.order
    → NeighboursReached mesh search (slice_index search.order j) (length (face_at mesh (slice_index search.order j)))

-- the faces at the first edges of the table, up to edge n, are reached where they are on the boundary
abbrev pub IsStartedUpTo : List Edge → SearchView → ℕ → Type 0
IsStartedUpTo table search n =
    (k : ℕ) (d : Side) → k < n → k < length table → length (edge_in table k).sides ≡ 1
    → IsFaceReached search (slice_index_or (edge_in table k).sides 0 d).face.0
