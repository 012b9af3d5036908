-- When a labelling is good for a mesh: four rules, tried in this order. They look at each edge alone, so anybody can check them,
-- and they ask nothing else of the mesh.
use Rattle.std.specs.Prelude.{◌≡◌, ◌⊎◌, ℕ, ◌<◌, ◌≤◌, List, length, slice_index, All, IsTrue}
use Rattle.surf_model.specs.FaceLists.{FaceList, face_at, is_edge}
use Rattle.surf_model.specs.Darts.{tail_of, head_of}
use Rattle.surf_model.specs.Surfaces.{sides_between, ArePartners, RunOppositely}
use Rattle.surf_model.specs.declared.edges.Side.{Side}
use Rattle.turn_words.specs.Modulo.{add}
use Rattle.turn_words.specs.FormLaws.{IsQuad}
use Rattle.labellings.specs.Labellings.{LabellingView, labels_at, signs_of, tail_label, head_label}

-- Shape: a face for each of the mesh with a label for each of its corners, a place for each spoke, and all below the degree.
pub record HasShape (mesh : FaceList) (labelling : LabellingView) : Type 0 where
  pub each_face : length labelling.faces ≡ length mesh.faces
  pub each_corner : (f : ℕ) → f < length mesh.faces → length (labels_at labelling f) ≡ length (face_at mesh f)
  pub each_spoke : length labelling.places ≡ labelling.degree
  pub labels_below : (f : ℕ) → f < length mesh.faces → All (λ label. label < labelling.degree) (labels_at labelling f)
  pub places_below : All (λ place. place < labelling.degree) labelling.places

-- Degree: five spokes at least, or four whose places rise by one, counted round.
abbrev pub HasDegree : LabellingView → Type 0
HasDegree labelling =
    (5 ≤ labelling.degree)
    ⊎ ((labelling.degree ≡ 4) × ((i : ℕ) → i < 4 → slice_index labelling.places (add 4 i 1) ≡ add 4 (slice_index labelling.places i) 1))

-- Places: no two spokes have one place.
abbrev pub HasPlaces : LabellingView → Type 0
HasPlaces labelling =
    (i j : ℕ) → i < labelling.degree → j < labelling.degree → slice_index labelling.places i ≡ slice_index labelling.places j → i ≡ j

-- The rules of an edge, with the labels a, b at the tail and head of the one side, and c, d at those of the other.
-- Tree: along the one side and along the other the label stays.
abbrev pub MeetsTreeRule : ℕ → ℕ → ℕ → ℕ → Type 0
MeetsTreeRule a b c d = (a ≡ b) × (c ≡ d)

-- Cotree: across the edge the labels are the same.
abbrev pub MeetsCotreeRule : ℕ → ℕ → ℕ → ℕ → Type 0
MeetsCotreeRule a b c d = (a ≡ d) × (b ≡ c)

-- Leftover: along both sides the label rises by one, and the spokes a, a + 1 and c + 1, c are the two sides of a quad.
pub record MeetsLeftoverRule (places : List ℕ) (a b c d : ℕ) : Type 0 where
  pub rises : b ≡ add (length places) a 1
  pub rises_too : d ≡ add (length places) c 1
  pub quad : IsQuad places a c

abbrev pub MeetsSomeRule : List ℕ → ℕ → ℕ → ℕ → ℕ → Type 0
MeetsSomeRule places a b c d = MeetsTreeRule a b c d ⊎ (MeetsCotreeRule a b c d ⊎ MeetsLeftoverRule places a b c d)

-- the two sides of an edge run oppositely under the signs, and their labels meet one of the rules
pub record SidesMeetRule (mesh : FaceList) (labelling : LabellingView) (side other : Side) : Type 0 where
  pub opposite : RunOppositely mesh (signs_of labelling) side other
  pub rule :
      MeetsSomeRule labelling.places (tail_label mesh labelling side) (head_label mesh labelling side) (tail_label mesh labelling other)
      (head_label mesh labelling other)

-- the side joins the two vertices, in either direction
abbrev pub JoinsVertices : FaceList → ℕ → ℕ → Side → Type 0
JoinsVertices mesh u v side = ((tail_of mesh side ≡ u) × (head_of mesh side ≡ v)) ⊎ ((tail_of mesh side ≡ v) × (head_of mesh side ≡ u))

-- Edges: two vertices that form an edge are joined by exactly two sides, and these meet a rule.
pub record EdgeMeetsRule (mesh : FaceList) (labelling : LabellingView) (u v : ℕ) : Type 0 where
  pub two_sides : sides_between mesh u v ≡ 2
  pub sides : (side other : Side) → ArePartners mesh side other → JoinsVertices mesh u v side → SidesMeetRule mesh labelling side other

-- a good labelling of a mesh
pub record IsGood (mesh : FaceList) (labelling : LabellingView) : Type 0 where
  pub shape : HasShape mesh labelling
  pub degree : HasDegree labelling
  pub places : HasPlaces labelling
  pub edges : (u v : ℕ) → IsTrue (is_edge mesh u v) → EdgeMeetsRule mesh labelling u v
