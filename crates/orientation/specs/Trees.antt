-- The search for signs: trees of faces, each face found from another one across an edge.
use Rattle.std.specs.Prelude.{◌≡◌, ◌⊎◌, ℕ, ◌+◌, ◌<◌, Bool, true, false, not, ◌==◌, List, length, count_by, slice_index_or, slice_set, replicate, All, Contains, Option, None, Some}
use Rattle.surf_model.specs.FaceLists.{FaceList, IsFaceList, HasFileSize}
use Rattle.surf_model.specs.Darts.{tail_of, head_of}
use Rattle.surf_model.specs.Surfaces.{ArePartners, is_flipped}
use Rattle.surf_model.specs.declared.edges.Side.{Side}
use Rattle.surf_model.specs.declared.names.FaceName.{FaceName}
use Rattle.orientation.specs.Classes.{IsLeastOfClass}
use Rattle.orientation.specs.declared.trees.Place.{Place}

-- what lies across the edge of a side: its one partner, or nothing where it has none
abbrev pub IsAcross : FaceList → Side → Option Side → Type 0
IsAcross mesh side None = (partner : Side) → ArePartners mesh side partner → ⊥
IsAcross mesh side (Some other) = ArePartners mesh side other × ((partner : Side) → ArePartners mesh side partner → partner ≡ other)

-- the side joins these two vertices, of which the lower is the first
pub record IsAlong (mesh : FaceList) (side : Side) (low high : ℕ) : Type 0 where
  pub ordered : low < high
  pub ends : ((tail_of mesh side ≡ low) × (head_of mesh side ≡ high)) ⊎ ((tail_of mesh side ≡ high) × (head_of mesh side ≡ low))

-- whether two signs differ
abbrev pub differ : Bool → Bool → Bool
differ true other = not other
differ false other = other

-- whether two sides of one edge run the same way, as their faces list them: they start at the same vertex
abbrev pub runs_alike : FaceList → Side → Side → Bool
runs_alike mesh side other = tail_of mesh side == tail_of mesh other

-- the faces are listed coherently as they stand: no two sides of one edge run the same way
abbrev pub AreListedCoherently : FaceList → Type 0
AreListedCoherently mesh = (side other : Side) → ArePartners mesh side other → runs_alike mesh side other ≡ false

-- the signs of the two faces fit: they differ exactly where the two sides run the same way
abbrev pub Fit : FaceList → List Bool → Side → Side → Type 0
Fit mesh signs side other = differ (is_flipped signs side.face.0) (is_flipped signs other.face.0) ≡ runs_alike mesh side other

-- what a search knows: for each face whether it was seen, whether it is flipped, and its place in a tree
pub record Growth : Type 0 where
  pub seen : List Bool
  pub flipped : List Bool
  pub places : List Place

abbrev pub no_place : Place
no_place = record { depth = 0; from = record { face = record { 0 = 0 }; at = 0 } }

-- of n faces none was seen
abbrev pub unseen : ℕ → Growth
unseen n = record { seen = replicate n false; flipped = replicate n false; places = replicate n no_place }

abbrev pub is_seen : Growth → ℕ → Bool
is_seen growth f = slice_index_or growth.seen f false

abbrev pub tree_place_of : Growth → ℕ → Place
tree_place_of growth f = slice_index_or growth.places f no_place

-- face f is put into a tree
abbrev pub with_tree_face : Growth → ℕ → Bool → Place → Growth
with_tree_face growth f flipped place =
    record {
      seen = slice_set growth.seen f true;
      flipped = slice_set growth.flipped f flipped;
      places = slice_set growth.places f place;
    }

-- how many faces were not seen
abbrev pub count_unseen : Growth → ℕ
count_unseen growth = count_by not growth.seen

-- a face that was found across the edge of another one's side: it is one step deeper, and the signs of the two fit
pub record IsFoundFrom (mesh : FaceList) (growth : Growth) (f : ℕ) (from : Side) : Type 0 where
  pub side : Side
  pub partners : ArePartners mesh from side
  pub here : side.face.0 ≡ f
  pub seen : is_seen growth from.face.0 ≡ true
  pub deeper : (tree_place_of growth f).depth ≡ (tree_place_of growth from.face.0).depth + 1
  pub fit : Fit mesh growth.flipped from side

-- the first face of a tree: the least of its class, and kept
pub record IsFirst (mesh : FaceList) (growth : Growth) (f : ℕ) : Type 0 where
  pub depth : (tree_place_of growth f).depth ≡ 0
  pub kept : is_flipped growth.flipped f ≡ false
  pub least : IsLeastOfClass mesh f

-- the faces that were seen stand in trees
pub record AreTrees (mesh : FaceList) (growth : Growth) : Type 0 where
  pub mesh_is : IsFaceList mesh
  pub small : HasFileSize mesh
  pub each_face : length growth.seen ≡ length mesh.faces
  pub signs : length growth.flipped ≡ length mesh.faces
  pub places : length growth.places ≡ length mesh.faces
  pub placed : (f : ℕ) → is_seen growth f ≡ true → IsFirst mesh growth f ⊎ IsFoundFrom mesh growth f (tree_place_of growth f).from
  pub shallow : (f : ℕ) → is_seen growth f ≡ true → (tree_place_of growth f).depth + count_unseen growth < length mesh.faces

-- all faces across the sides of face f before one place were seen, with signs that fit
abbrev pub IsExploredUpTo : FaceList → Growth → ℕ → ℕ → Type 0
IsExploredUpTo mesh growth f at =
    (side other : Side) → ArePartners mesh side other → side.face.0 ≡ f → side.at < at
    → (is_seen growth other.face.0 ≡ true) × Fit mesh growth.flipped side other

-- all faces across the sides of face f were seen, with signs that fit
abbrev pub IsExplored : FaceList → Growth → ℕ → Type 0
IsExplored mesh growth f = (side other : Side) → ArePartners mesh side other → side.face.0 ≡ f
    → (is_seen growth other.face.0 ≡ true) × Fit mesh growth.flipped side other

-- the faces that wait were seen, and each other face that was seen is explored
pub record IsFrontier (mesh : FaceList) (growth : Growth) (waiting : List FaceName) : Type 0 where
  pub queued : All (λ (f : FaceName). is_seen growth f.0 ≡ true) waiting
  pub explored : (f : FaceName) → is_seen growth f.0 ≡ true → Contains waiting f ⊎ IsExplored mesh growth f.0
