-- What a walk is worth in the loops of a polygon, up to spurs alone: which moves keep that, and which walks have no cotree dart left.
use Rattle.std.specs.Prelude.{◌≡◌, ◌≢◌, ◌⊎◌, ℕ, zero, suc, ◌+◌, ◌-◌, ◌<◌, Bool, true, false, not, List, [], ◌∷◌, ◌++◌, length, drop, slice_index, Some}
use Rattle.surf_model.specs.FaceLists.{face_at, next_corner, corners_from, is_used}
use Rattle.surf_model.specs.Surfaces.{IsPath, is_flipped}
use Rattle.surf_model.specs.FreeWalks.{AreFreelyEqual}
use Rattle.surf_model.specs.declared.moves.Move.{Move}
use Rattle.surf_model.specs.declared.moves.Move.TheVariants.{Insert, Remove, Across}
use Rattle.halfedge_map.specs.OrientedMeshes.{OrientedMesh}
use Rattle.halfedge_map.specs.DartMaps.{darts_of, next_of, twin_of, origin_of, edge_of, start_corner_of}
use Rattle.halfedge_map.specs.RotationSystems.{rotations_of, IsDartFrom}
use Rattle.tree_cotree.specs.Splits.{SplitView, in_cotree, below_edge, StepsToParent}
use Rattle.polygon_cut.specs.Polygons.{PolygonView, side_at, label_of, across}

-- the edges of the walk are in the tree or left over
abbrev pub IsOffCotree : OrientedMesh → SplitView → List ℕ → Type 0
IsOffCotree surface split walk =
    (k dart : ℕ) → k + 1 < length walk → IsDartFrom (rotations_of surface) (slice_index walk k) (slice_index walk (k + 1)) dart
    → in_cotree split (edge_of surface dart) ≡ false

-- One step round a face, from a corner on and in a direction, goes along a dart of the cotree edge that the face is below.
pub record CrossesBelow (surface : OrientedMesh) (split : SplitView) (face corner : ℕ) (forward : Bool) (taken : ℕ) : Type 0 where
  pub dart : ℕ
  pub within : dart < darts_of surface
  pub below : below_edge split (edge_of surface dart) ≡ Some face
  pub corner_in : corner < length (face_at surface.mesh face)
  pub starts : slice_index (face_at surface.mesh face) corner ≡ origin_of surface dart
  pub ends : slice_index (face_at surface.mesh face) (next_corner forward (length (face_at surface.mesh face)) corner)
      ≡ origin_of surface (twin_of surface dart)
  pub one : taken ≡ 1

-- the move puts a spur in, takes one out, or goes round the face below a cotree edge in place of that edge
abbrev pub LeavesCotree : OrientedMesh → SplitView → Move → Type 0
LeavesCotree surface split (Insert at via) = Unit {0}
LeavesCotree surface split (Remove at via) = Unit {0}
LeavesCotree surface split (Across at face corner forward taken) = CrossesBelow surface split face.0 corner forward taken

-- the last side, and the number of the side across from it
abbrev pub last_side : PolygonView → ℕ
last_side polygon = side_at polygon (polygon.degree - 1)

abbrev pub across_last : OrientedMesh → PolygonView → ℕ
across_last surface polygon = across (rotations_of surface) polygon (polygon.degree - 1)

-- The spokes of a dart: those of the labels at its tail and at its head, or none where these are one. The last side has those of the side
-- across from it, at its head and at its tail.
pub record HasFreeSpokes (surface : OrientedMesh) (polygon : PolygonView) (dart : ℕ) (path : List ℕ) : Type 0 where
  pub last : dart ≡ last_side polygon → path ≡ (across_last surface polygon + 1) ∷ across_last surface polygon ∷ []
  pub other : dart ≢ last_side polygon
      → (path ≡ label_of polygon dart ∷ label_of polygon (next_of surface dart) ∷ [])
      ⊎ ((path ≡ []) × (label_of polygon dart ≡ label_of polygon (next_of surface dart)))

-- Loops are closed walks at the root of the tree, kept as the vertices behind it.

-- a way up the tree to the root from each used vertex, as the vertices behind it
abbrev pub AreWaysUp : OrientedMesh → SplitView → ℕ → (ℕ → List ℕ) → Type 0
AreWaysUp surface split root up =
    (v : ℕ) → is_used surface.mesh v ≡ true → IsPath (StepsToParent (rotations_of surface) split) v (up v) root

-- the walk from u back from its end, as the vertices behind that end
abbrev pub backward : ℕ → List ℕ → List ℕ
backward u [] = []
backward u (v ∷ rest) = backward v rest ++ u ∷ []

-- the loop of a dart: down the tree, along the dart, and up again
abbrev pub dart_loop : OrientedMesh → (ℕ → List ℕ) → ℕ → List ℕ
dart_loop surface up dart =
    backward (origin_of surface dart) (up (origin_of surface dart))
    ++ origin_of surface (twin_of surface dart) ∷ up (origin_of surface (twin_of surface dart))

-- the loop of a spoke: that of spoke 0 is nothing, and the next one goes back along the side between the two first
abbrev pub spoke_loop : OrientedMesh → PolygonView → ℕ → (ℕ → List ℕ) → ℕ → List ℕ
spoke_loop surface polygon root up zero = []
spoke_loop surface polygon root up (suc i) =
    backward root (dart_loop surface up (side_at polygon i)) ++ spoke_loop surface polygon root up i

-- the loop of a list of spokes: along the first, back along the second, and so on; or back along the first
abbrev pub path_loop : OrientedMesh → PolygonView → ℕ → (ℕ → List ℕ) → Bool → List ℕ → List ℕ
path_loop surface polygon root up along [] = []
path_loop surface polygon root up true (i ∷ path) = spoke_loop surface polygon root up i ++ path_loop surface polygon root up false path
path_loop surface polygon root up false (i ∷ path) =
    backward root (spoke_loop surface polygon root up i) ++ path_loop surface polygon root up true path

-- the walk from u to v by way of a loop: up the tree, the loop, and down the tree
abbrev pub by_loop : (ℕ → List ℕ) → ℕ → ℕ → List ℕ → List ℕ
by_loop up u v loop = u ∷ (up u ++ (loop ++ backward v (up v)))

-- the spokes of a walk, where each of its steps has some
abbrev pub spokes_along : (ℕ → ℕ → List ℕ) → List ℕ → List ℕ
spokes_along spokes [] = []
spokes_along spokes (u ∷ []) = []
spokes_along spokes (u ∷ v ∷ walk) = spokes u v ++ spokes_along spokes (v ∷ walk)

-- each dart has its spokes
abbrev pub HaveFreeSpokes : OrientedMesh → PolygonView → (ℕ → ℕ → List ℕ) → Type 0
HaveFreeSpokes surface polygon spokes =
    (u v dart : ℕ) → IsDartFrom (rotations_of surface) u v dart → HasFreeSpokes surface polygon dart (spokes u v)

-- the loop of the last side: along it, and back by the spokes at its head and at its tail, where the one at its head is spoke 0
abbrev pub last_side_loop : OrientedMesh → PolygonView → ℕ → (ℕ → List ℕ) → List ℕ
last_side_loop surface polygon root up =
    dart_loop surface up (last_side polygon) ++ path_loop surface polygon root up true (0 ∷ (polygon.degree - 1) ∷ [])

-- a loop put in at the end of another, and back: there, round, back, and on
abbrev pub put_behind : ℕ → List ℕ → List ℕ → List ℕ → List ℕ
put_behind root there turn more = there ++ (turn ++ (backward root there ++ more))

-- whether so many spokes lead back to the vertex, or to the middle
abbrev pub comes_back : List ℕ → Bool
comes_back [] = true
comes_back (i ∷ path) = not (comes_back path)

-- the way once round the root face, from where a dart of it starts and in its direction
abbrev pub way_round : OrientedMesh → SplitView → ℕ → List ℕ
way_round surface split dart =
    let face = face_at surface.mesh split.root_face in
    corners_from face (not (is_flipped surface.signs split.root_face)) (start_corner_of surface dart) (length face)

-- the same way backward
abbrev pub way_back_round : OrientedMesh → SplitView → ℕ → List ℕ
way_back_round surface split dart = origin_of surface dart ∷ backward (origin_of surface dart) (drop 1 (way_round surface split dart))

-- Pushes across the quad of a side and of the one across from it, whose numbers are c and a: round the middle the spokes a, a + 1 give
-- way to c + 1, c, and round the vertex c + 1, a give way to c, a + 1. The loop stays, up to spurs. Numbers are counted on, so after the
-- last spoke comes one more, and not spoke 0: the quads of the last side are none of these.
pub record ArePushedFreely (surface : OrientedMesh) (polygon : PolygonView) (root : ℕ) (up : ℕ → List ℕ) (a : ℕ) : Type 0 where
  pub round_middle : (before after : List ℕ) → comes_back before ≡ true
      → AreFreelyEqual surface.mesh (root ∷ path_loop surface polygon root up true (before ++ a ∷ (a + 1) ∷ after))
      (root ∷ path_loop surface polygon root up true
      (before ++ (across (rotations_of surface) polygon a + 1) ∷ across (rotations_of surface) polygon a ∷ after))
  pub round_vertex : (before after : List ℕ) → comes_back before ≡ false
      → AreFreelyEqual surface.mesh
      (root ∷ path_loop surface polygon root up true (before ++ (across (rotations_of surface) polygon a + 1) ∷ a ∷ after))
      (root ∷ path_loop surface polygon root up true (before ++ across (rotations_of surface) polygon a ∷ (a + 1) ∷ after))

-- the loop of the one list of spokes is that of the other with the loop of the last side put in behind the first spokes, up to spurs
abbrev pub PutBehind : OrientedMesh → PolygonView → ℕ → (ℕ → List ℕ) → List ℕ → List ℕ → List ℕ → Type 0
PutBehind surface polygon root up front old new =
    AreFreelyEqual surface.mesh (root ∷ path_loop surface polygon root up true new)
    (root ∷ put_behind root (path_loop surface polygon root up true front) (last_side_loop surface polygon root up)
    (path_loop surface polygon root up true old))

-- Pushes across the quad of the last side z and of the side k across from it: each costs the loop of the last side once. Round the middle
-- z, 0 give way to k + 1, k, or k, k + 1 to 0, z; round the vertex k + 1, z give way to k, 0, or 0, k to z, k + 1.
pub record ArePushedWithLoop (surface : OrientedMesh) (polygon : PolygonView) (root : ℕ) (up : ℕ → List ℕ) (z k : ℕ) : Type 0 where
  pub from_last : (before after : List ℕ) → comes_back before ≡ true
      → PutBehind surface polygon root up before (before ++ z ∷ 0 ∷ after) (before ++ (k + 1) ∷ k ∷ after)
  pub to_last : (before after : List ℕ) → comes_back before ≡ true
      → PutBehind surface polygon root up (before ++ k ∷ (k + 1) ∷ []) (before ++ k ∷ (k + 1) ∷ after) (before ++ 0 ∷ z ∷ after)
  pub round_tail : (before after : List ℕ) → comes_back before ≡ false
      → PutBehind surface polygon root up (before ++ (k + 1) ∷ []) (before ++ (k + 1) ∷ z ∷ after) (before ++ k ∷ 0 ∷ after)
  pub round_head : (before after : List ℕ) → comes_back before ≡ false
      → PutBehind surface polygon root up (before ++ z ∷ []) (before ++ 0 ∷ k ∷ after) (before ++ z ∷ (k + 1) ∷ after)
