-- Walks with the loop of the last side put in.
use Rattle.std.specs.Prelude.{◌≡◌, ℕ, ◌+◌, ◌*◌, ◌<◌, ◌≤◌, ◌^◌, Bool, true, if◌then◌else◌, List, length, slice_index, All}
use Rattle.surf_model.specs.FreeWalks.{AreFreelyEqual}
use Rattle.surf_model.specs.Replacements.{place_of_move}
use Rattle.surf_model.specs.Vertices.{numbers}
use Rattle.surf_model.specs.declared.moves.Move.{Move}
use Rattle.surf_model.specs.declared.names.VertexName.{VertexName}
use Rattle.halfedge_map.specs.OrientedMeshes.{OrientedMesh}
use Rattle.tree_cotree.specs.Splits.{SplitView}
use Rattle.polygon_cut.specs.Polygons.{PolygonView}
use Rattle.polygon_cut.specs.SpokeLoops.{AreWaysUp, backward, by_loop, path_loop, last_side_loop, put_behind}
use Rattle.move_lifting.specs.Tracks.{last_of}
use Rattle.move_lifting.specs.declared.lifted.Lifted.{Lifted}

-- The approach leads from where the walk starts to where the turn starts and ends; each move of the turn is within its walks; and no walk
-- on the way, with so many entries behind it, has 2^31 entries.
pub record IsApproach (walk : List ℕ) (turn : Lifted) (behind : ℕ) (approach : List VertexName) : Type 0 where
  pub some : 0 < length walk
  pub some_approach : 0 < length approach
  pub starts : slice_index (numbers approach) 0 ≡ slice_index walk 0
  pub meets : slice_index turn.walk 0 ≡ last_of (numbers approach)
  pub closed : last_of turn.walk ≡ last_of (numbers approach)
  pub places : All (λ (mv : Move). place_of_move mv ≤ turn.moves.peak) turn.moves.moves
  pub room : 2 * length approach + length walk + length turn.walk + behind + turn.moves.peak < 2 ^ 31

-- the loop of the last side, or the way back along it
abbrev pub signed_loop : OrientedMesh → PolygonView → ℕ → (ℕ → List ℕ) → Bool → List ℕ
signed_loop surface polygon root ways up =
    if up then backward root (last_side_loop surface polygon root ways) else last_side_loop surface polygon root ways

-- Up to spurs, the walk is closed and is the loop of the spokes, with the way up the tree before it and the way down behind it.
abbrev pub IsFreelyPath : OrientedMesh → SplitView → PolygonView → List ℕ → List ℕ → Type 0
IsFreelyPath surface split polygon path walk =
    (root : ℕ) (ways : ℕ → List ℕ) → AreWaysUp surface split root ways
    → AreFreelyEqual surface.mesh walk
    (by_loop ways (slice_index walk 0) (slice_index walk 0) (path_loop surface polygon root ways true path))

-- Where the one walk is the loop of some spokes, up to spurs, the other walk, from the same vertex, is that loop with the loop of the last
-- side put in behind the spokes in front, or where it goes up the way back along it.
abbrev pub HasLoopIn : OrientedMesh → SplitView → PolygonView → List ℕ → Bool → List ℕ → List ℕ → Type 0
HasLoopIn surface split polygon front up old new =
    (root : ℕ) (ways : ℕ → List ℕ) (path : List ℕ) → AreWaysUp surface split root ways → All (λ spoke. spoke < polygon.degree) path
    → AreFreelyEqual surface.mesh old (by_loop ways (slice_index old 0) (slice_index old 0) (path_loop surface polygon root ways true path))
    → AreFreelyEqual surface.mesh new
    (by_loop ways (slice_index old 0) (slice_index old 0)
    (put_behind root (path_loop surface polygon root ways true front) (signed_loop surface polygon root ways up)
    (path_loop surface polygon root ways true path)))
