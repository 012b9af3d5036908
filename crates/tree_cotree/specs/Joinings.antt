-- Edges that join the nodes of a surface, its vertices or its faces, and those of them that are given a kind until they span the nodes.
use Rattle.std.specs.Prelude.{◌≡◌, ◌≢◌, ℕ, ◌<◌, true, false, Bool, List, length, slice_index, slice_index_or}
use Rattle.std.proofs.Math.ListN.{set}
use Rattle.surf_model.specs.FaceLists.{is_used}
use Rattle.surf_model.specs.Surfaces.{AreJoined}
use Rattle.connectivity.specs.Classes.{joined_at}
use Rattle.halfedge_map.specs.OrientedMeshes.{OrientedMesh}
use Rattle.halfedge_map.specs.RotationSystems.{Rotations, rotations_of}
use Rattle.tree_cotree.specs.SpanningTrees.{StepsIn, IsSpanningTree}
use Rattle.tree_cotree.specs.declared.split.Kind.{Kind}
use Rattle.tree_cotree.specs.declared.split.Kind.TheVariants.{Tree, Cotree, Left}
use Rattle.tree_cotree.specs.declared.search.Nodes.{Nodes}
use Rattle.tree_cotree.specs.declared.search.Nodes.TheVariants.{Vertices, Faces}
use Rattle.tree_cotree.specs.Searches.{node_of, has_kind}

-- the numbers that are nodes lie below a bound: the used vertices, or all faces
abbrev pub bound_of : Nodes → OrientedMesh → ℕ
bound_of Vertices surface = surface.mesh.count
bound_of Faces surface = length surface.mesh.faces

abbrev pub is_node_of : Nodes → OrientedMesh → ℕ → Bool
is_node_of Vertices surface = is_used surface.mesh
is_node_of Faces surface = λ f. true

-- the kind of the edges that span the nodes: a tree over the vertices, a cotree over the faces
abbrev pub kind_over : Nodes → Kind
kind_over Vertices = Tree
kind_over Faces = Cotree

-- a dart of the edge leads from the node x to the node y
pub record AreEnds (maps : Rotations) (node : ℕ → ℕ) (edge x y : ℕ) : Type 0 where
  pub dart : ℕ
  pub within : dart < maps.darts
  pub on_edge : maps.edge dart ≡ edge
  pub starts : node dart ≡ x
  pub ends : node (maps.twin dart) ≡ y

-- any two nodes are joined across edges of a set
abbrev pub HangTogether : Rotations → (ℕ → ℕ) → (ℕ → Bool) → Type 0
HangTogether maps node inside = (d e : ℕ) → d < maps.darts → e < maps.darts → AreJoined (StepsIn maps node inside) (node d) (node e)

-- The classes of the two nodes of an edge become one. If they were two, the edge is given a kind; else all kinds stay.
pub record AreJoinedAcross (surface : OrientedMesh) (nodes : Nodes) (kind : Kind) (edge : ℕ) (least more : List ℕ) (old new : List Kind)
    : Type 0 where
  pub x : ℕ
  pub y : ℕ
  pub ends : AreEnds (rotations_of surface) (node_of nodes (rotations_of surface)) edge x y
  pub joined : more ≡ joined_at least x y
  pub apart : slice_index least x ≢ slice_index least y → new ≡ set old edge kind
  pub same : slice_index least x ≡ slice_index least y → new ≡ old

-- a leftover edge is tried so; at another edge all stays as it is
pub record IsEdgeTried (surface : OrientedMesh) (nodes : Nodes) (kind : Kind) (edge : ℕ) (least more : List ℕ) (old new : List Kind)
    : Type 0 where
  pub left : has_kind old Left edge ≡ true → AreJoinedAcross surface nodes kind edge least more old new
  pub other : has_kind old Left edge ≡ false → (more ≡ least) × (new ≡ old)

-- some leftover edges are given a kind, and the edges of this kind span the nodes
pub record AreSpanned (surface : OrientedMesh) (nodes : Nodes) (kind : Kind) (old new : List Kind) : Type 0 where
  pub long : length new ≡ length old
  pub spans :
      IsSpanningTree (rotations_of surface) (node_of nodes (rotations_of surface)) (is_node_of nodes surface) (bound_of nodes surface)
      (length surface.table) (has_kind new kind)
  pub were_left : (e : ℕ) → e < length surface.table → has_kind new kind e ≡ true → has_kind old Left e ≡ true
  pub others : (e : ℕ) → has_kind new kind e ≡ false → slice_index_or new e Tree ≡ slice_index_or old e Tree
