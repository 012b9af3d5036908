-- Splits: the edges of a surface coloured as a tree over its vertices, a cotree over its faces, and the leftover edges
-- (the tree-cotree decomposition).
use Rattle.std.specs.Prelude.{◌≡◌, ◌⊎◌, ◌↔◌, ℕ, ◌*◌, ◌<◌, Bool, true, false, List, length, slice_index_or, Option, Some, None}
use Rattle.surf_model.specs.FaceLists.{is_used}
use Rattle.surf_model.specs.Surfaces.{AreJoined}
use Rattle.surf_model.specs.Numbers.{count_below}
use Rattle.halfedge_map.specs.OrientedMeshes.{OrientedMesh}
use Rattle.halfedge_map.specs.RotationSystems.{Rotations, rotations_of}
use Rattle.tree_cotree.specs.SpanningTrees.{IsSpanningTree}
use Rattle.tree_cotree.specs.declared.split.Kind.{Kind}
use Rattle.tree_cotree.specs.declared.split.Kind.TheVariants.{Tree, Cotree, Left}

-- what a split tells: the kind of each edge, for each vertex a dart to its parent, for each edge the face below it, the root of the
-- cotree, and the genus
pub record SplitView : Type 0 where
  pub kinds : List Kind
  pub parents : List (Option ℕ)
  pub children : List (Option ℕ)
  pub root_face : ℕ
  pub genus : ℕ

abbrev pub kind_of : SplitView → ℕ → Kind
kind_of split e = slice_index_or split.kinds e Tree

abbrev pub is_tree_kind : Kind → Bool
is_tree_kind Tree = true
is_tree_kind Cotree = false
is_tree_kind Left = false

abbrev pub is_cotree_kind : Kind → Bool
is_cotree_kind Tree = false
is_cotree_kind Cotree = true
is_cotree_kind Left = false

abbrev pub is_left_kind : Kind → Bool
is_left_kind Tree = false
is_left_kind Cotree = false
is_left_kind Left = true

-- the three sets of edges
abbrev pub in_tree : SplitView → ℕ → Bool
in_tree split e = is_tree_kind (kind_of split e)

abbrev pub in_cotree : SplitView → ℕ → Bool
in_cotree split e = is_cotree_kind (kind_of split e)

abbrev pub is_left : SplitView → ℕ → Bool
is_left split e = is_left_kind (kind_of split e)

-- the dart from a vertex to its parent
abbrev pub parent_dart : SplitView → ℕ → Option ℕ
parent_dart split v = slice_index_or split.parents v None

-- the face below an edge
abbrev pub below_edge : SplitView → ℕ → Option ℕ
below_edge split e = slice_index_or split.children e None

-- the dart to the parent of u leads to v
pub record IsParentStep (maps : Rotations) (split : SplitView) (u v dart : ℕ) : Type 0 where
  pub is_parent : parent_dart split u ≡ Some dart
  pub ends : maps.origin (maps.twin dart) ≡ v

abbrev pub StepsToParent : Rotations → SplitView → ℕ → ℕ → Type 0
StepsToParent maps split u v = (dart : ℕ) × IsParentStep maps split u v dart

-- The parents of the vertices: a tree dart leads from each used vertex but the root to its parent, and following the parents from
-- any used vertex ends at the root.
pub record HasParents (surface : OrientedMesh) (split : SplitView) : Type 0 where
  pub root : ℕ
  pub root_used : is_used surface.mesh root ≡ true
  pub each_vertex : length split.parents ≡ surface.mesh.count
  pub none : (v : ℕ) → v < surface.mesh.count → (parent_dart split v ≡ None) ↔ ((v ≡ root) ⊎ (is_used surface.mesh v ≡ false))
  pub within : (v dart : ℕ) → parent_dart split v ≡ Some dart → dart < (rotations_of surface).darts
  pub starts : (v dart : ℕ) → parent_dart split v ≡ Some dart → (rotations_of surface).origin dart ≡ v
  pub tree_dart : (v dart : ℕ) → parent_dart split v ≡ Some dart → in_tree split ((rotations_of surface).edge dart) ≡ true
  pub to_root : (v : ℕ) → is_used surface.mesh v ≡ true → AreJoined (StepsToParent (rotations_of surface) split) v root

-- the dart lies in the face f, which is below its edge, and its twin in the face g
pub record IsStepUp (maps : Rotations) (split : SplitView) (f g dart : ℕ) : Type 0 where
  pub within : dart < maps.darts
  pub below : below_edge split (maps.edge dart) ≡ Some f
  pub inside : maps.face dart ≡ f
  pub leads : maps.face (maps.twin dart) ≡ g

abbrev pub StepsUp : Rotations → SplitView → ℕ → ℕ → Type 0
StepsUp maps split f g = (dart : ℕ) × IsStepUp maps split f g dart

-- The faces below the cotree edges: below each cotree edge lies one of its two faces, no face lies below two, the root below none, and
-- going up from any face ends at the root.
pub record HasChildFaces (surface : OrientedMesh) (split : SplitView) : Type 0 where
  pub root_below : split.root_face < length surface.mesh.faces
  pub each_edge : length split.children ≡ length surface.table
  pub none : (e : ℕ) → e < length surface.table → (below_edge split e ≡ None) ↔ (in_cotree split e ≡ false)
  pub step : (e f : ℕ) → below_edge split e ≡ Some f
      → (dart : ℕ) × (dart < (rotations_of surface).darts) × ((rotations_of surface).edge dart ≡ e) × ((rotations_of surface).face dart ≡ f)
  pub once : (d e f : ℕ) → below_edge split d ≡ Some f → below_edge split e ≡ Some f → d ≡ e
  pub not_root : (e : ℕ) → below_edge split e ≡ Some split.root_face → ⊥
  pub to_root : (f : ℕ) → f < length surface.mesh.faces → AreJoined (StepsUp (rotations_of surface) split) f split.root_face

-- the tree edges span the used vertices without a cycle, and the cotree edges the faces
pub record HasTrees (surface : OrientedMesh) (split : SplitView) : Type 0 where
  pub each_edge : length split.kinds ≡ length surface.table
  pub tree :
      IsSpanningTree (rotations_of surface) (rotations_of surface).origin (is_used surface.mesh) surface.mesh.count (length surface.table)
      (in_tree split)
  pub cotree :
      IsSpanningTree (rotations_of surface) (rotations_of surface).face (λ f. true) (length surface.mesh.faces) (length surface.table)
      (in_cotree split)

-- A split of a surface: its tree edges span the used vertices without a cycle, its cotree edges the faces, the others are
-- leftover, and these are twice as many as the genus says. The root face has a leftover dart where there is one.
pub record IsSplit (surface : OrientedMesh) (split : SplitView) : Type 0 where
  pub trees : HasTrees surface split
  pub parents : HasParents surface split
  pub child_faces : HasChildFaces surface split
  pub root_left : (d : ℕ) → d < (rotations_of surface).darts → is_left split ((rotations_of surface).edge d) ≡ true
      → (e : ℕ) × (e < (rotations_of surface).darts) × (is_left split ((rotations_of surface).edge e) ≡ true)
      × ((rotations_of surface).face e ≡ split.root_face)
  pub genus : count_below (is_left split) (length surface.table) ≡ 2 * split.genus
