-- A search over the vertices or over the faces of a surface, across allowed edges: the nodes in the order in which they are found, each
-- by a dart of it that leads back to one found before.
use Rattle.std.specs.Prelude.{◌≡◌, ◌≢◌, ℕ, ◌<◌, true, false, Bool, List, ◌++◌, length, slice_index, slice_index_or, Option, Some, None}
use Rattle.halfedge_map.specs.RotationSystems.{Rotations, around}
use Rattle.tree_cotree.specs.declared.split.Kind.{Kind}
use Rattle.tree_cotree.specs.declared.split.Kind.TheVariants.{Tree, Cotree, Left}
use Rattle.tree_cotree.specs.declared.search.Nodes.{Nodes}
use Rattle.tree_cotree.specs.declared.search.Nodes.TheVariants.{Vertices, Faces}
use Rattle.tree_cotree.specs.declared.search.Edges.{Edges}
use Rattle.tree_cotree.specs.declared.search.Edges.TheVariants.{Every, OfKind}

-- the node that a dart belongs to: where it starts, or its face
abbrev pub node_of : Nodes → Rotations → ℕ → ℕ
node_of Vertices maps = maps.origin
node_of Faces maps = maps.face

-- the dart that follows round the node
abbrev pub next_round_node : Nodes → Rotations → ℕ → ℕ
next_round_node Vertices maps = around maps
next_round_node Faces maps = maps.next

-- what is kept for a number, if anything is: the dart for a node, or the face for an edge
abbrev pub kept_at : List (Option ℕ) → ℕ → Option ℕ
kept_at from v = slice_index_or from v None

-- the node v is among those of an order
pub record IsFound (node : ℕ → ℕ) (order : List ℕ) (v : ℕ) : Type 0 where
  pub place : ℕ
  pub within : place < length order
  pub is : node (slice_index order place) ≡ v

-- the dart x was found, not first, and is one of node v
pub record IsNamed (node : ℕ → ℕ) (order : List ℕ) (v x : ℕ) : Type 0 where
  pub place : ℕ
  pub later : 0 < place
  pub within : place < length order
  pub is : slice_index order place ≡ x
  pub of_node : node x ≡ v

-- the node of the dart at place j was found from one before it
pub record LeadsBack (maps : Rotations) (node : ℕ → ℕ) (order : List ℕ) (j : ℕ) : Type 0 where
  pub place : ℕ
  pub before : place < j
  pub is : node (maps.twin (slice_index order j)) ≡ node (slice_index order place)

-- Darts in the order of a search from a root: no node twice, each but the first across an allowed edge from a node before it, and
-- kept for its node.
pub record IsOrder (maps : Rotations) (node : ℕ → ℕ) (allowed : ℕ → Bool) (bound root : ℕ) (order : List ℕ)
    (from : List (Option ℕ)) : Type 0 where
  pub long : length from ≡ bound
  pub some : 0 < length order
  pub first : node (slice_index order 0) ≡ root
  pub within : (j : ℕ) → j < length order → slice_index order j < maps.darts
  pub fresh : (i j : ℕ) → i < j → j < length order → node (slice_index order i) ≢ node (slice_index order j)
  pub back : (j : ℕ) → 0 < j → j < length order → LeadsBack maps node order j
  pub inside : (j : ℕ) → 0 < j → j < length order → allowed (maps.edge (slice_index order j)) ≡ true
  pub named : (j : ℕ) → 0 < j → j < length order → kept_at from (node (slice_index order j)) ≡ Some (slice_index order j)
  pub only : (v x : ℕ) → kept_at from v ≡ Some x → IsNamed node order v x

-- across each allowed edge of a node the other node is found
abbrev pub IsNodeCrossed : Rotations → (ℕ → ℕ) → (ℕ → Bool) → List ℕ → ℕ → Type 0
IsNodeCrossed maps node allowed order v =
    (d : ℕ) → d < maps.darts → node d ≡ v → allowed (maps.edge d) ≡ true → IsFound node order (node (maps.twin d))

-- What a search gives: an order to which no allowed edge would add a node.
pub record IsSearched (maps : Rotations) (node : ℕ → ℕ) (allowed : ℕ → Bool) (bound root : ℕ) (from : List (Option ℕ)) : Type 0 where
  pub order : List ℕ
  pub is_order : IsOrder maps node allowed bound root order from
  pub closed : (j : ℕ) → j < length order → IsNodeCrossed maps node allowed order (node (slice_index order j))

-- the darts of the nodes found since are put last, both to the order and to those that wait
pub record AreAdded (old waited new waiting : List ℕ) : Type 0 where
  pub added : List ℕ
  pub order : new ≡ old ++ added
  pub waits : waiting ≡ waited ++ added

-- whether two kinds are one
abbrev pub same_kind : Kind → Kind → Bool
same_kind Tree Tree = true
same_kind Cotree Cotree = true
same_kind Left Left = true
same_kind _ _ = false

-- the edges of a kind
abbrev pub has_kind : List Kind → Kind → ℕ → Bool
has_kind kinds kind e = same_kind (slice_index_or kinds e Tree) kind

-- the edges that a search may cross
abbrev pub is_allowed : Edges → List Kind → ℕ → Bool
is_allowed Every kinds = λ e. true
is_allowed (OfKind kind) kinds = has_kind kinds kind

-- each dart belongs to a node below the bound
abbrev pub AreBelow : Rotations → (ℕ → ℕ) → ℕ → Type 0
AreBelow maps node bound = (d : ℕ) → d < maps.darts → node d < bound
