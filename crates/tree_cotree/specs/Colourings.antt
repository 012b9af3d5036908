-- Colourings: the kind of each edge in some split of a surface, its root face and its genus, without the ways to the roots.
use Rattle.std.specs.Prelude.{◌≡◌, ℕ, List}
use Rattle.halfedge_map.specs.OrientedMeshes.{OrientedMesh}
use Rattle.tree_cotree.specs.Splits.{SplitView, IsSplit}
use Rattle.tree_cotree.specs.declared.split.Kind.{Kind}

-- what a colouring tells: the kind of each edge, the root of the cotree, and the genus
pub record ColouringView : Type 0 where
  pub kinds : List Kind
  pub root_face : ℕ
  pub genus : ℕ

-- what a split tells without its ways
abbrev pub colouring_of : SplitView → ColouringView
colouring_of split = record { kinds = split.kinds; root_face = split.root_face; genus = split.genus }

-- A colouring of a surface: what some split of it tells without its ways.
pub record IsColouring (surface : OrientedMesh) (colouring : ColouringView) : Type 0 where
  pub split : SplitView
  pub is_split : IsSplit surface split
  pub tells : colouring_of split ≡ colouring
