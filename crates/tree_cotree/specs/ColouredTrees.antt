-- Edges that are coloured with no ways to a root: what a colouring by joined classes has before a split is known to which it belongs.
use Rattle.std.specs.Prelude.{◌≡◌, ℕ, ◌*◌, ◌<◌, true, [], length}
use Rattle.surf_model.specs.Numbers.{count_below}
use Rattle.halfedge_map.specs.OrientedMeshes.{OrientedMesh}
use Rattle.halfedge_map.specs.RotationSystems.{rotations_of}
use Rattle.tree_cotree.specs.Splits.{SplitView, HasTrees, is_left}
use Rattle.tree_cotree.specs.Colourings.{ColouringView}

-- the split that a colouring would be, with no ways in it
abbrev pub without_ways : ColouringView → SplitView
without_ways colouring =
    record { kinds = colouring.kinds; parents = []; children = []; root_face = colouring.root_face; genus = colouring.genus }

-- The tree edges span the used vertices, the cotree edges the faces, the leftover edges are twice as many as the genus says, and the
-- root face has a leftover dart where there is one.
pub record HasColouredTrees (surface : OrientedMesh) (colouring : ColouringView) : Type 0 where
  pub trees : HasTrees surface (without_ways colouring)
  pub root_below : colouring.root_face < length surface.mesh.faces
  pub root_left : (d : ℕ) → d < (rotations_of surface).darts
      → is_left (without_ways colouring) ((rotations_of surface).edge d) ≡ true
      → (e : ℕ) × (e < (rotations_of surface).darts)
      × (is_left (without_ways colouring) ((rotations_of surface).edge e) ≡ true)
      × ((rotations_of surface).face e ≡ colouring.root_face)
  pub genus : count_below (is_left (without_ways colouring)) (length surface.table) ≡ 2 * colouring.genus
