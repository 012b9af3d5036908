-- The spokes of all darts of a mesh, as they are kept for many walks.
use Rattle.std.specs.Prelude.{◌≡◌, ℕ, ◌+◌, ◌*◌, ◌<◌, List, length, slice_index_or, Option, None}
use Rattle.surf_model.specs.FaceLists.{FaceList}
use Rattle.surf_model.specs.Edges.{Edge, edge_in}
use Rattle.surf_model.specs.declared.names.Spoke.{Spoke}
use Rattle.labellings.specs.Labellings.{LabellingView}
use Rattle.labellings.specs.QuadPaths.{spokes}
use Rattle.labellings.specs.Spokes.{spoke_list}

-- the spokes that are kept under a number
abbrev pub spokes_kept_at : List (Option (Spoke × Spoke)) → ℕ → Option (Spoke × Spoke)
spokes_kept_at kept number = slice_index_or kept number None

-- kept are the spokes of both darts along each edge of which the number is below `n`, those of the dart from its lower vertex to its
-- higher one before those of the dart back, and no others
pub record AreSpokesBelow (mesh : FaceList) (labelling : LabellingView) (table : List Edge) (n : ℕ) (kept : List (Option (Spoke × Spoke)))
    : Type 0 where
  pub two_each : length kept ≡ 2 * n
  pub there : (k : ℕ) → k < n
      → spokes mesh labelling (edge_in table k).low (edge_in table k).high ≡ spoke_list (spokes_kept_at kept (2 * k))
  pub back : (k : ℕ) → k < n
      → spokes mesh labelling (edge_in table k).high (edge_in table k).low ≡ spoke_list (spokes_kept_at kept (2 * k + 1))

-- kept are the spokes of all darts
abbrev pub AreSpokesOf : FaceList → LabellingView → List Edge → List (Option (Spoke × Spoke)) → Type 0
AreSpokesOf mesh labelling table kept = AreSpokesBelow mesh labelling table (length table) kept
