-- Classes of walks that lie in arrays, and why there are none.
use Rattle.std.specs.Prelude.{◌≡◌, ◌≢◌, ℕ, ◌<◌, ◌≤◌, ⊤, List, length, map, sum, Some, None}
use Rattle.std.specs.List.{range_with_len}
use Rattle.surf_model.specs.FaceLists.{FaceList}
use Rattle.compact_surfaces.specs.CompactSurfaces.{IsCompactSurface}
use Rattle.walk_classes.specs.WalkClasses.{AreClasses}
use Rattle.homotopy_arrays.specs.Pairs.{AreWalks, length_fault, walk_in_arrays, two_walks_fault}
use Rattle.homotopy_arrays.specs.declared.classes.NoClasses.{NoClasses}
use Rattle.homotopy_arrays.specs.declared.classes.NoClasses.TheVariants.{Count, Walk, OutOfMemory}

-- the first so many of the walks that have these sizes and these vertices, walk after walk
abbrev pub first_walks : (sizes vertices : List ℕ) → ℕ → List (List ℕ)
first_walks sizes vertices count = map (walk_in_arrays sizes vertices) (range_with_len 0 count)

-- all of them
abbrev pub walks_in_arrays : (sizes vertices : List ℕ) → List (List ℕ)
walks_in_arrays sizes vertices = first_walks sizes vertices (length sizes)

-- a walk of the mesh that has not too many vertices
abbrev pub IsWalkIn : FaceList → List ℕ → Type 0
IsWalkIn mesh walk = AreWalks mesh walk walk

-- walks of the mesh, none of which has too many vertices, and for each the number of its class
pub record AreClassesIn (mesh : FaceList) (sizes vertices given : List ℕ) : Type 0 where
  pub are_walks : (k : ℕ) → k < length sizes → IsWalkIn mesh (walk_in_arrays sizes vertices k)
  pub classes : AreClasses mesh (walks_in_arrays sizes vertices) given

-- the first list that is no such walk
pub record IsFirstNone (mesh : FaceList) (sizes vertices : List ℕ) (place : ℕ) : Type 0 where
  pub within : place < length sizes
  pub none : IsWalkIn mesh (walk_in_arrays sizes vertices place) → ⊥
  pub before : (k : ℕ) → k < place → IsWalkIn mesh (walk_in_arrays sizes vertices k)

-- the sizes are not those of the vertices; or a list is the first that is no walk, and this is first wrong with it, as with both walks of a
-- pair; or memory is wanting
abbrev pub IsNoClassesIn : FaceList → (sizes vertices : List ℕ) → NoClasses → Type 0
IsNoClassesIn mesh sizes vertices Count = sum sizes ≢ length vertices
IsNoClassesIn mesh sizes vertices (Walk place fault) =
    (sum sizes ≡ length vertices) × IsFirstNone mesh sizes vertices place
    × (two_walks_fault mesh (walk_in_arrays sizes vertices place) (walk_in_arrays sizes vertices place) ≡ Some fault)
IsNoClassesIn mesh sizes vertices OutOfMemory = ⊤

-- the mesh is a compact surface, and the walks are walks of it with their classes
pub record AreClassed (mesh : FaceList) (walk_sizes walk_vertices given : List ℕ) : Type 0 where
  pub surface : IsCompactSurface mesh
  pub sizes : sum walk_sizes ≡ length walk_vertices
  pub classes : AreClassesIn mesh walk_sizes walk_vertices given

-- ---- while they are found

-- the first walks, up to the first that has no vertex or too many
pub record AreCut (sizes vertices : List ℕ) (walks : List (List ℕ)) : Type 0 where
  pub within : length walks ≤ length sizes
  pub are : walks ≡ first_walks sizes vertices (length walks)
  pub good : (k : ℕ) → k < length walks → length_fault 1 (walk_in_arrays sizes vertices k) ≡ None
  pub ended : length walks < length sizes → length_fault 1 (walk_in_arrays sizes vertices (length walks)) ≢ None
