-- The first condition of a compact surface that fails, with its least element; or that what answers for it is larger than a mesh may be.
use Rattle.std.specs.Prelude.{◌≡◌, ◌⊎◌, ℕ, ◌<◌, Bool, List, length}
use Rattle.surf_model.specs.FaceLists.{FaceList, HasFileSize}
use Rattle.surf_model.specs.Surfaces.{IsOrientable}
use Rattle.connectivity.specs.Joined.{NoEdgeHasThreeSides, IsLeastPinch}
use Rattle.free_forms.specs.OpenSurfaces.{HasBoundary}
use Rattle.free_forms.specs.OpenFaults.{IsOpenEdgeFault}
use Rattle.doubling.specs.DoubleFaults.{IsBeyond, IsTooLarge}
use Rattle.doubling.specs.declared.fault.DoubleFault.{DoubleFault}
use Rattle.orientation_cover.specs.Turns.{cover_by}
use Rattle.orientation_cover.specs.Ways.{AreWays}
use Rattle.compact_surfaces.specs.CompactSurfaces.{IsCompactSurface, IsClosedFor}
use Rattle.compact_surfaces.specs.declared.fault.CompactFault.{CompactFault}
use Rattle.compact_surfaces.specs.declared.fault.CompactFault.TheVariants.{NoFace, EdgeSides, Pinched, Double, Cover, OutOfMemory}

-- a vertex is pinched, where there is a face and no edge has three sides
pub record IsCompactPinchFault (mesh : FaceList) (v : ℕ) : Type 0 where
  pub some_face : 0 < length mesh.faces
  pub few_sides : NoEdgeHasThreeSides mesh
  pub vertex : IsLeastPinch mesh v

-- the double of a surface with boundary is beyond a limit
pub record IsDoubleFault (mesh : FaceList) (fault : DoubleFault) : Type 0 where
  pub compact : IsCompactSurface mesh
  pub boundary : HasBoundary mesh
  pub beyond : IsBeyond mesh fault

-- a closed manifold has no coherent signs, and its cover is beyond a limit
pub record IsCoverBeyond (closed : FaceList) (fault : DoubleFault) : Type 0 where
  pub twisted : IsOrientable closed → ⊥
  pub bits : List Bool
  pub ways : AreWays closed bits
  pub beyond : IsTooLarge (cover_by closed bits) fault

-- the cover of what answers for a surface is beyond a limit, and that is not
pub record IsCoverFault (mesh : FaceList) (fault : DoubleFault) : Type 0 where
  pub compact : IsCompactSurface mesh
  pub closed : FaceList
  pub answers : IsClosedFor mesh closed
  pub fits : HasFileSize closed
  pub cover : IsCoverBeyond closed fault

-- a condition of a compact surface fails
abbrev pub IsConditionFault : FaceList → CompactFault → Type 0
IsConditionFault mesh NoFace = length mesh.faces ≡ 0
IsConditionFault mesh (EdgeSides low high sides) = IsOpenEdgeFault mesh low.0 high.0 sides
IsConditionFault mesh (Pinched vertex) = IsCompactPinchFault mesh vertex.0
IsConditionFault mesh (Double fault) = ⊥
IsConditionFault mesh (Cover fault) = ⊥
IsConditionFault mesh OutOfMemory = ⊥

-- what answers for a compact surface is beyond a limit
abbrev pub IsLimitFault : FaceList → CompactFault → Type 0
IsLimitFault mesh (Double fault) = IsDoubleFault mesh fault
IsLimitFault mesh (Cover fault) = IsCoverFault mesh fault
IsLimitFault mesh NoFace = ⊥
IsLimitFault mesh (EdgeSides low high sides) = ⊥
IsLimitFault mesh (Pinched vertex) = ⊥
IsLimitFault mesh OutOfMemory = ⊥

-- a condition fails, or the double is beyond a limit: what is wrong before a cover is made
abbrev pub IsUncoveredFault : FaceList → CompactFault → Type 0
IsUncoveredFault mesh fault =
    IsConditionFault mesh fault ⊎ ((limit : DoubleFault) × (fault ≡ Double limit) × IsDoubleFault mesh limit)

-- the condition of the fault is the first that fails, or its limit is the first; want of memory is no fault of the mesh
abbrev pub IsFirstCompactFault : FaceList → CompactFault → Type 0
IsFirstCompactFault mesh fault = IsConditionFault mesh fault ⊎ IsLimitFault mesh fault

-- what was to be made is beyond a limit, told so, or memory is wanting
abbrev pub IsFaultBehind : (DoubleFault → CompactFault) → (DoubleFault → Type 0) → CompactFault → Type 0
IsFaultBehind told IsLimit fault = (fault ≡ OutOfMemory) ⊎ ((limit : DoubleFault) × (fault ≡ told limit) × IsLimit limit)
