-- What is told of meshes that are kept. What a handle holds is a mesh, or nothing.
use Rattle.std.specs.Prelude.{◌≡◌, ℕ, List, Option, Some, None, Result, Ok, Err}
use Rattle.std.specs.Global.{Box}
use Rattle.surf_model.specs.FaceLists.{FaceList}
use Rattle.compact_surfaces.specs.CompactSurfaces.{IsCompactSurface, IsOrientableCompactSurface}
use Rattle.homotopy_arrays.specs.Compact.{IsCompactFault, IsCompactKept}
use Rattle.homotopy_arrays.specs.Decisions.{AreAnsweredOn, IsAskedFault, IsKept}
use Rattle.homotopy_arrays.specs.Loops.{IsLoopAnswer}
use Rattle.homotopy_arrays.specs.Pairs.{IsAnswer}
use Rattle.homotopy_arrays.specs.Surfaces.{EndsOn, IsSurfaceFault}
use Rattle.homotopy_arrays.specs.declared.fault.Fault.{Fault}
use Rattle.homotopy_c.specs.Outcomes.{byte_of, done, loop_byte, no_mesh, told_fault}
use Rattle.homotopy_c.specs.Told.{IsBytesCall, IsClassesCall}
use Rattle.homotopy_c.specs.declared.outcome.Outcome.{Outcome}

-- how it ended is told: the handle holds the mesh; or what is wrong, and it holds what it held
abbrev pub TellsKept : Result FaceList Fault → (old new : Option FaceList) → Outcome → Type 0
TellsKept (Ok kept) old new outcome = (new ≡ Some kept) × (outcome ≡ done)
TellsKept (Err fault) old new outcome = (new ≡ old) × (outcome ≡ told_fault fault)

-- `read` is the mesh that the arrays are, or what is first wrong with them
pub record IsMeshNewCall (read : Result FaceList Fault) (old new : Option FaceList) (outcome : Outcome) : Type 0 where
  pub end : Result FaceList Fault
  pub right : EndsOn read IsKept IsSurfaceFault end
  pub tells : TellsKept end old new outcome

-- the same of any compact surface
pub record IsMeshNewAnyCall (read : Result FaceList Fault) (old new : Option FaceList) (outcome : Outcome) : Type 0 where
  pub end : Result FaceList Fault
  pub right : EndsOn read IsCompactKept IsCompactFault end
  pub tells : TellsKept end old new outcome

-- how the making of a mesh on the heap ended is told
abbrev pub TellsHeld : Result (Box FaceList) Fault → (old new : Option FaceList) → Outcome → Type 0
TellsHeld (Ok kept) old new outcome = TellsKept (Ok kept.value) old new outcome
TellsHeld (Err fault) old new outcome = TellsKept (Err fault) old new outcome

-- answers on pairs of walks on a compact surface of a kind
abbrev pub IsAskedCall : {A : Type 0} → (FaceList → Type 0) → (FaceList → (first second : List ℕ) → A → Type 0) → (A → ℕ) → FaceList
    → (sizes vertices old answers : List ℕ) → Outcome → Type 0
IsAskedCall IsSurface Is byte mesh sizes vertices old answers outcome =
    IsBytesCall byte
    (EndsOn (Ok mesh) (λ m given. AreAnsweredOn IsSurface Is sizes vertices m given.items) (IsAskedFault IsSurface sizes vertices)) sizes
    old answers outcome

-- the answers on pairs of walks on the mesh that is held
abbrev pub IsMeshAnswersCall : {A : Type 0} → (FaceList → Type 0) → (FaceList → (first second : List ℕ) → A → Type 0) → (A → ℕ)
    → (held : Option FaceList) → (sizes vertices old answers : List ℕ) → Outcome → Type 0
IsMeshAnswersCall IsSurface Is byte (Some mesh) sizes vertices old answers outcome =
    IsAskedCall IsSurface Is byte mesh sizes vertices old answers outcome
IsMeshAnswersCall IsSurface Is byte None sizes vertices old answers outcome = (answers ≡ old) × (outcome ≡ no_mesh)

-- whether walks are homotopic on it
abbrev pub IsMeshDecideCall : (held : Option FaceList) → (sizes vertices old answers : List ℕ) → Outcome → Type 0
IsMeshDecideCall held sizes vertices old answers outcome =
    IsMeshAnswersCall IsCompactSurface IsAnswer byte_of held sizes vertices old answers outcome

-- whether closed walks on it are freely homotopic, where it is orientable
abbrev pub IsMeshLoopsCall : (held : Option FaceList) → (sizes vertices old answers : List ℕ) → Outcome → Type 0
IsMeshLoopsCall held sizes vertices old answers outcome =
    IsMeshAnswersCall IsOrientableCompactSurface IsLoopAnswer loop_byte held sizes vertices old answers outcome

-- the classes of walks on the mesh that is held
abbrev pub IsMeshClassesCall : (held : Option FaceList) → (sizes vertices old classes : List ℕ) → Outcome → Type 0
IsMeshClassesCall (Some mesh) sizes vertices old classes outcome = IsClassesCall mesh sizes vertices old classes outcome
IsMeshClassesCall None sizes vertices old classes outcome = (classes ≡ old) × (outcome ≡ no_mesh)
