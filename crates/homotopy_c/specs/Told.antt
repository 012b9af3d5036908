-- What calls write where their caller sees it.
use Rattle.std.specs.Prelude.{◌≡◌, ℕ, ◌/◌, ◌<◌, ◌≤◌, List, ◌++◌, length, drop, map, Result, Ok, Err, MatchResult}
use Rattle.std.specs.Global.{Vec}
use Rattle.surf_model.specs.FaceLists.{FaceList}
use Rattle.homotopy_arrays.specs.Classes.{AreClassed, IsNoClassesIn}
use Rattle.homotopy_arrays.specs.Compact.{AreDecidedOnAny, IsDecideAnyFault}
use Rattle.homotopy_arrays.specs.Decisions.{AreAnswered, IsDecideFault}
use Rattle.homotopy_arrays.specs.Pairs.{IsAnswer}
use Rattle.homotopy_arrays.specs.Surfaces.{EndsOn, IsMeasureOf, IsSurfaceFault}
use Rattle.homotopy_arrays.specs.declared.classes.NoClasses.{NoClasses}
use Rattle.homotopy_arrays.specs.declared.fault.Fault.{Fault}
use Rattle.homotopy_arrays.specs.declared.surface.Measured.{Measured}
use Rattle.homotopy_c.specs.Outcomes.{byte_of, done, short_room, told_fault, told_no_classes}
use Rattle.homotopy_c.specs.declared.outcome.Outcome.{Outcome}
use Rattle.homotopy_c.specs.declared.surface.SurfaceNumbers.{SurfaceNumbers}

-- an array in front of which this was written
abbrev pub in_front : {T : Type 0} → List T → List T → List T
in_front put old = put ++ drop (length put) old

-- This was written in front of the array, with this outcome; where there is too little room nothing is, and the length that is wanted is
-- told.
pub record IsPut {T : Type 0} (items old new : List T) (put outcome : Outcome) : Type 0 where
  pub room : length items ≤ length old → (new ≡ in_front items old) × (outcome ≡ put)
  pub short : length old < length items → (new ≡ old) × (outcome ≡ short_room (length items))

-- ---- surfaces

abbrev pub surface_numbers_of : Measured → SurfaceNumbers
surface_numbers_of measured =
    record {
      vertices = measured.numbers.vertices;
      edges = measured.numbers.edges;
      faces = measured.numbers.faces;
      euler = measured.numbers.euler;
      components = length measured.genera.items;
    }

-- how the question ended is told: the numbers and the genera; or what is wrong, and nothing else is written
abbrev pub TellsSurface : Result Measured Fault → (old_numbers numbers : SurfaceNumbers) → (old_genera genera : List ℕ) → Outcome → Type 0
TellsSurface (Ok measured) old_numbers numbers old_genera genera outcome =
    (numbers ≡ surface_numbers_of measured) × IsPut measured.genera.items old_genera genera done outcome
TellsSurface (Err fault) old_numbers numbers old_genera genera outcome =
    (numbers ≡ old_numbers) × (genera ≡ old_genera) × (outcome ≡ told_fault fault)

-- `read` is the mesh that the arrays are, or what is first wrong with them
pub record IsSurfaceTold (read : Result FaceList Fault) (old_numbers numbers : SurfaceNumbers) (old_genera genera : List ℕ)
    (outcome : Outcome) : Type 0 where
  pub end : Result Measured Fault
  pub right : EndsOn read IsMeasureOf IsSurfaceFault end
  pub tells : TellsSurface end old_numbers numbers old_genera genera outcome

-- ---- answers on pairs, each of which is told by a byte

-- how the question ended is told: a byte for each pair; or what is wrong, and nothing else is written
abbrev pub TellsBytes : {A : Type 0} → (A → ℕ) → Result (Vec A) Fault → (old answers : List ℕ) → Outcome → Type 0
TellsBytes byte (Ok given) old answers outcome = (answers ≡ in_front (map byte given.items) old) × (outcome ≡ done)
TellsBytes byte (Err fault) old answers outcome = (answers ≡ old) × (outcome ≡ told_fault fault)

-- an end of the question that is right is told
pub record AreAnswersTold {A : Type 0} (byte : A → ℕ) (IsRight : Result (Vec A) Fault → Type 0) (old answers : List ℕ)
    (outcome : Outcome) : Type 0 where
  pub end : Result (Vec A) Fault
  pub right : IsRight end
  pub tells : TellsBytes byte end old answers outcome

-- where there is too little room for the answers nothing is looked at, and the length that is wanted is told
pub record IsBytesCall {A : Type 0} (byte : A → ℕ) (IsRight : Result (Vec A) Fault → Type 0) (sizes old answers : List ℕ)
    (outcome : Outcome) : Type 0 where
  pub room : length sizes / 2 ≤ length old → AreAnswersTold byte IsRight old answers outcome
  pub short : length old < length sizes / 2 → (answers ≡ old) × (outcome ≡ short_room (length sizes / 2))

-- on an orientable closed surface; `read` is the mesh that the arrays are, or what is first wrong with them
abbrev pub IsAnswersCall : {A : Type 0} → (FaceList → (first second : List ℕ) → A → Type 0) → (A → ℕ) → Result FaceList Fault
    → (sizes vertices old answers : List ℕ) → Outcome → Type 0
IsAnswersCall Is byte read sizes vertices old answers outcome =
    IsBytesCall byte (EndsOn read (λ mesh given. AreAnswered Is sizes vertices mesh given.items) (IsDecideFault sizes vertices)) sizes old
    answers outcome

-- whether the walks are homotopic on a compact surface
abbrev pub IsDecideAnyCall : Result FaceList Fault → (sizes vertices old answers : List ℕ) → Outcome → Type 0
IsDecideAnyCall read sizes vertices old answers outcome =
    IsBytesCall byte_of (EndsOn read (λ mesh given. AreDecidedOnAny sizes vertices mesh given.items) (IsDecideAnyFault sizes vertices))
    sizes old answers outcome

-- whether they are on an orientable closed surface
abbrev pub IsDecideCall : Result FaceList Fault → (sizes vertices old answers : List ℕ) → Outcome → Type 0
IsDecideCall read sizes vertices old answers outcome = IsAnswersCall IsAnswer byte_of read sizes vertices old answers outcome

-- ---- classes

-- how the question ended is told: a number for each walk; or what is wrong, and nothing else is written
abbrev pub TellsClasses : Result (Vec ℕ) NoClasses → (old classes : List ℕ) → Outcome → Type 0
TellsClasses (Ok given) old classes outcome = (classes ≡ in_front given.items old) × (outcome ≡ done)
TellsClasses (Err fault) old classes outcome = (classes ≡ old) × (outcome ≡ told_no_classes fault)

pub record AreClassesTold (mesh : FaceList) (sizes vertices old classes : List ℕ) (outcome : Outcome) : Type 0 where
  pub end : Result (Vec ℕ) NoClasses
  pub right : MatchResult end (λ given. AreClassed mesh sizes vertices given.items) (IsNoClassesIn mesh sizes vertices)
  pub tells : TellsClasses end old classes outcome

-- where there is too little room for the numbers nothing is looked at, and the length that is wanted is told
pub record IsClassesCall (mesh : FaceList) (sizes vertices old classes : List ℕ) (outcome : Outcome) : Type 0 where
  pub room : length sizes ≤ length old → AreClassesTold mesh sizes vertices old classes outcome
  pub short : length old < length sizes → (classes ≡ old) × (outcome ≡ short_room (length sizes))
