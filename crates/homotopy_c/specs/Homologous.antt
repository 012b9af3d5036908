-- How a call tells whether walks are homologous.
use Rattle.std.specs.Prelude.{◌≡◌, ℕ, ◌<◌, ◌≤◌, List, length, ℤ, Result, Ok, Err, MatchResult}
use Rattle.surf_model.specs.FaceLists.{FaceList}
use Rattle.homology.specs.declared.array.HomologyNumbers.{HomologyNumbers}
use Rattle.homology.specs.declared.array.HomologyNumbers.TheVariants.{Chain, Cocycle}
use Rattle.homotopy_arrays.specs.Homologies.{IsHomologyFault, IsHomologyFaultOnAny, ShowsWalks, ShowsWalksOnAny}
use Rattle.homotopy_arrays.specs.declared.fault.Fault.{Fault}
use Rattle.homotopy_arrays.specs.declared.homologies.HomologyFault.{HomologyFault}
use Rattle.homotopy_arrays.specs.declared.homologies.HomologyFault.TheVariants.{Mesh, Walks, Darts}
use Rattle.homotopy_c.specs.Outcomes.{coded, told_fault, told_walks}
use Rattle.homotopy_c.specs.Told.{in_front}
use Rattle.homotopy_c.specs.declared.codes.TheConstants as codes
use Rattle.homotopy_c.specs.declared.outcome.Outcome.{Outcome}

-- the answer that numbers show, and the numbers
abbrev pub answer_code : HomologyNumbers → ℕ
answer_code (Chain numbers) = codes.HOMOLOGOUS
answer_code (Cocycle numbers) = codes.NOT_HOMOLOGOUS

abbrev pub homology_numbers_of : HomologyNumbers → List ℤ
homology_numbers_of (Chain numbers) = numbers.items
homology_numbers_of (Cocycle numbers) = numbers.items

-- why nothing is shown
abbrev pub told_homology : HomologyFault → Outcome
told_homology (Mesh fault) = told_fault fault
told_homology (Walks fault) = told_walks fault
told_homology (Darts darts) = coded codes.HOMOLOGY_DARTS darts 0 0

-- The numbers stand in front of the array, and their answer is told with how many they are; where there is too little room the array is as
-- it was, and how many are wanted is told, with the answer.
pub record AreNumbersPut (numbers old new : List ℤ) (code : ℕ) (outcome : Outcome) : Type 0 where
  pub room : length numbers ≤ length old → (new ≡ in_front numbers old) × (outcome ≡ coded code (length numbers) 0 0)
  pub short : length old < length numbers → (new ≡ old) × (outcome ≡ coded codes.SHORT_ROOM (length numbers) code 0)

-- how the question ended is told
abbrev pub TellsHomology : Result HomologyNumbers HomologyFault → (old new : List ℤ) → Outcome → Type 0
TellsHomology (Ok shown) old new outcome = AreNumbersPut (homology_numbers_of shown) old new (answer_code shown) outcome
TellsHomology (Err fault) old new outcome = (new ≡ old) × (outcome ≡ told_homology fault)

-- an end of the question that is right is told
pub record IsHomologyCallAs (IsRight : Result HomologyNumbers HomologyFault → Type 0) (old new : List ℤ) (outcome : Outcome) : Type 0 where
  pub end : Result HomologyNumbers HomologyFault
  pub right : IsRight end
  pub tells : TellsHomology end old new outcome

-- on an orientable closed surface; `read` is the mesh that the arrays are, or what is first wrong with them
abbrev pub IsHomologyCall : (read : Result FaceList Fault) → (first second : List ℕ) → (old new : List ℤ) → Outcome → Type 0
IsHomologyCall read first second old new outcome =
    IsHomologyCallAs (λ end. MatchResult end (ShowsWalks read first second) (IsHomologyFault read first second)) old new outcome

-- on an orientable compact surface, closed or with boundary
abbrev pub IsHomologyAnyCall : (read : Result FaceList Fault) → (first second : List ℕ) → (old new : List ℤ) → Outcome → Type 0
IsHomologyAnyCall read first second old new outcome =
    IsHomologyCallAs (λ end. MatchResult end (ShowsWalksOnAny read first second) (IsHomologyFaultOnAny read first second)) old new outcome
