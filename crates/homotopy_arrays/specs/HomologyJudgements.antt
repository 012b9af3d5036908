-- How the question ends what comes of numbers that are to show whether two walks are homologous.
use Rattle.std.specs.Prelude.{◌≡◌, ◌⊎◌, ℕ, List, ℤ, Some, Result, Err}
use Rattle.surf_model.specs.FaceLists.{FaceList}
use Rattle.homology.specs.ArrayVerdicts.{IsArrayChainVerdict, IsArrayCocycleVerdict}
use Rattle.homology.specs.declared.array_check.ArrayVerdict.{ArrayVerdict}
use Rattle.homotopy_arrays.specs.Pairs.{AreWalks, two_walks_fault}
use Rattle.homotopy_arrays.specs.Surfaces.{OfMesh}
use Rattle.homotopy_arrays.specs.declared.fault.Fault.{Fault}
use Rattle.homotopy_arrays.specs.declared.fault.Fault.TheVariants.{OutOfMemory}
use Rattle.homotopy_arrays.specs.declared.pair.WalkFault.{WalkFault}
use Rattle.homotopy_arrays.specs.declared.verify_homology.HomologyClaim.{HomologyClaim}
use Rattle.homotopy_arrays.specs.declared.verify_homology.HomologyClaim.TheVariants.{Homologous, NotHomologous}
use Rattle.homotopy_arrays.specs.declared.verify_homology.VerifyHomologyFault.{VerifyHomologyFault}
use Rattle.homotopy_arrays.specs.declared.verify_homology.VerifyHomologyFault.TheVariants.{Mesh, Walks}

-- the verdict on numbers that are to be a chain, or a cocycle that separates
abbrev pub IsArrayVerdict : FaceList → (first second : List ℕ) → HomologyClaim → (numbers : List ℤ) → ArrayVerdict → Type 0
IsArrayVerdict mesh first second Homologous numbers verdict = IsArrayChainVerdict mesh first second numbers verdict
IsArrayVerdict mesh first second NotHomologous numbers verdict = IsArrayCocycleVerdict mesh first second numbers verdict

-- the walks are two walks of the mesh with common ends, and this is the verdict on the numbers
abbrev pub JudgesNumbersOn : FaceList → (first second : List ℕ) → HomologyClaim → (numbers : List ℤ) → ArrayVerdict → Type 0
JudgesNumbersOn mesh first second claim numbers verdict =
    AreWalks mesh first second × IsArrayVerdict mesh first second claim numbers verdict

-- `read` is the mesh that arrays are, or what is first wrong with them
abbrev pub JudgesNumbers : (read : Result FaceList Fault) → (first second : List ℕ) → HomologyClaim → (numbers : List ℤ) → ArrayVerdict
    → Type 0
JudgesNumbers read first second claim numbers verdict = OfMesh read (λ mesh. JudgesNumbersOn mesh first second claim numbers verdict)

-- ---- what is wrong

abbrev pub no_memory : VerifyHomologyFault
no_memory = Mesh OutOfMemory

-- memory is wanting; or the walks are not two walks of the mesh with common ends
abbrev pub IsVerifyHomologyFaultOn : FaceList → (first second : List ℕ) → VerifyHomologyFault → Type 0
IsVerifyHomologyFaultOn mesh first second fault =
    (fault ≡ no_memory)
    ⊎ ((walks : WalkFault) × (two_walks_fault mesh first second ≡ Some walks) × (AreWalks mesh first second → ⊥) × (fault ≡ Walks walks))

-- memory is wanting; or the arrays are no mesh; or they are one, and something is wrong with the walks
abbrev pub IsVerifyHomologyFault : (read : Result FaceList Fault) → (first second : List ℕ) → VerifyHomologyFault → Type 0
IsVerifyHomologyFault read first second fault =
    (fault ≡ no_memory)
    ⊎ (((first_fault : Fault) × (read ≡ Err first_fault) × (fault ≡ Mesh first_fault))
    ⊎ OfMesh read (λ mesh. IsVerifyHomologyFaultOn mesh first second fault))
