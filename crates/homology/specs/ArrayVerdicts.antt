-- What comes of checking a certificate that lies in an array: the first fault that it has, or that it holds.
use Rattle.std.specs.Prelude.{◌≡◌, ◌≢◌, ℕ, ◌<◌, ◌≤◌, List, length, ℤ, unsigned_abs}
use Rattle.surf_model.specs.FaceLists.{FaceList, total_sides}
use Rattle.homology.specs.ArrayCertificates.{side_numbers}
use Rattle.homology.specs.Tallies.{AreNumbersWithin, number_at}
use Rattle.homology.specs.Verdicts.{IsChainVerdict, IsCocycleVerdict}
use Rattle.homology.specs.declared.array_check.ArrayVerdict.{ArrayVerdict}
use Rattle.homology.specs.declared.array_check.ArrayVerdict.TheVariants.{Count, Large, Uneven, Judged}
use Rattle.homology.specs.declared.certificate.TheConstants.{MOST_NUMBER}

-- the first number that is larger in size than a number of a certificate may be
pub record IsFirstLarge (numbers : List ℤ) (k : ℕ) : Type 0 where
  pub in_list : k < length numbers
  pub large : MOST_NUMBER < unsigned_abs (number_at numbers k)
  pub before : (j : ℕ) → j < k → unsigned_abs (number_at numbers j) ≤ MOST_NUMBER

-- The first that holds: there is not a number for each face, one is too large, the chain fails at an edge, or it holds.
abbrev pub IsArrayChainVerdict : FaceList → (first second : List ℕ) → (numbers : List ℤ) → ArrayVerdict → Type 0
IsArrayChainVerdict mesh first second numbers Count = length numbers ≢ length mesh.faces
IsArrayChainVerdict mesh first second numbers (Large place) = (length numbers ≡ length mesh.faces) × IsFirstLarge numbers place
IsArrayChainVerdict mesh first second numbers Uneven = ⊥
IsArrayChainVerdict mesh first second numbers (Judged verdict) =
    (length numbers ≡ length mesh.faces) × AreNumbersWithin MOST_NUMBER numbers
    × IsChainVerdict mesh (number_at numbers) first second verdict

-- numbers of the edges give the sides these numbers
abbrev pub AreEven : FaceList → List ℤ → Type 0
AreEven mesh numbers = (of_edge : ℕ → ℕ → ℤ) × (numbers ≡ side_numbers mesh of_edge)

-- The first that holds: there is not a number for each side, one is too large, no numbers of the edges give the sides these numbers, the
-- numbers of the edges are no cocycle or separate nothing, or all holds.
abbrev pub IsArrayCocycleVerdict : FaceList → (first second : List ℕ) → (numbers : List ℤ) → ArrayVerdict → Type 0
IsArrayCocycleVerdict mesh first second numbers Count = length numbers ≢ total_sides mesh
IsArrayCocycleVerdict mesh first second numbers (Large place) = (length numbers ≡ total_sides mesh) × IsFirstLarge numbers place
IsArrayCocycleVerdict mesh first second numbers Uneven =
    (length numbers ≡ total_sides mesh) × AreNumbersWithin MOST_NUMBER numbers × (AreEven mesh numbers → ⊥)
IsArrayCocycleVerdict mesh first second numbers (Judged verdict) =
    (length numbers ≡ total_sides mesh) × AreNumbersWithin MOST_NUMBER numbers × AreEven mesh numbers
    × ((of_edge : ℕ → ℕ → ℤ) → numbers ≡ side_numbers mesh of_edge → IsCocycleVerdict mesh of_edge first second verdict)
