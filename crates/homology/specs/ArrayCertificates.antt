-- Certificates that lie in arrays: a number for each face, which are a chain; or one for each side, which are those of a cocycle.
use Rattle.std.specs.Prelude.{◌≡◌, ℕ, List, length, map, ℤ}
use Rattle.surf_model.specs.FaceLists.{FaceList, FaceSide, all_sides}
use Rattle.homology.specs.Chains.{IsChain}
use Rattle.homology.specs.Cocycles.{IsCocycle, Separates, dart_number}
use Rattle.homology.specs.Tallies.{AreNumbersWithin, number_at}
use Rattle.homology.specs.declared.array.HomologyNumbers.{HomologyNumbers}
use Rattle.homology.specs.declared.array.HomologyNumbers.TheVariants.{Chain, Cocycle}
use Rattle.homology.specs.declared.certificate.TheConstants.{MOST_NUMBER}

-- what numbers of the edges give to each side, face after face: to the side from corner k to the next corner of its face entry k
abbrev pub side_numbers : FaceList → (of_edge : ℕ → ℕ → ℤ) → List ℤ
side_numbers mesh of_edge = map (λ (side : FaceSide). dart_number of_edge side.tail side.head) (all_sides mesh)

-- a number for each face, which are a chain for the walks
pub record AreChainNumbers (mesh : FaceList) (first second : List ℕ) (numbers : List ℤ) : Type 0 where
  pub each_face : length numbers ≡ length mesh.faces
  pub chain : IsChain mesh (number_at numbers) first second

-- a number for each side, which a cocycle gives it that separates the walks
pub record AreCocycleNumbers (mesh : FaceList) (first second : List ℕ) (numbers : List ℤ) : Type 0 where
  pub of_edge : ℕ → ℕ → ℤ
  pub cocycle : IsCocycle mesh of_edge
  pub separates : Separates of_edge first second
  pub each_side : numbers ≡ side_numbers mesh of_edge

-- the numbers show whether the walks are homologous
abbrev pub DoShow : FaceList → (first second : List ℕ) → HomologyNumbers → Type 0
DoShow mesh first second (Chain numbers) = AreChainNumbers mesh first second numbers.items
DoShow mesh first second (Cocycle numbers) = AreCocycleNumbers mesh first second numbers.items

-- and none is larger in size than a number of a certificate may be
abbrev pub AreSmall : HomologyNumbers → Type 0
AreSmall (Chain numbers) = AreNumbersWithin MOST_NUMBER numbers.items
AreSmall (Cocycle numbers) = AreNumbersWithin MOST_NUMBER numbers.items
