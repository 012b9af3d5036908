-- What shows that two walks are homologous, or that they are not.
use Rattle.std.specs.Prelude.{◌≡◌, ℕ, ◌+◌, ◌≤◌, Bool, true, false, List, length, ℤ}
use Rattle.surf_model.specs.Walks.{darts}
use Rattle.halfedge_map.specs.OrientedMeshes.{OrientedMesh}
use Rattle.homology.specs.Chains.{IsChain, count_difference}
use Rattle.homology.specs.Cocycles.{IsCocycle, Separates}
use Rattle.homology.specs.Tallies.{number_at, AreNumbersWithin, AreTableNumbers, IsLeft}
use Rattle.homology.specs.declared.certificate.TheConstants.{MOST_NUMBER}
use Rattle.homology_deciding.specs.Heights.{AreForced}
use Rattle.homology_deciding.specs.declared.face_tree.FaceTree.{FaceTree}
use Rattle.homology_deciding.specs.declared.deciding.HomologyProof.{HomologyProof}
use Rattle.homology_deciding.specs.declared.deciding.HomologyProof.TheVariants.{Chain, Cocycle}

-- at each edge so much more is counted of the first walk than of the second; the walks are so short that no number becomes too large
pub record CountsOf (tree : FaceTree) (first second : List ℕ) (counts : List ℤ) : Type 0 where
  pub are_counts : AreTableNumbers tree.surface.now.table counts (count_difference first second)
  pub few : darts first + darts second ≤ MOST_NUMBER

-- The numbers are those that the tree forces on the faces for the counts of two walks, and this they leave at each edge.
pub record LeavesOf (tree : FaceTree) (first second : List ℕ) (numbers rest : List ℤ) : Type 0 where
  pub counts : List ℤ
  pub are_counts : AreTableNumbers tree.surface.now.table counts (count_difference first second)
  pub forced : AreForced tree counts numbers
  pub left : IsLeft tree.surface.now.mesh tree.surface.now.table (number_at numbers) first second rest

-- a chain for the two walks, with a number for each face
pub record IsChainFor (surface : OrientedMesh) (first second : List ℕ) (numbers : List ℤ) : Type 0 where
  pub each_face : length numbers ≡ length surface.mesh.faces
  pub chain : IsChain surface.mesh (number_at numbers) first second
  pub small : AreNumbersWithin (darts first + darts second) numbers

-- a cocycle that separates the two walks, with a number for each edge
pub record IsCocycleFor (surface : OrientedMesh) (first second : List ℕ) (numbers : List ℤ) : Type 0 where
  pub of_edge : ℕ → ℕ → ℤ
  pub each_edge : AreTableNumbers surface.table numbers of_edge
  pub cocycle : IsCocycle surface.mesh of_edge
  pub separates : Separates of_edge first second
  pub small : AreNumbersWithin 3 numbers

abbrev pub IsProofFor : OrientedMesh → List ℕ → List ℕ → HomologyProof → Type 0
IsProofFor surface first second (Chain numbers) = IsChainFor surface first second numbers
IsProofFor surface first second (Cocycle numbers) = IsCocycleFor surface first second numbers

abbrev pub is_chain : HomologyProof → Bool
is_chain (Chain numbers) = true
is_chain (Cocycle numbers) = false
