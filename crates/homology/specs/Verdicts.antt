-- What comes of checking a certificate: the first fault that it has, or that it holds.
use Rattle.std.specs.Prelude.{◌≡◌, ◌≢◌, ℕ, ◌<◌, List, length, slice_index_or, All, IsTrue, ℤ, pos}
use Rattle.surf_model.specs.FaceLists.{FaceList, is_edge}
use Rattle.surf_model.specs.Edges.{IsPairBefore}
use Rattle.homology.specs.Chains.{IsChain, count_difference, boundary}
use Rattle.homology.specs.Cocycles.{IsCocycle, face_sum, separation, Separates}
use Rattle.homology.specs.Certificates.{face_number, edge_number}
use Rattle.homology.specs.declared.certificate.FaceNumber.{FaceNumber}
use Rattle.homology.specs.declared.certificate.EdgeNumber.{EdgeNumber}
use Rattle.homology.specs.declared.certificate.HomologyCert.{HomologyCert}
use Rattle.homology.specs.declared.certificate.HomologyCert.TheVariants.{Chain, Cocycle}
use Rattle.homology.specs.declared.verdict.HomologyVerdict.{HomologyVerdict}
use Rattle.homology.specs.declared.verdict.HomologyVerdict.TheVariants.{Face, Edge, Sum, Zero, Accepted}

-- the first of a list for which a fact does not hold
pub record IsFirstAgainst {X : Type 0} (P : X → Type 0) (xs : List X) (x : X) : Type 0 where
  pub place : ℕ
  pub in_list : place < length xs
  pub is : slice_index_or xs place x ≡ x
  pub against : P x → ⊥
  pub before : (j : ℕ) → j < place → P (slice_index_or xs j x)

-- the face of a line is there
abbrev pub HasFace : FaceList → FaceNumber → Type 0
HasFace mesh line = line.face.0 < length mesh.faces

-- the pair of a line is an edge
abbrev pub HasEdge : FaceList → EdgeNumber → Type 0
HasEdge mesh line = IsTrue (is_edge mesh line.low.0 line.high.0)

-- at this edge the boundary tells the two counts apart
abbrev pub IsBalancedAt : FaceList → (ℕ → ℤ) → List ℕ → List ℕ → ℕ → ℕ → Type 0
IsBalancedAt mesh of_face first second low high =
    count_difference first second low high ≡ boundary mesh of_face low high

-- the least edge, by its lower and then by its higher vertex, at which it does not
pub record IsLeastUnbalanced (mesh : FaceList) (of_face : ℕ → ℤ) (first second : List ℕ) (low high : ℕ) : Type 0 where
  pub ordered : low < high
  pub edge : IsTrue (is_edge mesh low high)
  pub against : IsBalancedAt mesh of_face first second low high → ⊥
  pub least : (a b : ℕ) → a < b → IsTrue (is_edge mesh a b) → IsPairBefore a b low high → IsBalancedAt mesh of_face first second a b

-- the least face round which the numbers of the edges do not add up to 0
pub record IsLeastOpen (mesh : FaceList) (of_edge : ℕ → ℕ → ℤ) (f : ℕ) : Type 0 where
  pub in_mesh : f < length mesh.faces
  pub against : face_sum mesh of_edge f ≢ pos 0
  pub least : (g : ℕ) → g < f → face_sum mesh of_edge g ≡ pos 0

-- What comes of the numbers of all faces: the least edge at which they are no chain, or that they are one.
abbrev pub IsChainVerdict : FaceList → (of_face : ℕ → ℤ) → (first second : List ℕ) → HomologyVerdict → Type 0
IsChainVerdict mesh of_face first second (Face f) = ⊥
IsChainVerdict mesh of_face first second (Edge low high) = IsLeastUnbalanced mesh of_face first second low.0 high.0
IsChainVerdict mesh of_face first second (Sum f) = ⊥
IsChainVerdict mesh of_face first second Zero = ⊥
IsChainVerdict mesh of_face first second Accepted = IsChain mesh of_face first second

-- What comes of the numbers of all edges: the least face round which they are no cocycle, that they separate nothing, or that they do.
abbrev pub IsCocycleVerdict : FaceList → (of_edge : ℕ → ℕ → ℤ) → (first second : List ℕ) → HomologyVerdict → Type 0
IsCocycleVerdict mesh of_edge first second (Face f) = ⊥
IsCocycleVerdict mesh of_edge first second (Edge low high) = ⊥
IsCocycleVerdict mesh of_edge first second (Sum f) = IsLeastOpen mesh of_edge f.0
IsCocycleVerdict mesh of_edge first second Zero = IsCocycle mesh of_edge × (separation of_edge first second ≡ pos 0)
IsCocycleVerdict mesh of_edge first second Accepted = IsCocycle mesh of_edge × Separates of_edge first second

-- The first that holds: a listed face or pair is not there, an equation of the chain or of the cocycle fails, the cocycle separates
-- nothing, or the certificate holds.
abbrev pub IsVerdict : FaceList → List ℕ → List ℕ → HomologyCert → HomologyVerdict → Type 0
IsVerdict mesh first second (Chain lines) (Face f) =
    (line : FaceNumber) × IsFirstAgainst (HasFace mesh) lines line × (line.face ≡ f)
IsVerdict mesh first second (Chain lines) (Edge low high) =
    All (HasFace mesh) lines × IsLeastUnbalanced mesh (face_number lines) first second low.0 high.0
IsVerdict mesh first second (Chain lines) (Sum f) = ⊥
IsVerdict mesh first second (Chain lines) Zero = ⊥
IsVerdict mesh first second (Chain lines) Accepted = All (HasFace mesh) lines × IsChain mesh (face_number lines) first second
IsVerdict mesh first second (Cocycle lines) (Face f) = ⊥
IsVerdict mesh first second (Cocycle lines) (Edge low high) =
    (line : EdgeNumber) × IsFirstAgainst (HasEdge mesh) lines line × (line.low ≡ low) × (line.high ≡ high)
IsVerdict mesh first second (Cocycle lines) (Sum f) = All (HasEdge mesh) lines × IsLeastOpen mesh (edge_number lines) f.0
IsVerdict mesh first second (Cocycle lines) Zero =
    All (HasEdge mesh) lines × IsCocycle mesh (edge_number lines) × (separation (edge_number lines) first second ≡ pos 0)
IsVerdict mesh first second (Cocycle lines) Accepted =
    All (HasEdge mesh) lines × IsCocycle mesh (edge_number lines) × Separates (edge_number lines) first second
