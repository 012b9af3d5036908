-- The numbers that a certificate lists. What is not listed is 0.
use Rattle.std.specs.Prelude.{ℕ, Bool, ◌<◌, ◌≤◌, ◌^◌, ◌==◌, ◌&&◌, if◌then◌else◌, List, [], ◌∷◌, length, All, AllPairs, ℤ, pos, unsigned_abs}
use Rattle.surf_model.specs.Edges.{IsPairBefore}
use Rattle.homology.specs.declared.certificate.FaceNumber.{FaceNumber}
use Rattle.homology.specs.declared.certificate.EdgeNumber.{EdgeNumber}
use Rattle.homology.specs.declared.certificate.TheConstants.{MOST_NUMBER}

-- the number of the first line that passes a test; 0 where there is none
abbrev pub listed_number : {X : Type 0} → (X → Bool) → (X → ℤ) → List X → ℤ
listed_number test number [] = pos 0
listed_number test number (line ∷ lines) = if test line then number line else listed_number test number lines

-- the number of a face
abbrev pub face_number : List FaceNumber → ℕ → ℤ
face_number lines f = listed_number (λ (line : FaceNumber). line.face.0 == f) (λ (line : FaceNumber). line.number) lines

-- the number of the edge of two vertices, the lower first
abbrev pub edge_number : List EdgeNumber → ℕ → ℕ → ℤ
edge_number lines low high =
    listed_number (λ (line : EdgeNumber). line.low.0 == low && line.high.0 == high) (λ (line : EdgeNumber). line.number) lines

-- what holds of all numbers of a chain
pub record AreFaceNumbers (lines : List FaceNumber) : Type 0 where
  pub rising : AllPairs (λ (line other : FaceNumber). line.face.0 < other.face.0) lines
  pub small : All (λ (line : FaceNumber). unsigned_abs line.number ≤ MOST_NUMBER) lines
  pub few : length lines < 2 ^ 32

-- what holds of all numbers of a cocycle
pub record AreEdgeNumbers (lines : List EdgeNumber) : Type 0 where
  pub ordered : All (λ (line : EdgeNumber). line.low.0 < line.high.0) lines
  pub rising : AllPairs (λ (line other : EdgeNumber). IsPairBefore line.low.0 line.high.0 other.low.0 other.high.0) lines
  pub small : All (λ (line : EdgeNumber). unsigned_abs line.number ≤ MOST_NUMBER) lines
  pub few : length lines < 2 ^ 32
