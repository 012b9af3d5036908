-- A certificate that is made line by line.
use Rattle.std.specs.Prelude.{ℕ, ◌+◌, ◌<◌, ◌^◌, [], ◌∷◌, ◌++◌, length, All, ℤ}
use Rattle.surf_model.specs.Edges.{IsPairBefore}
use Rattle.homology.specs.declared.certificate.FaceNumber.{FaceNumber}
use Rattle.homology.specs.declared.certificate.EdgeNumber.{EdgeNumber}
use Rattle.homology.specs.declared.certificate.HomologyCert.{HomologyCert}
use Rattle.homology.specs.declared.certificate.HomologyCert.TheVariants.{Chain, Cocycle}

-- a chain of faces below this one, which has room for it
abbrev pub TakesFace : HomologyCert → ℕ → Type 0
TakesFace (Chain lines) face = All (λ (line : FaceNumber). line.face.0 < face) lines × (length lines + 1 < 2 ^ 32)
TakesFace (Cocycle lines) face = ⊥

-- the chain with the number of that face last
abbrev pub with_face_number : HomologyCert → (face : ℕ) → ℤ → HomologyCert
with_face_number (Chain lines) face number = Chain (lines ++ record { face = record { 0 = face }; number = number } ∷ [])
with_face_number (Cocycle lines) face number = Cocycle lines

-- a cocycle of edges before this one, which has room for it
abbrev pub TakesEdge : HomologyCert → (low high : ℕ) → Type 0
TakesEdge (Chain lines) low high = ⊥
TakesEdge (Cocycle lines) low high =
    All (λ (line : EdgeNumber). IsPairBefore line.low.0 line.high.0 low high) lines × (length lines + 1 < 2 ^ 32)

-- the cocycle with the number of that edge last
abbrev pub with_edge : HomologyCert → (low high : ℕ) → ℤ → HomologyCert
with_edge (Chain lines) low high number = Chain lines
with_edge (Cocycle lines) low high number =
    Cocycle (lines ++ record { low = record { 0 = low }; high = record { 0 = high }; number = number } ∷ [])
