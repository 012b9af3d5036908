-- The numbers of faces or of edges, listed: those that are not 0, each with the name of its face or with the ends of its edge.
use Rattle.std.specs.Prelude.{◌≡◌, ◌≢◌, ℕ, ◌<◌, ◌≤◌, List, length, slice_index, All, ℤ, pos}
use Rattle.surf_model.specs.Edges.{Edge, edge_in}
use Rattle.homology.specs.Certificates.{face_number, edge_number}
use Rattle.homology.specs.declared.certificate.EdgeNumber.{EdgeNumber}
use Rattle.homology.specs.declared.certificate.FaceNumber.{FaceNumber}
use Rattle.homology_files.specs.WrittenTexts.{FaceFits, EdgeFits}
use Rattle.surf_model.specs.ComponentParts.{component_at}
use Rattle.closed_surfaces.specs.declared.component.Component.{Component}
use Rattle.closed_surfaces.specs.declared.component.Component.TheVariants.{Whole, Alone}

-- the name that a face of a component has in the mesh
abbrev pub name_in : Component → ℕ → ℕ
name_in (Whole surface) f = f
name_in (Alone part) f = slice_index (component_at part.parts part.place) f

-- the face of the line is one of the first so many with these names
abbrev pub IsFaceNamed : (ℕ → ℕ) → ℕ → FaceNumber → Type 0
IsFaceNamed name count line = (k : ℕ) × (k < count) × (name k ≡ line.face.0)

-- the lines give the first so many faces with these names their numbers, and all other faces 0
pub record ListsFaces (name : ℕ → ℕ) (number : ℕ → ℤ) (count : ℕ) (lines : List FaceNumber) : Type 0 where
  pub each : (k : ℕ) → k < count → face_number lines (name k) ≡ number k
  pub others : (f : ℕ) → ((k : ℕ) → k < count → name k ≡ f → ⊥) → face_number lines f ≡ pos 0
  pub named : All (IsFaceNamed name count) lines
  pub no_zeros : All (λ (line : FaceNumber). line.number ≢ pos 0) lines
  pub fits : All FaceFits lines
  pub few : length lines ≤ count

-- edge k of the table has these ends
abbrev pub RunsBetween : List Edge → ℕ → (low high : ℕ) → Type 0
RunsBetween table k low high = ((edge_in table k).low ≡ low) × ((edge_in table k).high ≡ high)

-- the edge of the line is one of the first so many of the table
abbrev pub IsAmong : List Edge → ℕ → EdgeNumber → Type 0
IsAmong table count line =
    (k : ℕ) × (k < count) × ((edge_in table k).low ≡ line.low.0) × ((edge_in table k).high ≡ line.high.0)

-- the lines give the first so many edges of the table their numbers, and all other pairs 0
pub record ListsEdges (table : List Edge) (number : ℕ → ℤ) (count : ℕ) (lines : List EdgeNumber) : Type 0 where
  pub each : (k : ℕ) → k < count → edge_number lines (edge_in table k).low (edge_in table k).high ≡ number k
  pub others : (low high : ℕ) → ((k : ℕ) → k < count → RunsBetween table k low high → ⊥) → edge_number lines low high ≡ pos 0
  pub among : All (IsAmong table count) lines
  pub no_zeros : All (λ (line : EdgeNumber). line.number ≢ pos 0) lines
  pub fits : All EdgeFits lines
  pub few : length lines ≤ count
