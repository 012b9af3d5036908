-- What is found of two walks on a connected surface: moves, or words that differ.
use Rattle.std.specs.Prelude.{◌≡◌, ℕ, ◌<◌, ◌≤◌, List, length}
use Rattle.surf_model.specs.Walks.{IsWalk}
use Rattle.surf_model.specs.declared.moves.Move.{Move}
use Rattle.surf_model.specs.declared.moves.Move.TheVariants.{Insert, Remove, Across}
use Rattle.halfedge_map.specs.OrientedMeshes.{OrientedMesh}
use Rattle.labellings.specs.Denials.{DenialHolds}
use Rattle.labellings.specs.Labellings.{signs_of}
use Rattle.surf_model.specs.PeakedLists.{LeadsAtPeak}
use Rattle.surf_model.specs.Genera.{HasGenus}
use Rattle.commands.specs.declared.certificate.TheConstants.{MOST_SHOWN_PEAK, MOST_SPHERE_MOVES}
use Rattle.certify_commands.specs.declared.finding.Finding.{Finding}
use Rattle.certify_commands.specs.declared.finding.Finding.TheVariants.{Moves, Words}

-- The moves lead from the first walk to the second, their peak is low, and on a sphere they are few; or the words are those of
-- the walks under a good labelling, with the signs of the surface, and differ, and the surface is no sphere.
abbrev pub IsFinding : OrientedMesh → (first second : List ℕ) → Finding → Type 0
IsFinding surface first second (Moves list) =
    LeadsAtPeak surface.mesh first list second × (list.peak ≤ MOST_SHOWN_PEAK)
    × (HasGenus surface.mesh 0 → length list.moves ≤ MOST_SPHERE_MOVES)
IsFinding surface first second (Words good one other) =
    DenialHolds surface.mesh first second (record { labelling = good; first = one; second = other }) × (signs_of good ≡ surface.signs)
    × (HasGenus surface.mesh 0 → ⊥)

-- it is so of some two walks
abbrev pub TellsOfSome : OrientedMesh → Finding → Type 0
TellsOfSome surface finding =
    (first : List ℕ) × (second : List ℕ) × IsWalk surface.mesh first × IsFinding surface first second finding

-- a move of a mesh of so many faces names one of them, if any
abbrev pub IsOfFaces : ℕ → Move → Type 0
IsOfFaces count (Insert at via) = Unit {0}
IsOfFaces count (Remove at via) = Unit {0}
IsOfFaces count (Across at face corner forward taken) = face.0 < count
