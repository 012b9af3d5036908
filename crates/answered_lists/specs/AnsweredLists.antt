-- Lists of moves on compact surfaces, found on the orientable closed surface that answers.
use Rattle.std.specs.Prelude.{◌≡◌, ◌≤◌, ℕ, List, Option, Some, None, MatchOption}
use Rattle.surf_model.specs.FaceLists.{FaceList}
use Rattle.surf_model.specs.Moves.{Homotopic, PeakedMoves}
use Rattle.surf_model.specs.PeakedLists.{LeadsAtPeak}
use Rattle.certify_commands.specs.Certify.{certify_limits}
use Rattle.commands.specs.Limits.{first_over}
use Rattle.commands.specs.declared.certificate.TheConstants.{MOST_SHOWN_PEAK}
use Rattle.compact_surfaces.specs.Answered.{IsAnsweredBy, mesh_of_answered}
use Rattle.compact_surfaces.specs.declared.answered.AnsweredManifold.{AnsweredManifold}
use Rattle.compact_surfaces.specs.declared.answered.AnsweredManifold.TheVariants as answers
use Rattle.compact_surfaces.specs.declared.answered.AnsweredSurface.{AnsweredSurface}
use Rattle.compact_surfaces.specs.declared.covered_mesh.TabledMesh.{TabledMesh}
use Rattle.answered_lists.specs.declared.ListFault.{ListFault}
use Rattle.answered_lists.specs.declared.ListFault.TheVariants.{Over, OutOfMemory}

-- the orientable closed surface on which a list is looked for
abbrev pub mesh_answering : AnsweredManifold → FaceList
mesh_answering (answers.Itself kept) = kept.faces
mesh_answering (answers.Covered kept) = kept.cover.faces

-- the mesh that is kept with its table, or else the closed manifold
abbrev pub mesh_given : FaceList → Option TabledMesh → FaceList
mesh_given closed None = closed
mesh_given closed (Some own) = own.faces

-- the mesh of a surface
abbrev pub mesh_of_surface : AnsweredSurface → FaceList
mesh_of_surface surface = mesh_given (mesh_of_answered surface.closed) surface.own

-- the surface is what answers for its mesh
abbrev pub AnswersForItsMesh : AnsweredSurface → Type 0
AnswersForItsMesh surface = IsAnsweredBy (mesh_of_surface surface) surface

-- a list that leads from the first walk to the second, with its exact peak, which a reader takes; or there is none
abbrev pub IsListFound : FaceList → (first second : List ℕ) → Option PeakedMoves → Type 0
IsListFound mesh first second found =
    MatchOption found (Homotopic mesh first second → ⊥)
    (λ list. LeadsAtPeak mesh first list second × (list.peak ≤ MOST_SHOWN_PEAK))

-- memory is wanting, or this is first over its limit: the sides of the surface that answers, and then the darts of the walks
abbrev pub IsListFault : FaceList → (first second : List ℕ) → ListFault → Type 0
IsListFault answering first second OutOfMemory = Unit {0}
IsListFault answering first second (Over over) = first_over certify_limits answering first second ≡ Some over
