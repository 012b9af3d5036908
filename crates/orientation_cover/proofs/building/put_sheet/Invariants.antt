use Rattle.orientation_cover.proofs.Common.{over, first_made_faces, cover_by, ◌≡◌, length}
use Rattle.orientation_cover.proofs.building.put_sheet.Given as goal

abbrev pub invariant-loop-face : goal.invariant-loop-face
invariant-loop-face l = l.cover ≡ first_made_faces (cover_by l.faces l.ways) (over (length l.faces.faces) l.upper l.face)
