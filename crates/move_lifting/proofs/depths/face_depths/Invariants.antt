use Rattle.move_lifting.proofs.Common.{darts_of, ◌≡◌, ◌<◌, length, All, DartName}
use Rattle.move_lifting.proofs.depths.face_depths.Given as goal

abbrev pub invariant-loop-dart : goal.invariant-loop-dart
invariant-loop-dart l = All (λ (d : DartName). d.0 < darts_of l.on.surface.now) l.found.items

abbrev pub invariant-loop-place : goal.invariant-loop-place
invariant-loop-place l = record {
  depths : length l.depths.items ≡ length l.on.surface.now.mesh.faces;
  found : All (λ (d : DartName). d.0 < darts_of l.on.surface.now) l.found.items;
}
