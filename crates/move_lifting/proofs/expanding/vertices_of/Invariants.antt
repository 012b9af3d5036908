use Rattle.move_lifting.proofs.Common.{◌≡◌, take, numbers}
use Rattle.move_lifting.proofs.expanding.vertices_of.Given as goal

abbrev pub invariant-loop-place : goal.invariant-loop-place
invariant-loop-place l = numbers l.vertices.items ≡ take l.place l.walk
