use Rattle.component_deciding.proofs.Common.{◌≡◌, map, take, slice_index, numbers}
use Rattle.component_deciding.proofs.own_mesh.renumber.Given as goal

abbrev pub invariant-loop-vertex : goal.invariant-loop-vertex
invariant-loop-vertex l =
    numbers l.list.items ≡ map (slice_index l.own.numbers.items) (take l.vertex-index (numbers l.vertices))
