use Rattle.component_deciding.proofs.Common.{◌≡◌, map, take, All, numbers}
use Rattle.std.specs.Prelude.{slice_index}
use Rattle.component_deciding.proofs.OwnSurfaces.{IsThere}
use Rattle.component_deciding.proofs.own_mesh.own_walk.Given as goal

abbrev pub invariant-loop-at : goal.invariant-loop-at
invariant-loop-at l = record {
  there : All (IsThere l.apart.mesh.faces l.apart.parts l.place) (take l.at l.walk);
  by_number : numbers l.vertices.items ≡ map (slice_index l.apart.own.numbers.items) (take l.at l.walk);
}
