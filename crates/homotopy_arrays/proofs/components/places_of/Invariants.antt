use Rattle.std.proofs.Common.{◌≡◌, ◌<◌, length, ℕ, get_or}
use Rattle.homotopy_arrays.specs.ArrayComponents.{IsToldPlace}
use Rattle.homotopy_arrays.proofs.components.places_of.Given as goal

abbrev pub invariant-loop-vertex : goal.invariant-loop-vertex
invariant-loop-vertex l = record {
  many : length l.places.items ≡ l.vertex;
  own : (v : ℕ) → v < l.vertex → IsToldPlace l.faces l.parts v (get_or l.places.items v 0);
}
