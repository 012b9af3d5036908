use Rattle.std.proofs.Common.{◌≡◌, ◌<◌, length, ℕ, get_or}
use Rattle.surf_model.specs.ComponentParts.{component_mesh}
use Rattle.homotopy_arrays.specs.ArrayComponents.{AreComponentNumbers}
use Rattle.homotopy_arrays.specs.declared.components.ComponentNumbers.{ComponentNumbers}
use Rattle.homotopy_arrays.proofs.components.numbers_of.Given as goal

abbrev pub invariant-loop-part : goal.invariant-loop-part
invariant-loop-part l = record {
  many : length l.numbers.items ≡ l.part;
  own : (k : ℕ) (d : ComponentNumbers) → k < l.part
      → AreComponentNumbers (component_mesh l.surface.faces l.parts k) (get_or l.numbers.items k d);
}
