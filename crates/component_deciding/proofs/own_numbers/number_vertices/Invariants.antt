use Rattle.component_deciding.proofs.Common.{own_number, place_of_used, ◌≡◌, ◌<◌, ℕ, true, length, get_or, IsCounted, component_mesh, is_used}
use Rattle.component_deciding.proofs.own_numbers.number_vertices.Given as goal

abbrev pub invariant-loop-vertex : goal.invariant-loop-vertex
invariant-loop-vertex l = record {
  each_component : length l.counts.items ≡ length l.parts.components;
  each_vertex : length l.numbers.items ≡ l.vertex;
  counted : IsCounted (place_of_used l.mesh.faces l.parts) l.vertex l.counts.items;
  numbered : (v : ℕ) → v < l.vertex → is_used l.mesh.faces v ≡ true → get_or l.numbers.items v 0
      ≡ own_number (component_mesh l.mesh.faces l.parts (get_or l.parts.places v 0)) v;
}
