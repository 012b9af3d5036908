use Rattle.manifold_check.proofs.Common.{◌≡◌, ◌<◌, ℕ, get_or, length, component_mesh, AreNumbersOf, SurfaceNumbers}
use Rattle.manifold_check.proofs.measuring.measure.Given as goal

abbrev pub invariant-loop-part : goal.invariant-loop-part
invariant-loop-part l = record {
  many : length l.all.items ≡ l.part;
  numbers : (k : ℕ) (d : SurfaceNumbers) → k < l.part → AreNumbersOf (component_mesh l.faces l.parts k) (get_or l.all.items k d);
}
