use Rattle.std.specs.Prelude.{◌≡◌, take}
use Rattle.quad_system.proofs.from_polygon.places_of.Given as goal

abbrev pub invariant-loop-spoke : goal.invariant-loop-spoke
invariant-loop-spoke l = l.places.items ≡ take l.spoke l.polygon.places
