use Rattle.closed_surfaces.proofs.Genera.{AreGeneraUpTo}
use Rattle.closed_surfaces.proofs.measuring.genera_of.Given as goal

abbrev pub invariant-loop-part : goal.invariant-loop-part
invariant-loop-part l = AreGeneraUpTo l.surface.faces l.parts l.genera.items l.part
