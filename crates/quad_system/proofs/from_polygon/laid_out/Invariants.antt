use Rattle.quad_system.proofs.Common.{numbers_alone}
use Rattle.quad_system.proofs.PolygonMakingLemmas.{IsMadeUpTo}
use Rattle.quad_system.proofs.from_polygon.laid_out.Given as goal

abbrev pub invariant-loop-face : goal.invariant-loop-face
invariant-loop-face l =
    IsMadeUpTo l.surface (numbers_alone l.degree l.fn.numbers.labels.items l.fn.numbers.places.items) l.face l.signs.items l.ends.items
    l.labels.items
