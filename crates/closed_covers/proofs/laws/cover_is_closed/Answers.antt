use Rattle.closed_covers.proofs.CoverEdges.{cover_two_sides}
use Rattle.closed_covers.proofs.CoverRings.{cover_rings}
use Rattle.closed_covers.proofs.ClosedCovers.{cover_manifold}
use Rattle.closed_covers.proofs.laws.cover_is_closed.Goals as goal

pub returns-clause-two_sides : goal.returns-clause-two_sides
returns-clause-two_sides c = cover_two_sides

pub returns-clause-one_ring : goal.returns-clause-one_ring
returns-clause-one_ring c = λ mesh turns valid are. cover_rings mesh turns are valid

pub returns-clause-manifold : goal.returns-clause-manifold
returns-clause-manifold c = cover_manifold
