use Rattle.closed_covers.proofs.ClosedCovers.{cover_surface, orientation_cover_joined, cover_connected}
use Rattle.closed_covers.proofs.laws.orientation_cover_is_closed.Goals as goal

pub returns-clause-surface : goal.returns-clause-surface
returns-clause-surface c = cover_surface

pub returns-clause-joined : goal.returns-clause-joined
returns-clause-joined c = orientation_cover_joined

pub returns-clause-connected : goal.returns-clause-connected
returns-clause-connected c = cover_connected
