use Rattle.move_lifting.proofs.InPlaceLemmas.{IsReducedInPlace}
use Rattle.move_lifting.proofs.track.Track.reduced.Given as goal

abbrev pub invariant-loop-read : goal.invariant-loop-read
invariant-loop-read l = IsReducedInPlace l.behind l.fn.laid.walk l.fn.moves l.track l.front l._read
