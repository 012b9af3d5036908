use Rattle.compact_surfaces.proofs.answered.answered.Goals as goal

pub returns-in_ok-covered-in-Twisted-clause-fits : goal.returns-in_ok-covered-in-Twisted-clause-fits
returns-in_ok-covered-in-Twisted-clause-fits c = rw c.in-Twisted.is c.in_ok-covered-in-Twisted.ensures.fits
