use Rattle.homotopy_arrays.proofs.Common.{sym, ◌∙◌}
use Rattle.homotopy_arrays.proofs.CertificationLemmas.{found, within}
use Rattle.homotopy_arrays.proofs.certify.certify_walks.Goals as goal

pub find_certificate-requires-clause-first : goal.find_certificate-requires-clause-first
find_certificate-requires-clause-first c = c.requires.walks.first_walk

pub find_certificate-requires-clause-second : goal.find_certificate-requires-clause-second
find_certificate-requires-clause-second c = c.requires.walks.second_walk

pub find_certificate-requires-clause-ends : goal.find_certificate-requires-clause-ends
find_certificate-requires-clause-ends c = c.requires.walks.ends

pub returns-in_ok-find_certificate-in-None : goal.returns-in_ok-find_certificate-in-None
returns-in_ok-find_certificate-in-None c =
    found c.args.surface c.args.first.now c.args.second.now c.in_ok-find_certificate-in-None.field-0 c.requires.signed c.requires.walks
    (within c.args.surface.faces c.args.first.now c.args.second.now (sym c.in-None.is ∙ c.first_over.ensures))
    c.in_ok-find_certificate-in-None.ensures
