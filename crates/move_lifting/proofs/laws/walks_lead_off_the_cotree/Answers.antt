use Rattle.move_lifting.proofs.OffCotreeLemmas.{walk_leads_off, root_face_leads_off}
use Rattle.move_lifting.proofs.laws.walks_lead_off_the_cotree.Goals as goal

pub returns-clause-walk : goal.returns-clause-walk
returns-clause-walk c = λ surface split walk o t w. walk_leads_off o t walk w

pub returns-clause-root_face : goal.returns-clause-root_face
returns-clause-root_face c = λ surface split dart o t l root. root_face_leads_off o t dart l root
