use Rattle.surf_model.proofs.Common.{sym, ◌∙◌}
use Rattle.surf_model.proofs.StoredLemmas.{length-faces}
use Rattle.surf_model.proofs.faces.Faces.len.Goals as goal

pub returns-clause-count : goal.returns-clause-count
returns-clause-count c = c.len.ensures ∙ sym (length-faces _ _ _ c.args.self.now c.self.view_is)
