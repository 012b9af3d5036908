use Rattle.surf_model.proofs.Common.{sym, ◌∙◌}
use Rattle.surf_model.proofs.StoredLemmas.{total_sides-pending}
use Rattle.surf_model.proofs.faces.FacesBuilder.total.Goals as goal

pub returns : goal.returns
returns c = c.total.ensures ∙ sym (total_sides-pending _ _ _ c.args.self.now c.self.invariant c.self.view_is)
