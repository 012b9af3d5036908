use Rattle.surf_model.proofs.Common.{sym, ◌∙◌}
use Rattle.surf_model.proofs.StoredLemmas.{lies_at}
use Rattle.surf_model.proofs.faces.Faces.first_dart.Goals as goal

pub start-requires : goal.start-requires
start-requires c = (lies_at _ _ _ c.args.self.now c.args.face.0 c.self.invariant c.self.view_is c.requires).few

pub returns : goal.returns
returns c = c.start.ensures ∙ sym (lies_at _ _ _ c.args.self.now c.args.face.0 c.self.invariant c.self.view_is c.requires).first
