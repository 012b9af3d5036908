use Rattle.surf_model.proofs.Common.{arith}
use Rattle.surf_model.proofs.StoredLemmas.{total_sides-seen}
use Rattle.surf_model.proofs.faces.Faces.total.Goals as goal

pub returns : goal.returns
returns c = omega (arith, total_sides-seen _ _ _ c.args.self.now c.self.invariant c.self.view_is, c.self.inside.corners.ok.0)
