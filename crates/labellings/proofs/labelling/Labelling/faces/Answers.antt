use Rattle.labellings.proofs.Common.{arith}
use Rattle.labellings.proofs.StoredLabellingLemmas.{length-faces}
use Rattle.labellings.proofs.labelling.Labelling.faces.Goals as goal

pub returns : goal.returns
returns c = omega (arith, length-faces _ _ _ _ _ c.args.self.now c.self.invariant c.self.view_is, c.self.inside.ends.ok.0)
