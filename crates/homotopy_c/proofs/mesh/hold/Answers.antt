use Rattle.homotopy_c.proofs.Common.{ap, ◌∙◌}
use Rattle.homotopy_c.specs.declared.handle.MeshHandle.{MeshHandle}
use Rattle.homotopy_c.proofs.mesh.hold.Goals as goal

pub returns-in-Ok : goal.returns-in-Ok
returns-in-Ok c = rw c.in-Ok.is (ap (λ (h : MeshHandle). h.kept) c.replace.ensures.after ∙ c.of.ensures, c.coded.ensures)
