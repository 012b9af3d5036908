-- Passes over a walk, that cross the faces of one depth.
use Rattle.std.specs.Prelude.{◌≡◌, ◌≤◌, length}
use Rattle.move_lifting.specs.Cuts.{IsSplitSurface}
use Rattle.move_lifting.specs.declared.expanding.TheConstants.{MOST_LIFTED_DARTS}
use Rattle.move_lifting.specs.declared.passing.Pass.{Pass}

-- the pass is one on a surface that is split, and has a depth for each face
pub record IsPass (pass : Pass) : Type 0 where
  pub on : IsSplitSurface pass.on.now
  pub depths : length pass.depths.now ≡ length pass.on.now.surface.now.mesh.faces
  pub behind : pass.behind ≤ MOST_LIFTED_DARTS
