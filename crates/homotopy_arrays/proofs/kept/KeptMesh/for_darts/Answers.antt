use Rattle.homotopy_arrays.proofs.Common.{mesh_in_arrays}
use Rattle.homotopy_arrays.proofs.EndLemmas.{kept_surface}
use Rattle.homotopy_arrays.proofs.kept.KeptMesh.for_darts.Goals as goal

pub returns : goal.returns
returns c =
    kept_surface (mesh_in_arrays c.args.mesh) c.in_ok-signed.signed c.in_ok-surface.surface c.in_ok-signed.ensures c.in_ok-surface.ensures
