use Rattle.homotopy_c.proofs.Common.{IsKept, mesh_from_arrays, IsSurfaceFault}
use Rattle.homotopy_c.proofs.TellingLemmas.{held_told}
use Rattle.homotopy_c.proofs.mesh.homotopy_mesh_new.Goals as goal

pub returns : goal.returns
returns c =
    let told = held_told (mesh_from_arrays c.args.vertices c.args.sizes.now c.args.corners.now) IsKept IsSurfaceFault c.keep.result
    c.args.mesh.now.kept c.hold.new.mesh.kept c.hold.result c.keep.ensures c.hold.ensures in
    record { end = told.0; right = told.1; tells = told.2 }
