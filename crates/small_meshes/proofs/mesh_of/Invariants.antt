use Rattle.std.proofs.Common.{◌≡◌, ◌*◌, length, take}
use Rattle.surf_model.specs.FaceLists.{total_sides}
use Rattle.small_meshes.proofs.mesh_of.Given as goal

abbrev pub invariant-loop-triangle : goal.invariant-loop-triangle
invariant-loop-triangle l =
    (l.faces ≡ record { count = l.count; faces = take l.triangle-index l.triangles }) × (total_sides l.faces ≡ 3 * l.triangle-index)
