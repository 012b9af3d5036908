use Rattle.component_deciding.proofs.Common.{own_mesh, ◌≡◌, take, component_mesh}
use Rattle.component_deciding.proofs.own_mesh.own_faces.Given as goal

abbrev pub invariant-loop-face : goal.invariant-loop-face
invariant-loop-face l =
    let whole = own_mesh (component_mesh l.apart.mesh.faces l.apart.parts l.place) in
    l.alone ≡ record { count = whole.count; faces = take l.face whole.faces }
