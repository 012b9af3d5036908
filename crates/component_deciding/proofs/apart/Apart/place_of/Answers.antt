use Rattle.component_deciding.proofs.Common.{◌≡◌, true, sym, arith, used_below, is_used}
use Rattle.component_deciding.proofs.apart.Apart.place_of.Goals as goal

pub part_of-requires : goal.part_of-requires
part_of-requires c =
    let mesh = c.args.self.now.mesh.faces in
    let used : is_used mesh c.args.vertex.0 ≡ true = sym (c.if-used.ensures.mesh mesh c.requires.signed.table) in
    omega (arith, c.requires.parts.places.each_vertex, used_below mesh c.args.vertex.0 c.requires.signed.valid used)
