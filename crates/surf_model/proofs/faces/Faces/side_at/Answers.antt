use Rattle.surf_model.proofs.Common.{◌<◌, length, arith}
use Rattle.surf_model.proofs.PartsLemmas.{EndsRise-last}
use Rattle.surf_model.proofs.StoredLemmas.{lies_at, length-faces, total_sides-seen}
use Rattle.surf_model.proofs.faces.Faces.side_at.Goals as goal

pub part_at-face-requires : goal.part_at-face-requires
part_at-face-requires c =
    omega (
      arith,
      c.requires,
      total_sides-seen _ _ _ c.args.self.now c.self.invariant c.self.view_is,
      EndsRise-last c.self.inside.parts _ c.self.invariant.rising,
    )

pub returns : goal.returns
returns c =
    let f = c.part_at-face.result in
    let few : f < length c.args.self.now.faces = omega
    (arith, c.part_at-face.ensures.there, length-faces _ _ _ c.args.self.now c.self.view_is) in
    let here = lies_at _ _ _ c.args.self.now f c.self.invariant c.self.view_is few in grind arith
