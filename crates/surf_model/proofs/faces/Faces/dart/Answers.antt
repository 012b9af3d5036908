use Rattle.surf_model.proofs.Common.{arith}
use Rattle.surf_model.proofs.StoredLemmas.{lies_at, total_sides-seen}
use Rattle.surf_model.proofs.faces.Faces.dart.Goals as goal

pub start-requires : goal.start-requires
start-requires c = (lies_at _ _ _ c.args.self.now c.args.side.face.0 c.self.invariant c.self.view_is c.requires.face).few

pub overflow_add-result : goal.overflow_add-result
overflow_add-result c =
    let here = lies_at _ _ _ c.args.self.now c.args.side.face.0 c.self.invariant c.self.view_is c.requires.face in grind arith

pub returns-clause-number : goal.returns-clause-number
returns-clause-number c =
    omega (arith, c.start.ensures, (lies_at _ _ _ c.args.self.now c.args.side.face.0 c.self.invariant c.self.view_is c.requires.face).first)

pub returns-clause-below : goal.returns-clause-below
returns-clause-below c =
    let here = lies_at _ _ _ c.args.self.now c.args.side.face.0 c.self.invariant c.self.view_is c.requires.face in
    omega (
      arith,
      c.start.ensures,
      here.rises,
      here.within,
      here.size,
      c.requires.place,
      total_sides-seen _ _ _ c.args.self.now c.self.invariant c.self.view_is,
    )
