use Rattle.surf_model.proofs.Common.{arith}
use Rattle.surf_model.proofs.StoredLemmas.{lies_at}
use Rattle.surf_model.proofs.faces.Faces.sides.Goals as goal

pub end-requires : goal.end-requires
end-requires c = (lies_at _ _ _ c.args.self.now c.args.face.0 c.self.invariant c.self.view_is c.requires).few

pub start-requires : goal.start-requires
start-requires c = (lies_at _ _ _ c.args.self.now c.args.face.0 c.self.invariant c.self.view_is c.requires).few

pub overflow_sub-result : goal.overflow_sub-result
overflow_sub-result c = omega (arith, c.start.ensures, c.end.ensures.rises)

pub returns : goal.returns
returns c =
    let here = lies_at _ _ _ c.args.self.now c.args.face.0 c.self.invariant c.self.view_is c.requires in grind arith
