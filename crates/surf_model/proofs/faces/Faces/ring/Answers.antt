use Rattle.surf_model.proofs.Common.{◌-◌, arith}
use Rattle.surf_model.proofs.StoredLemmas.{lies_at, numbers-part}
use Rattle.surf_model.proofs.faces.Faces.ring.Goals as goal

pub start-start-requires : goal.start-start-requires
start-start-requires c = (lies_at _ _ _ c.args.self.now c.args.face.0 c.self.invariant c.self.view_is c.requires).few

pub end-end-requires : goal.end-end-requires
end-end-requires c = (lies_at _ _ _ c.args.self.now c.args.face.0 c.self.invariant c.self.view_is c.requires).few

pub slice_bounds-result-end : goal.slice_bounds-result-end
slice_bounds-result-end c =
    omega (
      arith,
      (lies_at _ _ _ c.args.self.now c.args.face.0 c.self.invariant c.self.view_is c.requires).within,
      c.end-end.ensures.end,
      c.self.inside.corners.ok.0,
    )

pub returns-clause-ring : goal.returns-clause-ring
returns-clause-ring c =
    let here = lies_at _ _ _ c.args.self.now c.args.face.0 c.self.invariant c.self.view_is c.requires in grind (arith, numbers-part)
