use Rattle.closed_surfaces.proofs.Common.{rules, IsClosedManifold, IsOrientable}
use Rattle.surf_model.specs.OddChains.{IsOddChain}
use Rattle.closed_surfaces.proofs.signed_mesh.SignedMesh.of.Goals as goal

pub returns-in-Err-NotOrientable-clause-none : goal.returns-in-Err-NotOrientable-clause-none
returns-in-Err-NotOrientable-clause-none c =
    let arm = c.in-Err-NotOrientable in
    let closed : IsClosedManifold c.args.faces = search rules in
    let turned : IsOrientable c.args.faces → ⊥ = arm.ensures.not_orientable arm.chain cc in
    let odd : IsOddChain c.args.faces arm.chain = arm.ensures.odd_chain arm.chain cc in
    (closed, turned, odd)
