use Rattle.certify_commands.proofs.Common.{IsWithinLimits, IsFinding, OrientedMesh, sym, subst, IsWalk}
use Rattle.certify_commands.proofs.certify.certificate_on.Goals as goal

pub find-requires-clause-first : goal.find-requires-clause-first
find-requires-clause-first c = subst (λ (s : OrientedMesh). IsWalk s.mesh c.args.first.now) (sym c.surface.ensures) c.requires.first

pub find-requires-clause-second : goal.find-requires-clause-second
find-requires-clause-second c = subst (λ (s : OrientedMesh). IsWalk s.mesh c.args.second.now) (sym c.surface.ensures) c.requires.second

pub find-requires-clause-ends : goal.find-requires-clause-ends
find-requires-clause-ends c = c.requires.ends

pub find-requires-clause-limits : goal.find-requires-clause-limits
find-requires-clause-limits c =
    subst (λ (s : OrientedMesh). IsWithinLimits s.mesh c.args.first.now c.args.second.now) (sym c.surface.ensures) c.requires.limits

pub for_mesh-requires-clause-component : goal.for_mesh-requires-clause-component
for_mesh-requires-clause-component c = c.requires.component

pub for_mesh-requires-clause-some : goal.for_mesh-requires-clause-some
for_mesh-requires-clause-some c =
    let first = c.args.first.now in
    let second = c.args.second.now in (
      first,
      second,
      c.requires.first,
      subst (λ (s : OrientedMesh). IsFinding s first second c.in_ok-finding.finding) c.surface.ensures c.in_ok-finding.ensures,
    )

pub returns : goal.returns
returns c =
    λ mesh component w z.
    let first = c.args.first.now in
    let second = c.args.second.now in
    c.for_mesh.ensures mesh first second component w z c.requires.ends
    (subst (λ (s : OrientedMesh). IsFinding s first second c.in_ok-finding.finding) c.surface.ensures c.in_ok-finding.ensures)
