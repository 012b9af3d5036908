use Rattle.homology_commands.proofs.Common.{OrientedMesh, IsProofFor, refl, sym, subst, IsWalk}
use Rattle.homology_commands.proofs.show_homology.certificate_on.Goals as goal

pub homologous-requires-clause-first : goal.homologous-requires-clause-first
homologous-requires-clause-first c =
    subst (λ (s : OrientedMesh). IsWalk s.mesh c.args.first.now) (sym c.surface-surface.ensures) c.requires.first

pub homologous-requires-clause-second : goal.homologous-requires-clause-second
homologous-requires-clause-second c =
    subst (λ (s : OrientedMesh). IsWalk s.mesh c.args.second.now) (sym c.surface-surface.ensures) c.requires.second

pub homologous-requires-clause-few : goal.homologous-requires-clause-few
homologous-requires-clause-few c = c.requires.few

pub certificate_of-requires-clause-component : goal.certificate_of-requires-clause-component
certificate_of-requires-clause-component c = c.requires.component

pub certificate_of-requires-clause-proof : goal.certificate_of-requires-clause-proof
certificate_of-requires-clause-proof c =
    let first = c.args.first.now in
    let second = c.args.second.now in (
      first,
      second,
      subst (λ (s : OrientedMesh). IsProofFor s first second c.in_ok-proof.proof) c.surface-surface.ensures c.in_ok-proof.ensures.proof,
      c.requires.few,
    )

pub returns : goal.returns
returns c =
    λ mesh component w z.
    let first = c.args.first.now in
    let second = c.args.second.now in
    c.certificate_of.ensures mesh _ first second component w z refl (sym c.requires.ends.starts)
    (subst (λ (s : OrientedMesh). IsProofFor s first second c.in_ok-proof.proof) c.surface-surface.ensures c.in_ok-proof.ensures.proof)
