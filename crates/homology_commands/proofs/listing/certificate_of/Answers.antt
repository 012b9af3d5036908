use Rattle.homology_commands.proofs.Common.{surface_of, OrientedMesh, within_more, number_at, MOST_NUMBER, ListsEdges, IsChainFor, IsCocycleFor, IsProofFor, length, sym, ap, ◌∙◌, subst, arith, IsTableOf}
use Rattle.homology_commands.proofs.CertificateLemmas.{shows_chain, shows_cocycle}
use Rattle.homology_commands.proofs.listing.certificate_of.Goals as goal

pub list_faces-requires-clause-each_face : goal.list_faces-requires-clause-each_face
list_faces-requires-clause-each_face c =
    let proof = c.requires.proof in
    let found : IsChainFor (surface_of c.args.component.now) proof.0 proof.1 c.in-Chain.numbers =
    subst (IsProofFor (surface_of c.args.component.now) proof.0 proof.1) c.in-Chain.is proof.2 in
    found.each_face

pub list_faces-requires-clause-small : goal.list_faces-requires-clause-small
list_faces-requires-clause-small c =
    let proof = c.requires.proof in
    let found : IsChainFor (surface_of c.args.component.now) proof.0 proof.1 c.in-Chain.numbers =
    subst (IsProofFor (surface_of c.args.component.now) proof.0 proof.1) c.in-Chain.is proof.2 in
    within_more _ MOST_NUMBER c.in-Chain.numbers found.small proof.3

pub returns-in_ok-faces-in-Chain : goal.returns-in_ok-faces-in-Chain
returns-in_ok-faces-in-Chain c = λ mesh v first second h w z starts also is.
    let found : IsChainFor (surface_of c.args.component.now) first second c.in-Chain.numbers =
    subst (IsProofFor (surface_of c.args.component.now) first second) c.in-Chain.is is in
    shows_chain mesh v c.args.component.now first second c.in-Chain.numbers c.in_ok-faces-in-Chain.faces h w z starts also found
    c.in_ok-faces-in-Chain.ensures.lists c.in_ok-faces-in-Chain.ensures.valid

pub list_edges-requires-clause-each_edge : goal.list_edges-requires-clause-each_edge
list_edges-requires-clause-each_edge c =
    let proof = c.requires.proof in
    let found : IsCocycleFor (surface_of c.args.component.now) proof.0 proof.1 c.in-Cocycle.numbers =
    subst (IsProofFor (surface_of c.args.component.now) proof.0 proof.1) c.in-Cocycle.is proof.2 in
    found.each_edge.long ∙ sym (ap (λ (s : OrientedMesh). length s.table) c.surface-surface.ensures)

pub list_edges-requires-clause-small : goal.list_edges-requires-clause-small
list_edges-requires-clause-small c =
    let proof = c.requires.proof in
    let found : IsCocycleFor (surface_of c.args.component.now) proof.0 proof.1 c.in-Cocycle.numbers =
    subst (IsProofFor (surface_of c.args.component.now) proof.0 proof.1) c.in-Cocycle.is proof.2 in
    within_more 3 MOST_NUMBER c.in-Cocycle.numbers found.small (omega arith)

pub returns-in_ok-edges-in-Cocycle : goal.returns-in_ok-edges-in-Cocycle
returns-in_ok-edges-in-Cocycle c = λ mesh v first second h w z starts also is.
    let alone : OrientedMesh = surface_of c.args.component.now in
    let found : IsCocycleFor alone first second c.in-Cocycle.numbers = subst (IsProofFor alone first second) c.in-Cocycle.is is in
    let table : IsTableOf alone.mesh alone.table =
    subst (λ (s : OrientedMesh). IsTableOf s.mesh s.table) c.surface-surface.ensures c.faces.ensures.valid.table in
    let lists : ListsEdges alone.table (number_at c.in-Cocycle.numbers) (length c.in-Cocycle.numbers) c.in_ok-edges-in-Cocycle.edges =
    subst (λ (s : OrientedMesh).
    ListsEdges s.table (number_at c.in-Cocycle.numbers) (length c.in-Cocycle.numbers) c.in_ok-edges-in-Cocycle.edges)
    c.surface-surface.ensures c.in_ok-edges-in-Cocycle.ensures.lists in
    shows_cocycle mesh v c.args.component.now first second c.in-Cocycle.numbers c.in_ok-edges-in-Cocycle.edges h table w z starts also
    found lists c.in_ok-edges-in-Cocycle.ensures.valid
