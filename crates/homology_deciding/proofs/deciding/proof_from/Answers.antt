use Rattle.homology_deciding.proofs.Common.{OrientedMesh, IsChainFor, IsCocycleFor, ◌<◌, ℕ, List, length, sym, subst, arith, Edge}
use Rattle.homology_deciding.proofs.LoopLemmas.{few_faces}
use Rattle.homology_deciding.proofs.ProofLemmas.{chain_proof, cocycle_proof}
use Rattle.homology_deciding.proofs.deciding.proof_from.Goals as goal

pub of-requires : goal.of-requires
of-requires c = omega (arith, c.requires.numbers, few_faces c.args.tree.now.surface.now c.requires.tree.valid c.requires.tree.small)

pub returns-in-None : goal.returns-in-None
returns-in-None c = λ first second leaves.
    let s : OrientedMesh = c.args.tree.now.surface.now in
    subst (IsChainFor s first second) (sym c.of.ensures)
    (chain_proof c.args.tree.now c.requires.tree first second c.args.numbers.items c.args.rest.now leaves
    (λ k l. c.in-None.ensures.none k (subst (λ (t : List Edge). k < length t) (sym c.sides.ensures.table) l)))

pub returns-in_ok-cut-in-Some : goal.returns-in_ok-cut-in-Some
returns-in_ok-cut-in-Some c = λ first second leaves.
    let s : OrientedMesh = c.args.tree.now.surface.now in
    let e : ℕ = c.in-Some.edge.0 in
    let l : e < length s.table = subst (λ (t : List Edge). e < length t) c.sides.ensures.table c.in-Some.ensures.found in
    subst (IsCocycleFor s first second) (sym c.of-in-Some.ensures)
    (cocycle_proof c.args.tree.now c.requires.tree first second c.args.numbers.items c.args.rest.now leaves e c.dart_of-dart.result.0
    c.in_ok-cut-in-Some.field-0.items (record { dart = c.dart_of-dart.ensures.within; edge = l; is = sym c.dart_of-dart.ensures.edge })
    c.in-Some.ensures.nonzero c.in_ok-cut-in-Some.ensures.cut)
