use Rattle.homology_deciding.proofs.Common.{count_difference, AreTableNumbers, IsProofFor, ℤ, List, sym, subst, IfOk, Edge}
use Rattle.homology_deciding.proofs.TreeLemmas.{tree_of}
use Rattle.homology_deciding.proofs.LoopLemmas.{if_ok}
use Rattle.homology_deciding.proofs.ProofLemmas.{exact_proof}
use Rattle.homology_deciding.proofs.deciding.homologous.Goals as goal
use Rattle.homology_deciding.proofs.deciding.homologous.Goals.{After-deref_mut}

-- so much more is counted of the first walk than of the second
counted : (c : After-deref_mut)
    → AreTableNumbers c.args.surface.now.table c.deref_mut.result.now (count_difference c.args.first.now c.args.second.now)
counted c =
    subst (λ (xs : List ℤ). AreTableNumbers c.args.surface.now.table xs (count_difference c.args.first.now c.args.second.now))
    (sym c.deref_mut.ensures.value)
    (subst (λ (t : List Edge). AreTableNumbers t c.in_ok-counts.counts.items (count_difference c.args.first.now c.args.second.now))
    c.sides.ensures.table c.in_ok-counts.ensures.counts)

pub prove-requires-clause-tree : goal.prove-requires-clause-tree
prove-requires-clause-tree c =
    tree_of c.args.surface.now c.args.split.now c.sides.ensures.valid c.requires.split c.sides.ensures.small

pub prove-requires-clause-walks : goal.prove-requires-clause-walks
prove-requires-clause-walks c = (
  c.args.first.now,
  c.args.second.now,
  record { are_counts = counted (goal.at.prove-requires-clause-walks c).After-deref_mut; few = c.requires.few },
)

pub returns-clause-proof : goal.returns-clause-proof
returns-clause-proof c =
    c.prove.ensures c.args.first.now c.args.second.now
    (record { are_counts = counted (goal.at.returns-clause-proof c).After-deref_mut; few = c.requires.few })

pub returns-clause-exact : goal.returns-clause-exact
returns-clause-exact c =
    let shown : IfOk c.prove.result (IsProofFor c.args.surface.now c.args.first.now c.args.second.now) = returns-clause-proof c in
    if_ok c.prove.result shown shown
    (λ proof a b. exact_proof c.args.surface.now c.args.first.now c.args.second.now proof c.requires.first c.requires.second a)
