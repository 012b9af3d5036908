use Rattle.homology_deciding.proofs.Common.{OrientedMesh, left_over, within_more, boundary, number_at, GrewBy, AreNumbersWithin, MOST_NUMBER, ◌+◌, ℤ, List, sym, subst, arith, neg_ℤ, Edge, FaceList, darts}
use Rattle.homology_deciding.proofs.ProofLemmas.{counts_small, forced_small}
use Rattle.homology_deciding.proofs.deciding.prove.Goals as goal

pub forced_numbers-requires-clause-small : goal.forced_numbers-requires-clause-small
forced_numbers-requires-clause-small c =
    let w = c.requires.walks in
    within_more (darts w.0 + darts w.1) MOST_NUMBER c.args.counts.now
    (counts_small c.args.tree.now.surface.now.table c.args.counts.now w.0 w.1 w.2.are_counts) w.2.few

pub take_faces-requires-clause-small : goal.take_faces-requires-clause-small
take_faces-requires-clause-small c =
    let w = c.requires.walks in
    let numbers : List ℤ = c.in_ok-numbers.numbers.items in
    subst (AreNumbersWithin MOST_NUMBER) (sym c.deref.ensures.value)
    (within_more (darts w.0 + darts w.1) MOST_NUMBER numbers
    (forced_small c.args.tree.now c.requires.tree w.0 w.1 numbers c.args.counts.now w.2.are_counts c.in_ok-numbers.ensures) w.2.few)

pub take_faces-requires-clause-room : goal.take_faces-requires-clause-room
take_faces-requires-clause-room c =
    let w = c.requires.walks in
    within_more (darts w.0 + darts w.1) 8589934592 c.args.counts.now
    (counts_small c.args.tree.now.surface.now.table c.args.counts.now w.0 w.1 w.2.are_counts) (omega (arith, w.2.few))

pub returns : goal.returns
returns c = λ first second counted.
    let s : OrientedMesh = c.args.tree.now.surface.now in
    let old : List ℤ = c.args.counts.now in
    let new : List ℤ = c.take_faces.new.tally in
    let numbers : List ℤ = c.in_ok-numbers.numbers.items in
    let taken : GrewBy s.table (λ low high. neg_ℤ (boundary s.mesh (number_at numbers) low high)) old new =
    subst (λ (m : FaceList). GrewBy s.table (λ low high. neg_ℤ (boundary m (number_at numbers) low high)) old new) c.faces.ensures.mesh
    (subst (λ (xs : List ℤ). GrewBy s.table (λ low high. neg_ℤ (boundary c.faces.result.now (number_at xs) low high)) old new)
    c.deref.ensures.value
    (subst (λ (t : List Edge). GrewBy t (λ low high. neg_ℤ (boundary c.faces.result.now (number_at c.deref.result.now) low high)) old new)
    c.sides.ensures.table c.take_faces.ensures)) in
    c.proof_from.ensures first second (record {
      counts = old;
      are_counts = counted.are_counts;
      forced = c.in_ok-numbers.ensures;
      left = left_over s.mesh s.table (number_at numbers) first second old new counted.are_counts taken;
    })
