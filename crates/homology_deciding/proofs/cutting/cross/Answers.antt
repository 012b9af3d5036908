use Rattle.homology_deciding.proofs.Common.{sent, number_at, signed_from, ◌≡◌, ℕ, ℤ, List, ap, ◌∙◌, set, arith, to_z, of_z, w64, ◌+ℤ◌, Edge, edge_in}
use Rattle.homology_deciding.proofs.LoopLemmas.{cross_step}
use Rattle.homology_deciding.proofs.cutting.cross.Goals as goal

pub returns : goal.returns
returns c =
    let old : List ℤ = c.args.numbers.now in
    let e : ℕ = c.edge_of-edge.result.0 in
    let u : ℕ = c.origin.result.0 in
    let same : to_z w64 (of_z w64 c.args.amount) ≡ c.args.amount = sent c.args.amount (omega (arith, c.requires.small)) in
    cross_step c.args.tree.now.surface.now c.requires.tree.valid c.args.amount c.args.dart.0 e u old c.add_dart.new.tally
    c.requires.dart c.edge_of-edge.ensures.edge c.origin.ensures c.requires.long
    (c.add_dart.ensures ∙ ap (λ z. set old e (number_at old e +ℤ signed_from z (edge_in c.sides.result.now e) u)) same
    ∙ ap (λ (t : List Edge). set old e (number_at old e +ℤ signed_from c.args.amount (edge_in t e) u)) c.sides.ensures.table)
