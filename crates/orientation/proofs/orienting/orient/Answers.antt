use Rattle.orientation.proofs.Common.{false, ap, ◌∙◌, arith, replicate}
use Rattle.orientation.proofs.ChainLemmas.{odd_excludes}
use Rattle.orientation.proofs.ListedLemmas.{kept_coherent}
use Rattle.orientation.proofs.TreeLemmas.{few_faces}
use Rattle.orientation.proofs.orienting.orient.Goals as goal

pub signs-requires : goal.signs-requires
signs-requires c =
    let trees = c.in_ok-quick.ensures.trees in
    omega (arith, trees.each_face, few_faces trees.mesh_is trees.small)

pub signs-requires-in-None : goal.signs-requires-in-None
signs-requires-in-None c =
    let trees = c.in_ok-short.ensures.trees in
    omega (arith, trees.each_face, few_faces trees.mesh_is trees.small)

pub returns-in-Some-clause-not_orientable : goal.returns-in-Some-clause-not_orientable
returns-in-Some-clause-not_orientable c chain is signs =
    odd_excludes c.args.faces.now c.in_ok-chain_round-in-Some.field-0 c.in_ok-short.ensures.trees.mesh_is
    c.in_ok-chain_round-in-Some.ensures signs

pub returns-then-are_listed_coherently-clause-coherent : goal.returns-then-are_listed_coherently-clause-coherent
returns-then-are_listed_coherently-clause-coherent c =
    kept_coherent c.in_ok-kept.field-0 c.are_listed_coherently.ensures.valid
    (c.in_ok-kept.ensures ∙ ap (λ n. replicate n false) c.len.ensures.count)
    (c.are_listed_coherently.ensures.coherent c.if-are_listed_coherently.true)
