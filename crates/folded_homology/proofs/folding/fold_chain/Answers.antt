use Rattle.folded_homology.proofs.FoldedNumbers.{folded_more}
use Rattle.folded_homology.proofs.folding.fold_chain.Goals as goal

pub loop-face-preserved : goal.loop-face-preserved
loop-face-preserved c =
    folded_more c.args.faces c.loop-face.face c.args.of_face.items c.loop-face.of_face.items c.index_mut.result.now
    c.index-mirrored.result.now c.loop-face.invariant.0 c.requires.mirrors c.loop-face-test.true c.requires.small
    c.loop-face.invariant.1 c.loop-face.invariant.2 c.index_mut.ensures.value c.index-mirrored.ensures
