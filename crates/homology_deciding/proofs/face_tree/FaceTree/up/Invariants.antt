use Rattle.homology_deciding.proofs.TreeLemmas.{NoneUp}
use Rattle.homology_deciding.proofs.face_tree.FaceTree.up.Given as goal

-- the darts so far do not lead up
abbrev pub invariant-loop-at : goal.invariant-loop-at
invariant-loop-at l = NoneUp l.self.surface.now l.self.split.now l.face.0 l.at
