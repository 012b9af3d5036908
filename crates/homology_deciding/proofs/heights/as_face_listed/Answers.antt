use Rattle.homology_deciding.proofs.Common.{arith}
use Rattle.homology_deciding.proofs.heights.as_face_listed.Goals as goal

pub flipped-requires : goal.flipped-requires
flipped-requires c = rw c.signs.ensures (omega (arith, c.requires.tree.valid.coherent.each_face, c.requires.face))
