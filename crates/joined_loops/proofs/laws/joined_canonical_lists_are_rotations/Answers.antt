use Rattle.joined_loops.proofs.Rotating.{joined-rotations}
use Rattle.joined_loops.proofs.laws.joined_canonical_lists_are_rotations.Goals as goal

pub returns : goal.returns
returns c = λ places first second full. joined-rotations places full first second
