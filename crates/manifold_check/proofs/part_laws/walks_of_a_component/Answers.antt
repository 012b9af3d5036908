use Rattle.manifold_check.proofs.PartPieces.{walk_alone, walk_whole}
use Rattle.manifold_check.proofs.part_laws.walks_of_a_component.Goals as goal

pub returns : goal.returns
returns c = record { alone = walk_alone; whole = walk_whole }
