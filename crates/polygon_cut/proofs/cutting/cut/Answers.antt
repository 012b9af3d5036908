use Rattle.polygon_cut.proofs.Common.{arith, split_tells}
use Rattle.polygon_cut.proofs.cutting.cut.Goals as goal

pub cut_by_colours-requires : goal.cut_by_colours-requires
cut_by_colours-requires c = grind (arith, split_tells)
