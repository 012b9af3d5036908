use Rattle.segmented_pool.proofs.Common.{refl, arith}
use Rattle.segmented_pool.proofs.Marks.{mark_behind, end_within}
use Rattle.segmented_pool.proofs.segments.Segments.onward.Goals as goal

pub overflow_add-result-2 : goal.overflow_add-result-2
overflow_add-result-2 c = omega (arith, c.requires.few, c.len.ensures, end_within c.args.self.now.parts c.args.mark c.requires.mark)

pub returns-clause-mark : goal.returns-clause-mark
returns-clause-mark c =
    mark_behind c.args.self.now.parts c.args.mark _ c.requires.mark refl c.requires.behind
    (omega (arith, c.len.ensures))
