use Rattle.segmented_pool.proofs.Common.{◌-◌, arith}
use Rattle.segmented_pool.proofs.Marks.{last_mark, end_of_last}
use Rattle.segmented_pool.proofs.segments.Segments.last.Goals as goal

pub overflow_sub-result : goal.overflow_sub-result
overflow_sub-result c =
    omega (
      arith,
      c.len.ensures,
      c.count-index.ensures,
      c.requires.len,
      end_of_last c.args.self.now.parts (c.count-index.result - 1) (omega (arith, c.requires.some, c.count-index.ensures)),
    )

pub returns-clause-mark : goal.returns-clause-mark
returns-clause-mark c = grind (arith, last_mark, end_of_last)

pub returns-clause-end : goal.returns-clause-end
returns-clause-end c =
    omega (
      arith,
      c.len.ensures,
      c.requires.len,
      end_of_last c.args.self.now.parts (c.count-index.result - 1) (omega (arith, c.requires.some, c.count-index.ensures)),
    )
