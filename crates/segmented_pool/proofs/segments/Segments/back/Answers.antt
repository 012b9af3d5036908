use Rattle.segmented_pool.proofs.Common.{◌-◌, arith}
use Rattle.segmented_pool.proofs.Marks.{some_before, before_start, mark_before}
use Rattle.segmented_pool.proofs.segments.Segments.back.Goals as goal

pub overflow_sub-index : goal.overflow_sub-index
overflow_sub-index c = some_before c.args.self.now.parts c.args.mark c.requires.mark c.requires.before

pub overflow_sub-result : goal.overflow_sub-result
overflow_sub-result c = grind (arith, before_start, some_before)

pub returns-clause-mark : goal.returns-clause-mark
returns-clause-mark c =
    let some = some_before c.args.self.now.parts c.args.mark c.requires.mark c.requires.before in
    mark_before c.args.self.now.parts c.args.mark _ c.requires.mark (omega (arith, some)) (omega (
      arith,
      c.len.ensures,
      before_start c.args.self.now.parts c.args.mark (c.args.mark.index - 1) c.requires.mark (omega (arith, some)),
    ))
