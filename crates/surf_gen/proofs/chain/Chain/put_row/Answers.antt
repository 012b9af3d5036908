use Rattle.surf_gen.proofs.Common.{[], ◌∷◌, ◌∙◌, range_with_len, point}
use Rattle.std.specs.Prelude.{map}
use Rattle.surf_gen.proofs.PartLemmas.{part_more, columns_more}
use Rattle.surf_gen.proofs.chain.Chain.put_row.Goals as goal

pub loop-column-preserved : goal.loop-column-preserved
loop-column-preserved c =
    let passed = point c.args.torus c.args.row in
    c.in_ok-put_point.ensures
    ∙ part_more c.args.self.genus c.args.self.grid c.args.part c.args.text.now.items c.loop-column.text.items
    (map passed (range_with_len 0 c.loop-column.column)) (passed c.loop-column.column ∷ []) _
    c.loop-column.invariant (columns_more passed c.loop-column.column)
