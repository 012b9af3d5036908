use Rattle.surf_gen.proofs.Common.{◌∙◌, range_with_len, flat_map, points_of_row}
use Rattle.surf_gen.proofs.PartLemmas.{part_more, rows_more}
use Rattle.surf_gen.proofs.chain.Chain.put_torus.Goals as goal

pub loop-row-preserved : goal.loop-row-preserved
loop-row-preserved c =
    let passed = points_of_row c.args.self.grid c.args.torus in
    c.in_ok-put_row.ensures
    ∙ part_more c.args.self.genus c.args.self.grid c.args.part c.args.text.now.items c.loop-row.text.items
    (flat_map passed (range_with_len 0 c.loop-row.row)) (passed c.loop-row.row) _
    c.loop-row.invariant (rows_more passed c.loop-row.row)
