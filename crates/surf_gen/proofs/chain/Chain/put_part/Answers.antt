use Rattle.surf_gen.proofs.Common.{◌∙◌, range_with_len, flat_map, points_of_torus}
use Rattle.surf_gen.proofs.PartLemmas.{part_more, rows_more}
use Rattle.surf_gen.proofs.chain.Chain.put_part.Goals as goal

pub loop-torus-preserved : goal.loop-torus-preserved
loop-torus-preserved c =
    let passed = points_of_torus c.args.self.grid in
    c.in_ok-put_torus.ensures
    ∙ part_more c.args.self.genus c.args.self.grid c.args.part c.args.text.now.items c.loop-torus.text.items
    (flat_map passed (range_with_len 0 c.loop-torus.torus)) (passed c.loop-torus.torus) _
    c.loop-torus.invariant (rows_more passed c.loop-torus.torus)
