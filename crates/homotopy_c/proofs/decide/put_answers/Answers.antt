use Rattle.homotopy_c.proofs.Common.{◌∙◌, ap, arith}
use Rattle.homotopy_c.proofs.RoomLemmas.{one_put}
use Rattle.homotopy_c.proofs.decide.put_answers.Goals as goal

pub loop-k-preserved : goal.loop-k-preserved
loop-k-preserved g c =
    one_put g.A.HasByte.code c.args.given.now c.args.room.now c.loop-k.room c.loop-k.k c.byte.result c.index-given-k.result
    c.loop-k-test.true (omega (arith, c.loop-k-test.true, c.requires)) (c.byte.ensures ∙ ap g.A.HasByte.code c.index-given-k.is)
    c.loop-k.invariant
