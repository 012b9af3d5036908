use Rattle.off_reader.proofs.Common.{sym}
use Rattle.off_reader.proofs.KeywordLemmas.{no_pieces_left}
use Rattle.off_reader.proofs.keyword.are_pieces.Goals as goal

pub returns : goal.returns
returns c = no_pieces_left c.args.pieces.now c.loop-rest.rest.now (sym c.loop-rest-test.ensures) c.loop-rest.invariant
