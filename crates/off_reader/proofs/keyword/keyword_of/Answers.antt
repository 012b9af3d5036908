use Rattle.off_reader.proofs.Common.{sym}
use Rattle.off_reader.proofs.KeywordLemmas.{without_o, no_title, no_pieces, a_keyword}
use Rattle.off_reader.proofs.keyword.keyword_of.Goals as goal

pub returns-in_err-place_of_o : goal.returns-in_err-place_of_o
returns-in_err-place_of_o c = rw c.from_residual.ensures (sym (without_o c.args.word.now (sym c.in_err-place_of_o.ensures.place)))

pub returns-in_err-rest : goal.returns-in_err-rest
returns-in_err-rest c =
    rw c.from_residual-in_err-rest.ensures
    (sym (no_title c.args.word.now c.split_at.result.1.now c.in_ok-place_of_o.field-0 (sym c.in_ok-place_of_o.ensures.place)
    c.split_at.ensures.back c.in_err-rest.ensures.cases))

pub returns-then-are_pieces : goal.returns-then-are_pieces
returns-then-are_pieces c =
    sym (a_keyword c.args.word.now c.split_at.result.0.now c.split_at.result.1.now c.in_ok-rest.rest.now c.in_ok-place_of_o.field-0
    (sym c.in_ok-place_of_o.ensures.place)
    c.split_at.ensures.front c.split_at.ensures.back (sym c.if-are_pieces.ensures) c.in_ok-rest.ensures.cases.0
    c.in_ok-rest.ensures.cases.1)

pub returns-else-are_pieces : goal.returns-else-are_pieces
returns-else-are_pieces c =
    sym (no_pieces c.args.word.now c.split_at.result.0.now c.in_ok-place_of_o.field-0 (sym c.in_ok-place_of_o.ensures.place)
    c.split_at.ensures.front (sym c.if-are_pieces.ensures))
