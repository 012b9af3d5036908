use Rattle.off_reader.proofs.Common.{arith, sym}
use Rattle.off_reader.proofs.KeywordLemmas.{single_piece, pair_none, pair_some}
use Rattle.off_reader.proofs.keyword.after_piece.Goals as goal

pub returns-then-is_single_piece-clause-some : goal.returns-then-is_single_piece-clause-some
returns-then-is_single_piece-clause-some c = (
  single_piece c.args.bytes.now c.in_ok-first.after.now c.in_ok-first.first.now c.in_ok-first.ensures.cases.0
      (sym c.if-is_single_piece.ensures),
  omega (arith, c.in_ok-first.ensures.cases.1),
)

pub returns-clause-none : goal.returns-clause-none
returns-clause-none c =
    pair_none c.args.bytes.now c.in_ok-first.after.now c.in_ok-first.first.now c.strip_prefix.result c.in_ok-first.ensures.cases.0
    (sym c.if-is_single_piece.ensures) c.strip_prefix.ensures.cases

pub returns-clause-some : goal.returns-clause-some
returns-clause-some c = pair_some c.args.bytes.now c.strip_prefix.result c.strip_prefix.ensures.cases
