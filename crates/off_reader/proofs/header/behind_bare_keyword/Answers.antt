use Rattle.off_reader.proofs.HeaderLemmas.{no_line_behind}
use Rattle.off_reader.proofs.header.behind_bare_keyword.Goals as goal

pub returns-in_default-clause-header : goal.returns-in_default-clause-header
returns-in_default-clause-header c = no_line_behind c.args.coordinates c.args.cursor.now c.in_default.ensures.word
