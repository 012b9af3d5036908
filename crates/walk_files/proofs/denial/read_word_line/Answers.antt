use Rattle.walk_files.proofs.Common.{sym, ◌∙◌}
use Rattle.walk_files.proofs.FewLemmas.{few-found}
use Rattle.walk_files.proofs.denial.read_word_line.Goals as goal

pub read_turns-requires-clause-few : goal.read_turns-requires-clause-few
read_turns-requires-clause-few c =
    few-found c.args.cursor.now c.find_line.new.self (sym c.find_line.ensures.found ∙ c.if-not-find_line.false) c.find_line.ensures.place
    c.requires.words
