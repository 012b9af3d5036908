use Rattle.walk_files.proofs.Common.{sym, ap, ◌∙◌, is_filled, has_header}
use Rattle.walk_files.proofs.HeaderLemmas.{no_header, first_line}
use Rattle.walk_files.proofs.walks.has_header.Goals as goal

pub returns-then-not-find_line : goal.returns-then-not-find_line
returns-then-not-find_line c =
    no_header _ (sym c.if-not-find_line.true ∙ c.find_line.ensures.found ∙ ap is_filled c.new-cursor.ensures.lines)

pub returns : goal.returns
returns c =
    first_line c.new-cursor.result c.find_line.new.self c.pass_words.result (sym c.find_line.ensures.found ∙ c.if-not-find_line.false)
    c.find_line.ensures.place c.pass_words.ensures.answer
    ∙ ap has_header c.new-cursor.ensures.lines
