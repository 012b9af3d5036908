use Rattle.text_scan.proofs.Common.{ap, ◌+◌, length, cut_lines}
use Rattle.text_scan.proofs.ViewLemmas.{starts}
use Rattle.text_scan.proofs.cursor.Cursor.new.Goals as goal

pub returns-clause-lines : goal.returns-clause-lines
returns-clause-lines c = starts c.unmarked-text.result.now c.args.text.now c.unmarked-text.result.now c.unmarked-text.ensures

pub returns-clause-end : goal.returns-clause-end
returns-clause-end c = ap (λ text. length (cut_lines text) + 1) c.unmarked-text.ensures
