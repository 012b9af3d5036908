use Rattle.text_scan.proofs.Common.{arith}
use Rattle.text_scan.proofs.ViewLemmas.{has_word}
use Rattle.text_scan.proofs.cursor.Cursor.has_word.Goals as goal

pub returns : goal.returns
returns c = grind (arith, has_word)
