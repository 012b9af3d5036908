use Rattle.text_scan.proofs.Common.{◌≡◌, length, are_words, words_here}
use Rattle.text_scan.proofs.cursor.Cursor.pass_words.Given as goal

-- the words so far are the same
abbrev pub invariant-loop-word : goal.invariant-loop-word
invariant-loop-word l = are_words l.fn.self.words (words_here l.fn.line) ≡ are_words l.left l.wanted

abbrev pub decreases-loop-word : goal.decreases-loop-word
decreases-loop-word l = length l.wanted
