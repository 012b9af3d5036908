use Rattle.move_checker.proofs.VerdictLaws.{peak_exactly, at_move_exactly, end_exactly}
use Rattle.move_checker.proofs.laws.verdicts_in_words.Goals as goal

pub returns : goal.returns
returns c = record { peak = peak_exactly; at_move = at_move_exactly; end = end_exactly }
