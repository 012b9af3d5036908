use Rattle.turn_words.proofs.Table.{five_cases}
use Rattle.turn_words.proofs.laws.turn_is_put_by_cases.Goals as goal

pub returns : goal.returns
returns c = five_cases
