use Rattle.turn_words.proofs.Spokes.{notes-lead}
use Rattle.turn_words.proofs.laws.noted_steps_lead_to_the_canonical_word.Goals as goal

pub returns : goal.returns
returns c = notes-lead
