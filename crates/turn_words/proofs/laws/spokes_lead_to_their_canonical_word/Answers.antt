use Rattle.turn_words.proofs.Spokes.{turns, canonical}
use Rattle.turn_words.proofs.laws.spokes_lead_to_their_canonical_word.Goals as goal

pub returns : goal.returns
returns c = record { turns = turns; canonical = canonical }
