use Rattle.turn_words.proofs.Common.{length, in-range-from}
use Rattle.turn_words.proofs.Spokes.{along, leads}
use Rattle.turn_words.proofs.laws.spokes_lead_from_any_state_to_the_canonical_word.Goals as goal

pub returns : goal.returns
returns c = record {
  canonical = λ places s spokes b all. leads places s spokes b (in-range-from (length places) spokes all);
  noted = λ places s spokes steps b all. along places s spokes steps b (in-range-from (length places) spokes all);
}
