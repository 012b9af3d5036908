use Rattle.turn_words.proofs.Led.{led-append, notes-append}
use Rattle.turn_words.proofs.laws.lists_of_spokes_are_put_one_after_another.Goals as goal

pub returns : goal.returns
returns g c = record { led = led-append g.F.Form.next; notes = λ places. notes-append g.F.Form.next places g.F.Form.Notes }
