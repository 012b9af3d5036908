use Rattle.polygon_cut.proofs.FreeLawLemmas.{led_off}
use Rattle.polygon_cut.proofs.laws.walks_are_freely_their_spokes.Goals as goal

pub returns : goal.returns
returns c = led_off
