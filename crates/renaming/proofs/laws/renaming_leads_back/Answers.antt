use Rattle.renaming.proofs.RenamedSides.{led_back}
use Rattle.renaming.proofs.laws.renaming_leads_back.Goals as goal

pub returns : goal.returns
returns c = led_back
