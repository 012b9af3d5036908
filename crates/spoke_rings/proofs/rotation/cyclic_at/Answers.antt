use Rattle.spoke_rings.proofs.Common.{sym}
use Rattle.spoke_rings.proofs.Along.{along-first, along-second}
use Rattle.spoke_rings.proofs.rotation.cyclic_at.Goals as goal

pub returns-then-at-spokes : goal.returns-then-at-spokes
returns-then-at-spokes c = sym (along-first c.args.spokes.now c.args.at c.if-at-spokes.true)

pub returns-else-at-spokes : goal.returns-else-at-spokes
returns-else-at-spokes c = sym (along-second c.args.spokes.now c.args.at c.if-at-spokes.false c.requires.below)
