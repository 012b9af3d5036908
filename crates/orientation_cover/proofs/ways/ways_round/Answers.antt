use Rattle.orientation_cover.proofs.Common.{ℕ, List, subst, arith}
use Rattle.orientation_cover.proofs.ClassLemmas.{TellsUpTo, tells_all}
use Rattle.orientation_cover.proofs.ways.ways_round.Goals as goal

pub returns : goal.returns
returns c =
    let least : List ℕ = c.in_ok-least.least.items in
    tells_all c.args.faces.now least c.loop-corner.against.items c.loop-corner.corner c.len.ensures.valid c.requires.few
    c.in_ok-least.ensures.classes c.in_ok-least.ensures.least (omega (arith, c.total-total.ensures))
    (subst (λ (t : ℕ). TellsUpTo t least c.loop-corner.against.items c.loop-corner.corner) c.total-total.ensures c.loop-corner.invariant)
