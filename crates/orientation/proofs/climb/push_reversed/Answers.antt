use Rattle.orientation.proofs.Common.{length, List, ap, arith, length_push, ChainLink}
use Rattle.orientation.proofs.ClimbLemmas.{length-reversed}
use Rattle.orientation.proofs.climb.push_reversed.Goals as goal

pub push-requires : goal.push-requires
push-requires c =
    omega (
      arith,
      c.requires,
      length-reversed c.loop-last.chain c.loop-last.links.items c.args.chain.now c.args.links.items c.loop-last.invariant,
      ap (λ (xs : List ChainLink). length xs) c.in-Some.ensures.items,
      length_push c.pop.new.self.items c.in-Some.last,
    )
