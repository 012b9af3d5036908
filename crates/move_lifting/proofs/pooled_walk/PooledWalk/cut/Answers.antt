use Rattle.move_lifting.proofs.Common.{list_of, cut, Pooled, ◌≤◌, length, ap, arith}
use Rattle.move_lifting.proofs.ChainLemmas.{alone_on, length-cut}
use Rattle.move_lifting.proofs.pooled_walk.PooledWalk.cut.Goals as goal

pub invariant_of-self : goal.invariant_of-self
invariant_of-self c =
    let list = list_of c.self.inside.pool c.self.inside.chain.0 in
    let within : c.args.to ≤ length list = omega (arith, c.requires.within, ap (λ (p : Pooled). length p.walk) c.self.view_is) in
    let long = length-cut list c.args.from c.args.to c.requires.order within in
    alone_on c.self.inside.pool c.cut_between.new.self c.self.inside.chain (cut list c.args.from c.args.to)
    c.self.invariant c.cut_between.ensures.list (omega (arith, long, within, c.requires.starts, c.requires.order))
    (omega (arith, long, c.cut_between.ensures.spare))
