use Rattle.move_lifting.proofs.Common.{Pooled, IsPushed, ℕ, ◌++◌, List, length, drop, ap, ◌+◌, arith, common_steps, numbers}
use Rattle.move_lifting.proofs.ChainLemmas.{IsPutIn, put_in, pushed_both}
use Rattle.move_lifting.proofs.pooled_walk.PooledWalk.put_in.Goals as goal
use Rattle.move_lifting.proofs.pooled_walk.PooledWalk.put_in.Goals.{After-splice}

pub start_chain-piece-requires : goal.start_chain-piece-requires
start_chain-piece-requires c = grind arith

pub push_all-requires-clause-spare : goal.push_all-requires-clause-spare
push_all-requires-clause-spare c = grind arith

pub push_all-requires-2-clause-spare : goal.push_all-requires-2-clause-spare
push_all-requires-2-clause-spare c = grind (arith, common_steps)

-- what is moved in
abbrev piece_of : After-splice → List ℕ
piece_of c = numbers c.args.there.now ++ (drop 1 c.args.turn.now ++ numbers c.args.back.now)

put : (c : After-splice) → IsPutIn c.self.inside.pool c.splice.new.self c.self.inside.chain c.args.place (piece_of c)
put c =
    let there : List ℕ = numbers c.args.there.now in
    let turn : List ℕ = drop 1 c.args.turn.now in
    let back : List ℕ = numbers c.args.back.now in
    let piece = c.start_chain-piece.result in
    let around : IsPushed c.push_all.new.pool c.push_all-2.new.pool piece (turn ++ back) =
    pushed_both c.push_turn.ensures c.push_all-2.ensures in
    put_in c.self.inside.pool c.start_chain-piece.new.self c.push_all-2.new.pool c.splice.new.self c.self.inside.chain piece c.args.place
    (there ++ (turn ++ back)) c.self.invariant c.start_chain-piece.ensures.was c.start_chain-piece.ensures.list
    c.start_chain-piece.ensures.spare
    (pushed_both c.push_all.ensures around)
    (omega (arith, c.requires.place, ap (λ (p : Pooled). length p.walk) c.self.view_is))
    c.splice.ensures.list c.splice.ensures.gone c.splice.ensures.others c.splice.ensures.spare

pub invariant_of-self : goal.invariant_of-self
invariant_of-self c = (put (goal.at.invariant_of-self c).After-splice).alone

pub returns-clause-walk : goal.returns-clause-walk
returns-clause-walk c = grind (arith, put)

pub returns-clause-cells : goal.returns-clause-cells
returns-clause-cells c = grind (arith, put)
