use Rattle.move_lifting.proofs.Common.{walks_loop, ℕ, ◌++◌, true, List, subst, arith, take_all, AreFreelyEqual, numbers}
use Rattle.move_lifting.proofs.ApproachLemmas.{walk_within}
use Rattle.move_lifting.proofs.ExpandLemmas.{length-numbers}
use Rattle.move_lifting.proofs.FrontLemmas.{turned_more, walked_more}
use Rattle.move_lifting.proofs.looping.put_spokes.Goals as goal

pub get-requires : goal.get-requires
get-requires c = grind (arith, walk_within)

pub put_spoke-requires-clause-spoke : goal.put_spoke-requires-clause-spoke
put_spoke-requires-clause-spoke c = grind (arith, length-numbers)

pub loop-spoke-preserved : goal.loop-spoke-preserved
loop-spoke-preserved c =
    let front : List ℕ = c.args.front.now in
    let k : ℕ = c.loop-spoke.spoke-index in
    record {
      some = c.in_ok-put_spoke.ensures.some;
      no_spur = c.in_ok-put_spoke.ensures.no_spur;
      way = turned_more front k 0 c.loop-spoke.along c.loop-spoke-test.true c.loop-spoke.invariant.way;
      freely = λ mesh.
          walked_more mesh c.args.spokes.now front (numbers c.args.walk.now.items) (numbers c.loop-spoke.walk.items)
          (numbers c.put_spoke.new.walk.items)
          (numbers c.get.result.now) k 0 c.loop-spoke.along (omega (arith, c.requires.some, length-numbers c.args.walk.now.items))
          c.loop-spoke-test.true
          c.loop-spoke.invariant.way c.get.ensures (c.loop-spoke.invariant.freely mesh) (c.in_ok-put_spoke.ensures.freely mesh);
    }

pub returns-clause-freely : goal.returns-clause-freely
returns-clause-freely c mesh =
    subst (λ (l : List ℕ). AreFreelyEqual mesh (numbers c.args.walk.now.items ++ walks_loop c.args.spokes.now true l)
    (numbers c.loop-spoke.walk.items))
    (take_all c.loop-spoke.spoke-index c.args.front.now (omega (arith, c.loop-spoke-test.false))) (c.loop-spoke.invariant.freely mesh)
