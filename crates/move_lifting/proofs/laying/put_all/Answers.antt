use Rattle.move_lifting.proofs.Common.{◌++◌, subst, List, arith, common_steps, take_all, AreFreelyEqual, numbers, VertexName}
use Rattle.move_lifting.proofs.LayLemmas.{laid_more, laid_none}
use Rattle.move_lifting.proofs.laying.put_all.Goals as goal

pub loop-vertex-init : goal.loop-vertex-init
loop-vertex-init c = grind (arith, common_steps, laid_none)

pub loop-vertex-preserved : goal.loop-vertex-preserved
loop-vertex-preserved c = record {
  some = c.in_ok-put_vertex.ensures.some;
  no_spur = c.in_ok-put_vertex.ensures.no_spur;
  freely = λ mesh.
      laid_more mesh c.args.walk.now.items c.loop-vertex.walk.items c.put_vertex.new.walk.items c.args.vertices.now
      c.loop-vertex.vertex-index
      (record { 0 = 0 }) c.requires.some c.loop-vertex-test.true (c.loop-vertex.invariant.freely mesh)
      (c.in_ok-put_vertex.ensures.freely mesh);
}

pub returns-clause-freely : goal.returns-clause-freely
returns-clause-freely c mesh =
    subst (λ (l : List VertexName). AreFreelyEqual mesh (numbers c.args.walk.now.items ++ numbers l) (numbers c.loop-vertex.walk.items))
    (take_all c.loop-vertex.vertex-index c.args.vertices.now (omega (arith, c.loop-vertex-test.false)))
    (c.loop-vertex.invariant.freely mesh)
