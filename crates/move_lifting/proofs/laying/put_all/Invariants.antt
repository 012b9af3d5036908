use Rattle.move_lifting.proofs.Common.{◌<◌, ◌++◌, length, take, FaceList, AreFreelyEqual, HasNoSpur, numbers}
use Rattle.move_lifting.proofs.laying.put_all.Given as goal

abbrev pub invariant-loop-vertex : goal.invariant-loop-vertex
invariant-loop-vertex l = record {
  some : 0 < length l.walk.items;
  no_spur : HasNoSpur (numbers l.walk.items);
  freely : (mesh : FaceList) → AreFreelyEqual mesh (numbers l.initial.walk.items ++ numbers (take l.vertex-index l.vertices))
      (numbers l.walk.items);
}
