use Rattle.move_lifting.proofs.Common.{walks_loop, ◌≡◌, ◌<◌, ◌++◌, true, length, take, FaceList, AreFreelyEqual, HasNoSpur, numbers}
use Rattle.move_lifting.proofs.FrontLemmas.{turned_by}
use Rattle.move_lifting.proofs.looping.put_spokes.Given as goal

abbrev pub invariant-loop-spoke : goal.invariant-loop-spoke
invariant-loop-spoke l = record {
  some : 0 < length l.walk.items;
  no_spur : HasNoSpur (numbers l.walk.items);
  way : l.along ≡ turned_by true (take l.spoke-index l.front);
  freely : (mesh : FaceList)
      → AreFreelyEqual mesh (numbers l.initial.walk.items ++ walks_loop l.spokes true (take l.spoke-index l.front)) (numbers l.walk.items);
}
