use Rattle.move_lifting.proofs.Common.{LeadsAtPeak, last_of, ◌≡◌, ◌+◌, ◌*◌, ◌-◌, ◌≤◌, ◌++◌, max, ℕ, List, length, drop, get_or, FaceList, numbers, IsWalk, darts}
use Rattle.move_lifting.proofs.lifting.append_back.Given as goal

abbrev pub invariant-loop-done : goal.invariant-loop-done
invariant-loop-done l = record {
  peak : l.moves.peak ≤ max l.initial.moves.peak (darts (numbers l.initial.vertices.items) + 2 * l.done);
  count : length l.moves.moves ≡ length l.initial.moves.moves + l.done;
  long : length l.vertices.items ≡ length l.initial.vertices.items + l.done;
  last : last_of (numbers l.vertices.items) ≡ get_or l.walk (l.darts - l.done) 0;
  leads : (mesh : FaceList) (first : List ℕ) → IsWalk mesh l.walk
      → LeadsAtPeak mesh first l.initial.moves (numbers l.initial.vertices.items)
      → LeadsAtPeak mesh first l.moves (numbers l.vertices.items ++ drop (l.darts - l.done + 1) l.walk);
}
