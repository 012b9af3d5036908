use Rattle.move_lifting.proofs.Common.{LeadsAtPeak, last_of, backward, ◌≡◌, ℕ, ◌+◌, ◌-◌, ◌≤◌, ◌++◌, max, List, length, take, drop, FaceList, numbers, IsWalk}
use Rattle.move_lifting.proofs.inserting.insert_there_and_back.Given as goal

abbrev pub invariant-loop-place : goal.invariant-loop-place
invariant-loop-place l =
    let walk : List ℕ = numbers l.approach in
    let back : List ℕ = backward (last_of (take l.common walk)) (drop l.common (take l.place walk)) in
    record {
      count : l.behind + l.common ≡ l.after + l.place;
      peak : l.moves.peak ≤ max l.initial.moves.peak (l.place - 1 + (l.place - l.common) + l.after);
      leads : (mesh : FaceList) (first rest : List ℕ) → IsWalk mesh walk → length rest ≡ l.after
          → LeadsAtPeak mesh first l.initial.moves (take l.common walk ++ rest)
          → LeadsAtPeak mesh first l.moves (take l.place walk ++ (back ++ rest));
    }
