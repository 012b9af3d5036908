use Rattle.homotopy_arrays.proofs.Common.{first_walks, length_fault, walk_in_arrays, ◌≡◌, ◌<◌, ℕ, sum, take, None}
use Rattle.homotopy_arrays.proofs.classes.cut.Given as goal

-- the walks so far
abbrev pub invariant-loop-place : goal.invariant-loop-place
invariant-loop-place l =
    record {
      start : l.at ≡ sum (take l.place l.sizes);
      walks : l.walks.items ≡ first_walks l.sizes l.vertices l.place;
      good : (k : ℕ) → k < l.place → length_fault 1 (walk_in_arrays l.sizes l.vertices k) ≡ None;
    }
