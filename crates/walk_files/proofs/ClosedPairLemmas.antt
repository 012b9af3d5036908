-- What is first wrong with two closed walks.
use Rattle.walk_files.proofs.Common.{◌≡◌, ℕ, ◌<◌, List, [], ◌∷◌, length, refl, eq-eqb, eqb-true, None, Result, IsOk, All, slice_index, result_err, FaceList, darts, IsClosedPair, of_entry, open_fault, loops_fault, NotClosed, NotTwo}
use Rattle.std.specs.Prelude.{◌==◌}
use Rattle.walk_files.specs.declared.loops.LoopFault.{LoopFault}
use Rattle.walk_files.proofs.TwoWalkLemmas.{if_none, none_of_walks, walks_of_none, two_of_none, says}

-- a list ends where it starts
abbrev Closes : List ℕ → Type 0
Closes walk = slice_index walk (darts walk) ≡ slice_index walk 0

no_open_fault : (first second : List ℕ) → Closes first → Closes second → open_fault first second ≡ None
no_open_fault first second one two =
    rw (
      eq-eqb (slice_index first (darts first)) (slice_index first 0) one,
      eq-eqb (slice_index second (darts second)) (slice_index second 0) two,
    ) refl

closed_of_none : (first second : List ℕ) → open_fault first second ≡ None → Closes first × Closes second
closed_of_none first second none =
    let one = if_none (slice_index first (darts first) == slice_index first 0) (NotClosed 1) _ none in
    let two = if_none (slice_index second (darts second) == slice_index second 0) (NotClosed 2) None one.1 in
    (eqb-true _ _ one.0, eqb-true _ _ two.0)

-- nothing is wrong with two walks that have entries exactly where they are a pair
pub loops_of_none : (mesh : FaceList) (first second : List ℕ) → 0 < length first → 0 < length second
    → loops_fault mesh (first ∷ second ∷ []) ≡ None
    → IsClosedPair mesh (first ∷ second ∷ [])
loops_of_none mesh first second some more none =
    let walks = walks_of_none NotTwo of_entry open_fault mesh first second some more none in
    let closed = closed_of_none first second walks.2 in
    record {
      first = first;
      second = second;
      two = refl;
      first_closed = record { is_walk = walks.0; closed = closed.0 };
      second_closed = record { is_walk = walks.1; closed = closed.1 };
    }

pub none_of_loops : (mesh : FaceList) (walks : List (List ℕ)) → IsClosedPair mesh walks → loops_fault mesh walks ≡ None
none_of_loops mesh walks pair =
    none_of_walks NotTwo of_entry open_fault mesh walks pair.first pair.second pair.two pair.first_closed.is_walk
    pair.second_closed.is_walk (no_open_fault pair.first pair.second pair.first_closed.closed pair.second_closed.closed)

-- a result that says what is wrong says whether the walks are such a pair
pub says_loops : (mesh : FaceList) (walks : List (List ℕ)) (r : Result (Unit {0}) LoopFault) → All (λ walk. 0 < length walk) walks
    → result_err r ≡ loops_fault mesh walks → (IsOk r → IsClosedPair mesh walks) × (IsClosedPair mesh walks → IsOk r)
says_loops mesh walks r some =
    says (IsClosedPair mesh walks) (loops_fault mesh walks) r
    (two_of_none NotTwo of_entry open_fault mesh walks (IsClosedPair mesh) some (loops_of_none mesh)) (none_of_loops mesh walks)
