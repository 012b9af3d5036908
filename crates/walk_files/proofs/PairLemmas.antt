-- What is first wrong with two walks.
use Rattle.walk_files.proofs.Common.{◌≡◌, ℕ, ◌<◌, List, [], ◌∷◌, length, true, false, refl, eq-eqb, eqb-true, None, Result, IsOk, All, slice_index, result_err, FaceList, darts, HaveCommonEnds, IsPair, ends_fault, pair_fault, EndsDiffer}
use Rattle.std.specs.Prelude.{◌==◌}
use Rattle.walk_files.specs.Pairs.{of_entry}
use Rattle.walk_files.specs.declared.pair.PairFault.{PairFault}
use Rattle.walk_files.specs.declared.pair.PairFault.TheVariants.{NotTwo}
use Rattle.walk_files.proofs.TwoWalkLemmas.{if_none, none_of_walks, walks_of_none, two_of_none, says}

no_ends_fault : (first second : List ℕ) → HaveCommonEnds first second → ends_fault first second ≡ None
no_ends_fault first second ends =
    rw (
      eq-eqb (slice_index first 0) (slice_index second 0) ends.starts,
      eq-eqb (slice_index first (darts first)) (slice_index second (darts second)) ends.ends,
    ) refl

ends_of_none : (first second : List ℕ) → ends_fault first second ≡ None → HaveCommonEnds first second
ends_of_none first second none =
    let starts = if_none (slice_index first 0 == slice_index second 0) (EndsDiffer true) _ none in
    let ends = if_none (slice_index first (darts first) == slice_index second (darts second)) (EndsDiffer false) None starts.1 in
    record { starts = eqb-true _ _ starts.0; ends = eqb-true _ _ ends.0 }

-- nothing is wrong with two walks that have entries exactly where they are a pair
pub pair_of_none : (mesh : FaceList) (first second : List ℕ) → 0 < length first → 0 < length second
    → pair_fault mesh (first ∷ second ∷ []) ≡ None
    → IsPair mesh (first ∷ second ∷ [])
pair_of_none mesh first second some more none =
    let walks = walks_of_none NotTwo of_entry ends_fault mesh first second some more none in
    record {
      first = first;
      second = second;
      two = refl;
      are = record { first_walk = walks.0; second_walk = walks.1; ends = ends_of_none first second walks.2 };
    }

pub none_of_pair : (mesh : FaceList) (walks : List (List ℕ)) → IsPair mesh walks → pair_fault mesh walks ≡ None
none_of_pair mesh walks pair =
    none_of_walks NotTwo of_entry ends_fault mesh walks pair.first pair.second pair.two pair.are.first_walk
    pair.are.second_walk (no_ends_fault pair.first pair.second pair.are.ends)

-- a result that says what is wrong says whether the walks are a pair
pub says_pair : (mesh : FaceList) (walks : List (List ℕ)) (r : Result (Unit {0}) PairFault) → All (λ walk. 0 < length walk) walks
    → result_err r ≡ pair_fault mesh walks → (IsOk r → IsPair mesh walks) × (IsPair mesh walks → IsOk r)
says_pair mesh walks r some =
    says (IsPair mesh walks) (pair_fault mesh walks) r
    (two_of_none NotTwo of_entry ends_fault mesh walks (IsPair mesh) some (pair_of_none mesh)) (none_of_pair mesh walks)
