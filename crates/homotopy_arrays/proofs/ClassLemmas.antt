-- Walks that are cut from arrays, and their classes.
use Rattle.homotopy_arrays.proofs.Common.{IsCompactSurface, AreClassed, AreClassesIn, AreCut, IsFirstNone, IsNoClassesIn, IsWalkIn, first_walks, length_fault, walk_in_arrays, ◌≡◌, ◌≢◌, ℕ, ◌+◌, ◌<◌, ◌≤◌, List, [], ◌∷◌, ◌++◌, length, get_or, refl, sym, ap, ap₂, subst, ◌∙◌, arith, Vec, MatchResult, None, Result, Ok, Err, FaceList, IsWalk, IsFirstNoWalk, AreClasses}
use Rattle.homotopy_arrays.specs.declared.classes.NoClasses.{NoClasses}
use Rattle.std.proofs.lemmas.List.FromFn.{get_or-map-range_with_len, length-map-range_with_len, map-range_with_len_more}
use Rattle.std.specs.Prelude.{sum}
use Rattle.homotopy_arrays.proofs.PairLemmas.{length_fits, length_good}

-- ---- cutting

-- one walk more
pub cut_more : (sizes vertices : List ℕ) (walks next : List (List ℕ)) (k : ℕ) (walk : List ℕ) → next ≡ walks ++ walk ∷ []
    → walks ≡ first_walks sizes vertices k → walk ≡ walk_in_arrays sizes vertices k → next ≡ first_walks sizes vertices (k + 1)
cut_more sizes vertices walks next k walk grown are is =
    grown ∙ ap₂ (λ (l : List (List ℕ)) (w : List ℕ). l ++ w ∷ []) are is
    ∙ sym (map-range_with_len_more (walk_in_arrays sizes vertices) 0 k k (omega arith))

-- so many walks are cut
pub cut_at : (sizes vertices : List ℕ) (walks : List (List ℕ)) (k : ℕ) → walks ≡ first_walks sizes vertices k → k ≤ length sizes
    → ((j : ℕ) → j < k → length_fault 1 (walk_in_arrays sizes vertices j) ≡ None)
    → (k < length sizes → length_fault 1 (walk_in_arrays sizes vertices k) ≢ None) → AreCut sizes vertices walks
cut_at sizes vertices walks k are within good ended =
    let many : length walks ≡ k = ap length are ∙ length-map-range_with_len (walk_in_arrays sizes vertices) 0 k in
    record {
      within = omega (arith, many, within);
      are = are ∙ ap (first_walks sizes vertices) (sym many);
      good = λ j l. good j (omega (arith, l, many));
      ended = λ l.
          subst (λ (n : ℕ). length_fault 1 (walk_in_arrays sizes vertices n) ≢ None) (sym many) (ended (omega (arith, l, many)));
    }

read_cut : (sizes vertices : List ℕ) (walks : List (List ℕ)) (k : ℕ) → AreCut sizes vertices walks → k < length walks
    → get_or walks k [] ≡ walk_in_arrays sizes vertices k
read_cut sizes vertices walks k cut l =
    ap (λ (w : List (List ℕ)). get_or w k []) cut.are
    ∙ get_or-map-range_with_len (walk_in_arrays sizes vertices) 0 (length walks) k k [] l (omega arith)

-- ---- walks of the mesh

walk_in : (mesh : FaceList) (walk : List ℕ) → IsWalk mesh walk → length_fault 1 walk ≡ None → IsWalkIn mesh walk
walk_in mesh walk is good =
    let few = (length_good 1 walk good).1 in
    record { first_walk = is; second_walk = is; ends = record { starts = refl; ends = refl }; few = (few, few) }

-- a walk that was cut
cut_walk_in : (mesh : FaceList) (sizes vertices : List ℕ) (walks : List (List ℕ)) (k : ℕ) → AreCut sizes vertices walks → k < length walks
    → IsWalk mesh (get_or walks k []) → IsWalkIn mesh (walk_in_arrays sizes vertices k)
cut_walk_in mesh sizes vertices walks k cut l is =
    walk_in mesh (walk_in_arrays sizes vertices k) (subst (IsWalk mesh) (read_cut sizes vertices walks k cut l) is) (cut.good k l)

-- all are cut, and are walks with their classes
pub all_classes : (mesh : FaceList) (sizes vertices given : List ℕ) (walks : List (List ℕ)) → AreCut sizes vertices walks
    → length walks ≡ length sizes → AreClasses mesh walks given → AreClassesIn mesh sizes vertices given
all_classes mesh sizes vertices given walks cut all are =
    record {
      are_walks = λ k l.
          let few : k < length walks = omega (arith, l, all) in
          cut_walk_in mesh sizes vertices walks k cut few (are.are_walks k few);
      classes = subst (λ (w : List (List ℕ)). AreClasses mesh w given) (cut.are ∙ ap (first_walks sizes vertices) all) are;
    }

-- the first list that is none is the one that was not cut
pub not_cut : (mesh : FaceList) (sizes vertices given : List ℕ) (walks : List (List ℕ)) → AreCut sizes vertices walks
    → length walks ≢ length sizes → AreClasses mesh walks given → IsFirstNone mesh sizes vertices (length walks)
not_cut mesh sizes vertices given walks cut more are =
    let less : length walks < length sizes = omega (arith, more, cut.within) in
    record {
      within = less;
      none = λ is. cut.ended less (length_fits 1 (walk_in_arrays sizes vertices (length walks)) is.first_walk.starts is.few.0);
      before = λ k l. cut_walk_in mesh sizes vertices walks k cut l (are.are_walks k l);
    }

-- or one that was
pub none_cut : (mesh : FaceList) (sizes vertices : List ℕ) (walks : List (List ℕ)) (place : ℕ) → AreCut sizes vertices walks
    → IsFirstNoWalk mesh walks place → IsFirstNone mesh sizes vertices place
none_cut mesh sizes vertices walks place cut none =
    record {
      within = omega (arith, none.within, cut.within);
      none = λ is.
          none.no_walk (subst (IsWalk mesh) (sym (read_cut sizes vertices walks place cut none.within)) is.first_walk);
      before = λ k l. cut_walk_in mesh sizes vertices walks k cut (omega (arith, l, none.within)) (none.before k l);
    }

-- ---- on a mesh that is kept
