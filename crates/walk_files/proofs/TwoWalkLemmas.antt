-- What is first wrong with two walks, of which something more is asked.
use Rattle.walk_files.proofs.Common.{◌≡◌, ℕ, ◌<◌, List, [], ◌∷◌, length, Bool, true, false, refl, sym, ap, ◌∙◌, arith, All-head, All-tail, option_or, Option, Some, None, Result, Ok, Err, IsOk, not, option_map, slice_get, All, result_err, FaceList, IsWalk, vertex_fault, edge_fault, first_fault, walks_fault, EntryFault}
use Rattle.std.proofs.Common.{cond}
use Rattle.walk_files.specs.TwoWalks.{two_fault}
use Rattle.walk_files.proofs.EntryLemmas.{both_none, none_or, walk_of_none, no_vertex_fault, no_edge_fault}

pub if_none : {A : Type 0} (b : Bool) (x : A) (o : Option A) → cond (not b) (Some x) o ≡ None → (b ≡ true) × (o ≡ None)
if_none true x o e = (refl, e)
if_none false x o e = cc

pub two_are : (walks : List (List ℕ)) (a b : List ℕ) → length walks ≡ 2 → slice_get walks 0 ≡ Some a → slice_get walks 1 ≡ Some b
    → walks ≡ a ∷ b ∷ []
two_are [] a b e f g = absurd (omega arith)
two_are (x ∷ []) a b e f g = absurd (omega arith)
two_are (x ∷ y ∷ []) a b e f g = cc
two_are (x ∷ y ∷ z ∷ rest) a b e f g = absurd (omega arith)

no_fault : (fault : ℕ → List ℕ → Option EntryFault) (first second : List ℕ) → fault 1 first ≡ None → fault 2 second ≡ None
    → first_fault fault 1 (first ∷ second ∷ []) ≡ None
no_fault fault first second one two = none_or (fault 1 first) _ one ∙ none_or (fault 2 second) None two

module _ {F : Type 0} (not_two : ℕ → F) (of_entry : EntryFault → F) (of_both : List ℕ → List ℕ → Option F) where
  abbrev fault_of : FaceList → List (List ℕ) → Option F
  fault_of mesh walks = two_fault not_two of_entry of_both mesh walks

  no_entry : (o : Option EntryFault) → option_map of_entry o ≡ None → o ≡ None
  no_entry None e = refl
  no_entry (Some fault) e = cc

  -- where nothing is wrong with two lists that have entries, they are walks, and nothing is wrong with both
  pub walks_of_none : (mesh : FaceList) (first second : List ℕ) → 0 < length first → 0 < length second
      → fault_of mesh (first ∷ second ∷ []) ≡ None
      → IsWalk mesh first × IsWalk mesh second × (of_both first second ≡ None)
  walks_of_none mesh first second some more none =
      let entries = both_none (option_map of_entry (walks_fault mesh (first ∷ second ∷ []))) (of_both first second) none in
      let parts = both_none (first_fault (vertex_fault mesh) 1 (first ∷ second ∷ [])) _
      (no_entry (walks_fault mesh (first ∷ second ∷ [])) entries.0) in
      let vertices = both_none (vertex_fault mesh 1 first) _ parts.0 in
      let edges = both_none (edge_fault mesh 1 first) _ parts.1 in (
        walk_of_none mesh 1 first some vertices.0 edges.0,
        walk_of_none mesh 2 second more (both_none (vertex_fault mesh 2 second) None vertices.1).0
            (both_none (edge_fault mesh 2 second) None edges.1).0,
        entries.1,
      )

  -- and nothing is wrong with two such walks
  pub none_of_walks : (mesh : FaceList) (walks : List (List ℕ)) (first second : List ℕ) → walks ≡ first ∷ second ∷ [] → IsWalk mesh first
      → IsWalk mesh second → of_both first second ≡ None → fault_of mesh walks ≡ None
  none_of_walks mesh walks first second two one other none =
      let used = no_fault (vertex_fault mesh) first second (no_vertex_fault mesh 1 first one) (no_vertex_fault mesh 2 second other) in
      let joined = no_fault (edge_fault mesh) first second (no_edge_fault mesh 1 first one) (no_edge_fault mesh 2 second other) in
      ap (fault_of mesh) two
      ∙ ap (λ o. option_or (option_map of_entry o) (of_both first second)) (none_or _ _ used ∙ joined)
      ∙ none

  -- the fault of an entry is that of the two
  pub two_fault-entry : (mesh : FaceList) (walks : List (List ℕ)) (fault : EntryFault) → length walks ≡ 2
      → Some fault ≡ walks_fault mesh walks → Some (of_entry fault) ≡ fault_of mesh walks
  two_fault-entry mesh [] fault two is = absurd (omega arith)
  two_fault-entry mesh (a ∷ []) fault two is = absurd (omega arith)
  two_fault-entry mesh (a ∷ b ∷ []) fault two is = ap (λ o. option_or (option_map of_entry o) (of_both a b)) is
  two_fault-entry mesh (a ∷ b ∷ c ∷ rest) fault two is = absurd (omega arith)

  -- where no entry has one, what is wrong with both decides
  pub two_fault-both : (mesh : FaceList) (walks : List (List ℕ)) (a b : List ℕ) → walks ≡ a ∷ b ∷ [] → None ≡ walks_fault mesh walks
      → of_both a b ≡ fault_of mesh walks
  two_fault-both mesh walks a b two is =
      ap (λ o. option_or (option_map of_entry o) (of_both a b)) (is ∙ ap (walks_fault mesh) two) ∙ ap (fault_of mesh) (sym two)

  -- and lists that have entries are such a pair then, if any two of them with which nothing is wrong are one
  pub two_of_none : (mesh : FaceList) (walks : List (List ℕ)) (ArePair : List (List ℕ) → Type 0) → All (λ walk. 0 < length walk) walks
      → ((first second : List ℕ) → 0 < length first → 0 < length second → fault_of mesh (first ∷ second ∷ []) ≡ None
      → ArePair (first ∷ second ∷ []))
      → fault_of mesh walks ≡ None → ArePair walks
  two_of_none mesh [] ArePair some of_two none = cc
  two_of_none mesh (a ∷ []) ArePair some of_two none = cc
  two_of_none mesh (a ∷ b ∷ []) ArePair some of_two none =
      of_two a b (All-head (λ walk. 0 < length walk) a (b ∷ []) some)
      (All-head (λ walk. 0 < length walk) b [] (All-tail (λ walk. 0 < length walk) a (b ∷ []) some)) none
  two_of_none mesh (a ∷ b ∷ c ∷ rest) ArePair some of_two none = cc

-- a result that says what is wrong says whether that is so which is so where nothing is wrong, and nowhere else
pub says : {F : Type 0} (IsSo : Type 0) (wrong : Option F) (r : Result (Unit {0}) F) → (wrong ≡ None → IsSo) → (IsSo → wrong ≡ None)
    → result_err r ≡ wrong → (IsOk r → IsSo) × (IsSo → IsOk r)
says IsSo wrong (Ok x) of_none none_of is = (λ _. of_none (sym is), λ _. refl)
says IsSo wrong (Err fault) of_none none_of is =
    (λ ok. cc, λ so. absurd (let some : Some fault ≡ None = is ∙ none_of so in cc))
