-- Decisions on pairs: one more, all of them, and what they are worth.
use Rattle.pair_commands.proofs.Common.{IsSound, Answer, End, Refuse, Pass, Yes, No, IsHomotopic, IsDecision, AreDecisions, ArePairsDecided, all_decided, decisions_answer, ◌≡◌, ◌↔◌, ℕ, zero, suc, ◌+◌, ◌*◌, ◌/◌, ◌<◌, true, List, [], ◌∷◌, length, get_or, refl, sym, ap, ◌∙◌, subst, arith, All, Option, Some, slice_get, Files, FaceList, IsWalk, HaveCommonEnds, AreWalkPair, WalkPair, ArePairs, are_paired, walks_in_pairs, WalkText, IsFoundOn}
use Rattle.commands.proofs.Deciding.{differs, one_decision}
use Rattle.commands.specs.Certificates.{decisions_status}
use Rattle.std.proofs.lemmas.Bool.Decides.{nat_tests}
use Rattle.std.proofs.lemmas.List.Elements.{All-nil, All-cons, All-head, All-tail}
use Rattle.surf_model.specs.declared.decisions.Answer.TheVariants.{Homotopic, Different}
use Rattle.surf_model.specs.Moves as moves
use Rattle.surf_model.specs.declared.decisions.Answer as deciding

-- ---- the pairs of a list of walks

abbrev pair_of : (a b : List ℕ) → Option WalkPair
pair_of a b = Some (record { first = a; second = b })

-- pair k has the walks 2 k and 2 k + 1
pub pair_at : (walks : List (List ℕ)) (k : ℕ) (a b : List ℕ) → slice_get walks (2 * k) ≡ Some a → slice_get walks (2 * k + 1) ≡ Some b
    → slice_get (walks_in_pairs walks) k ≡ Some (record { first = a; second = b })
pair_at [] zero a b e f = cc
pair_at [] (suc k) a b e f = cc
pair_at (x ∷ []) zero a b e f = cc
pair_at (x ∷ []) (suc k) a b e f =
    let later : 2 * suc k ≡ suc (suc (2 * k)) = omega arith in
    let none : slice_get (x ∷ []) (suc (suc (2 * k))) ≡ Some a = subst (λ n. slice_get (x ∷ []) n ≡ Some a) later e in
    cc
pair_at (x ∷ y ∷ walks) zero a b e f =
    let one : x ≡ a = cc in
    let other : y ≡ b = cc in
    ap (λ (w : List ℕ). pair_of w y) one ∙ ap (λ (w : List ℕ). pair_of a w) other
pair_at (x ∷ y ∷ walks) (suc k) a b e f =
    let later : 2 * suc k ≡ suc (suc (2 * k)) = omega arith in
    let last : 2 * suc k + 1 ≡ suc (suc (2 * k + 1)) = omega arith in
    pair_at walks k a b (subst (λ n. slice_get (x ∷ y ∷ walks) n ≡ Some a) later e)
    (subst (λ n. slice_get (x ∷ y ∷ walks) n ≡ Some b) last f)

pub all_at : {A : Type 0} (P : A → Type 0) (xs : List A) (k : ℕ) (x : A) → All P xs → slice_get xs k ≡ Some x → P x
all_at P [] k x all e = cc
all_at P (y ∷ xs) zero x all e = let same : y ≡ x = cc in subst P same (All-head P y xs all)
all_at P (y ∷ xs) (suc k) x all e = all_at P xs k x (All-tail P y xs all) e

-- the two walks of pair k
pub walks_at : (mesh : FaceList) (text : WalkText) (k : ℕ) (a b : List ℕ) → ArePairs mesh text → slice_get text.walks (2 * k) ≡ Some a
    → slice_get text.walks (2 * k + 1) ≡ Some b → AreWalkPair mesh a b
walks_at mesh text k a b pairs e f =
    record {
      first_walk = all_at (IsWalk mesh) text.walks (2 * k) a pairs.walks e;
      second_walk = all_at (IsWalk mesh) text.walks (2 * k + 1) b pairs.walks f;
      ends = all_at (λ (pair : WalkPair). HaveCommonEnds pair.first pair.second) (walks_in_pairs text.walks) k
          (record { first = a; second = b }) pairs.ends (pair_at text.walks k a b e f);
    }

-- ---- walks that come in pairs

-- the number of such walks is even
pub paired_even : (version count : ℕ) → are_paired version count ≡ true → count ≡ 2 * (count / 2)
paired_even version count is = grind (arith, nat_tests)

-- of the first pairs, as many as that, each has two walks of the mesh with common ends
abbrev pub ArePairsBelow : FaceList → List (List ℕ) → ℕ → Type 0
ArePairsBelow mesh walks n =
    (k : ℕ) (a b : List ℕ) → k < n → slice_get walks (2 * k) ≡ Some a → slice_get walks (2 * k + 1) ≡ Some b → AreWalkPair mesh a b

-- all pairs but the first
later_pairs : (mesh : FaceList) (x y : List ℕ) (walks : List (List ℕ)) (n : ℕ) → ArePairsBelow mesh (x ∷ y ∷ walks) (suc n)
    → ArePairsBelow mesh walks n
later_pairs mesh x y walks n below = λ k a b l p q.
    let later : 2 * suc k ≡ suc (suc (2 * k)) = omega arith in
    let last : 2 * suc k + 1 ≡ suc (suc (2 * k + 1)) = omega arith in
    below (suc k) a b (omega (arith, l)) (subst (λ i. slice_get (x ∷ y ∷ walks) i ≡ Some a) (sym later) p)
    (subst (λ i. slice_get (x ∷ y ∷ walks) i ≡ Some b) (sym last) q)

first_pair : (mesh : FaceList) (x y : List ℕ) (walks : List (List ℕ)) (n : ℕ) → ArePairsBelow mesh (x ∷ y ∷ walks) (suc n)
    → AreWalkPair mesh x y
first_pair mesh x y walks n below = below 0 x y (omega arith) refl refl

-- then all are walks, and all pairs have common ends
walks_of_pairs : (mesh : FaceList) (walks : List (List ℕ)) (n : ℕ) → length walks ≡ 2 * n → ArePairsBelow mesh walks n
    → All (IsWalk mesh) walks
walks_of_pairs mesh [] n e below = All-nil (IsWalk mesh)
walks_of_pairs mesh (x ∷ []) n e below = absurd (omega (arith, e))
walks_of_pairs mesh (x ∷ y ∷ walks) zero e below = absurd (omega (arith, e))
walks_of_pairs mesh (x ∷ y ∷ walks) (suc n) e below =
    let pair = first_pair mesh x y walks n below in
    All-cons (IsWalk mesh) x (y ∷ walks) pair.first_walk
    (All-cons (IsWalk mesh) y walks pair.second_walk
    (walks_of_pairs mesh walks n (omega (arith, e)) (later_pairs mesh x y walks n below)))

abbrev HasCommonEnds : WalkPair → Type 0
HasCommonEnds pair = HaveCommonEnds pair.first pair.second

ends_of_pairs : (mesh : FaceList) (walks : List (List ℕ)) (n : ℕ) → length walks ≡ 2 * n → ArePairsBelow mesh walks n
    → All HasCommonEnds (walks_in_pairs walks)
ends_of_pairs mesh [] n e below = All-nil HasCommonEnds
ends_of_pairs mesh (x ∷ []) n e below = All-nil HasCommonEnds
ends_of_pairs mesh (x ∷ y ∷ walks) zero e below = absurd (omega (arith, e))
ends_of_pairs mesh (x ∷ y ∷ walks) (suc n) e below =
    All-cons HasCommonEnds (record { first = x; second = y }) (walks_in_pairs walks) (first_pair mesh x y walks n below).ends
    (ends_of_pairs mesh walks n (omega (arith, e)) (later_pairs mesh x y walks n below))

pub all_pairs : (mesh : FaceList) (text : WalkText) (n : ℕ) → are_paired text.version (length text.walks) ≡ true
    → length text.walks ≡ 2 * n → ArePairsBelow mesh text.walks n → ArePairs mesh text
all_pairs mesh text n paired e below = record {
  paired = paired;
  walks = walks_of_pairs mesh text.walks n e below;
  ends = ends_of_pairs mesh text.walks n e below;
}

-- and with one that is none they are no such list
pub no_pairs : (mesh : FaceList) (text : WalkText) (k : ℕ) (a b : List ℕ) → slice_get text.walks (2 * k) ≡ Some a
    → slice_get text.walks (2 * k + 1) ≡ Some b → (AreWalkPair mesh a b → ⊥) → ArePairs mesh text → ⊥
no_pairs mesh text k a b e f none pairs =
    let walks = walks_at mesh text k a b pairs e f in
    none (record { first_walk = walks.first_walk; second_walk = walks.second_walk; ends = walks.ends })

-- ---- all decisions

-- pair k is one of walks of the mesh with common ends, on which this is the decision
abbrev pub IsDecidedAt : FaceList → List (List ℕ) → ℕ → deciding.Answer → Type 0
IsDecidedAt mesh walks k decision =
    (a b : List ℕ) → slice_get walks (2 * k) ≡ Some a → slice_get walks (2 * k + 1) ≡ Some b
    → AreWalkPair mesh a b × ((decision ≡ Homotopic) ↔ moves.Homotopic mesh a b)

-- what is found of its walks
pub found_at : (mesh same : FaceList) (walks : List (List ℕ)) (k : ℕ) (first second : List ℕ) (decision : deciding.Answer)
    → slice_get walks (2 * k) ≡ Some first → slice_get walks (2 * k + 1) ≡ Some second → mesh ≡ same
    → IsFoundOn mesh first second (Some decision) → IsDecidedAt same walks k decision
found_at mesh same walks k first second decision e f is told a b p q =
    let one : first ≡ a = (let both : Some first ≡ Some a = sym e ∙ p in cc) in
    let other : second ≡ b = (let both : Some second ≡ Some b = sym f ∙ q in cc) in
    subst (λ (m : FaceList). IsFoundOn m a b (Some decision)) is
    (subst (λ (w : List ℕ). IsFoundOn mesh w b (Some decision)) one
    (subst (λ (w : List ℕ). IsFoundOn mesh first w (Some decision)) other told))

all_decisions : (mesh : FaceList) (walks : List (List ℕ)) (n : ℕ) (decisions : List deciding.Answer) → length walks ≡ 2 * n
    → length decisions ≡ n → ((k : ℕ) (d : deciding.Answer) → k < n → IsDecidedAt mesh walks k (get_or decisions k d))
    → AreDecisions mesh (walks_in_pairs walks) decisions
all_decisions mesh [] n [] e f each = tt
all_decisions mesh [] n (d ∷ ds) e f each = absurd (omega (arith, e, f))
all_decisions mesh (x ∷ []) n ds e f each = absurd (omega (arith, e))
all_decisions mesh (x ∷ y ∷ walks) n [] e f each = absurd (omega (arith, e, f))
all_decisions mesh (x ∷ y ∷ walks) zero (d ∷ ds) e f each = absurd (omega (arith, e))
all_decisions mesh (x ∷ y ∷ walks) (suc n) (d ∷ ds) e f each = (
  (each 0 d (omega arith) x y refl refl).1,
  all_decisions mesh walks n ds (omega (arith, e)) (omega (arith, f)) (λ k z l a b p q.
      let later : 2 * suc k ≡ suc (suc (2 * k)) = omega arith in
      let last : 2 * suc k + 1 ≡ suc (suc (2 * k + 1)) = omega arith in
      each (suc k) z (omega (arith, l)) a b (subst (λ i. slice_get (x ∷ y ∷ walks) i ≡ Some a) (sym later) p)
      (subst (λ i. slice_get (x ∷ y ∷ walks) i ≡ Some b) (sym last) q)),
)

pub pairs_decided : (mesh : FaceList) (text : WalkText) (n : ℕ) (decisions : List deciding.Answer)
    → are_paired text.version (length text.walks) ≡ true → length text.walks ≡ 2 * n → length decisions ≡ n
    → ((k : ℕ) (d : deciding.Answer) → k < n → IsDecidedAt mesh text.walks k (get_or decisions k d))
    → ArePairsDecided mesh text decisions
pairs_decided mesh text n decisions paired e f each = record {
  pairs = all_pairs mesh text n paired e (λ k a b l p q. (each k Different l a b p q).0);
  right = all_decisions mesh text.walks n decisions e f each;
}

no_yes : No ≡ Yes → ⊥
no_yes e = cc

-- yes exactly where all are homotopic
pub all_yes : (mesh : FaceList) (pairs : List WalkPair) (decisions : List deciding.Answer) → AreDecisions mesh pairs decisions
    → (decisions_status decisions ≡ Yes) ↔ All (IsHomotopic mesh) pairs
all_yes mesh [] [] right = ((λ _. All-nil (IsHomotopic mesh)), (λ _. refl))
all_yes mesh [] (d ∷ ds) right = absurd right
all_yes mesh (pair ∷ pairs) [] right = absurd right
all_yes mesh (pair ∷ pairs) (Homotopic ∷ ds) right =
    let rest = all_yes mesh pairs ds right.1 in (
      λ e. All-cons (IsHomotopic mesh) pair pairs (right.0.0 refl) (rest.0 e),
      λ all. rest.1 (All-tail (IsHomotopic mesh) pair pairs all),
    )
all_yes mesh (pair ∷ pairs) (Different ∷ ds) right = (
  λ e. absurd (no_yes e),
  λ all. absurd (differs (right.0.1 (All-head (IsHomotopic mesh) pair pairs all))),
)

-- as all decisions are, so is the status
abbrev pub AreHomotopic : List deciding.Answer → Type 0
AreHomotopic decisions = All (λ decision. decision ≡ Homotopic) decisions

pub status_yes : (decisions : List deciding.Answer) → AreHomotopic decisions → decisions_status decisions ≡ Yes
status_yes [] all = refl
status_yes (Homotopic ∷ ds) all = status_yes ds (All-tail (λ (d : deciding.Answer). d ≡ Homotopic) Homotopic ds all)
status_yes (Different ∷ ds) all = absurd (differs (All-head (λ (d : deciding.Answer). d ≡ Homotopic) Different ds all))

pub status_no : (decisions : List deciding.Answer) → (AreHomotopic decisions → ⊥) → decisions_status decisions ≡ No
status_no [] none = absurd (none (All-nil (λ (d : deciding.Answer). d ≡ Homotopic)))
status_no (Homotopic ∷ ds) none =
    status_no ds (λ all. none (All-cons (λ (d : deciding.Answer). d ≡ Homotopic) Homotopic ds refl all))
status_no (Different ∷ ds) none = refl

some_decision : (mesh : FaceList) (pair : WalkPair) → ((decision : deciding.Answer) → IsDecision mesh pair decision → ⊥) → ⊥
some_decision mesh pair none =
    none Different ((λ e. absurd (differs e)), (λ h. absurd (none Homotopic ((λ _. h), (λ _. refl)))))

some_decisions : (mesh : FaceList) (pairs : List WalkPair)
    → ((decisions : List deciding.Answer) → AreDecisions mesh pairs decisions → ⊥) → ⊥
some_decisions mesh [] none = none [] tt
some_decisions mesh (pair ∷ pairs) none =
    some_decisions mesh pairs (λ decisions right. some_decision mesh pair (λ decision is. none (decision ∷ decisions) (is, right)))

-- decisions that are right are one list
same_decisions : (mesh : FaceList) (pairs : List WalkPair) (a b : List deciding.Answer) → AreDecisions mesh pairs a
    → AreDecisions mesh pairs b → a ≡ b
same_decisions mesh [] [] [] p q = refl
same_decisions mesh [] [] (y ∷ ys) p q = absurd q
same_decisions mesh [] (x ∷ xs) b p q = absurd p
same_decisions mesh (pair ∷ pairs) [] b p q = absurd p
same_decisions mesh (pair ∷ pairs) (x ∷ xs) [] p q = absurd q
same_decisions mesh (pair ∷ pairs) (x ∷ xs) (y ∷ ys) p q =
    let first : x ≡ y = one_decision x y p.0 q.0 in
    let rest : xs ≡ ys = same_decisions mesh pairs xs ys p.1 q.1 in
    cc

one_end : (mesh : FaceList) (pairs : List WalkPair) (a b : End Answer) → (all_decided mesh pairs).Ends a → (all_decided mesh pairs).Ends b
    → a ≡ b
one_end mesh pairs (Refuse texts) b p q = absurd p
one_end mesh pairs (Pass x) (Refuse texts) p q = absurd q
one_end mesh pairs (Pass x) (Pass y) p q =
    let same : p.0 ≡ q.0 = same_decisions mesh pairs p.0 q.0 p.2 q.2 in
    let answers : x ≡ y = p.1 ∙ ap decisions_answer same ∙ sym q.1 in
    cc

pub sound-all_decided : (held : Option Files) (mesh : FaceList) (pairs : List WalkPair) → IsSound held (all_decided mesh pairs)
sound-all_decided held mesh pairs =
    record {
      some = λ none. some_decisions mesh pairs (λ decisions right. none (Pass (decisions_answer decisions)) (decisions, refl, right));
      one = λ _ a b p q. one_end mesh pairs a b p q;
    }
