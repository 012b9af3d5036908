-- Listing the numbers that are not 0, one by one.
use Rattle.homology_commands.proofs.Common.{listed_number, face_number, edge_number, AreNumbersWithin, number_at, EdgeNumber, FaceNumber, MOST_NUMBER, IsFaceNamed, ListsFaces, IsAmong, ListsEdges, FaceFits, EdgeFits, ◌≡◌, ◌≢◌, ◌⊎◌, inl, inr, ℕ, zero, suc, ◌+◌, ◌<◌, Bool, true, false, List, [], ◌∷◌, ◌++◌, length-append, get_or, refl, ap, sym, ◌∙◌, subst, arith, ℤ, pos, negsuc, to_z, of_z, w64, ◌≤◌, cases_Bool, cases_lt, nat_tests, ints, All-nil, All-push, get_or_from_slice_get, All, Some, if◌then◌else◌, ◌==◌, ◌&&◌, slice_get, unsigned_abs, Edge, IsPairBefore, edge_in}
use Rattle.homology.proofs.NumbersLemmas.{listed_more}
use Rattle.homology.proofs.SizeLemmas.{sent}

-- ---- a number that is handed on

-- the number is that at this place of the numbers, and small
pub record IsNumberAt (numbers : List ℤ) (place : ℕ) (number : ℤ) : Type 0 where
  pub is : number ≡ number_at numbers place
  pub small : unsigned_abs number ≤ MOST_NUMBER

pub number_sent : (numbers : List ℤ) (place : ℕ) (number : ℤ) → AreNumbersWithin MOST_NUMBER numbers → slice_get numbers place ≡ Some number
    → IsNumberAt numbers place (to_z w64 (of_z w64 number))
number_sent numbers place number within at =
    let is : number_at numbers place ≡ number = get_or_from_slice_get numbers place number (pos 0) at in
    let small : unsigned_abs number ≤ MOST_NUMBER = subst (λ z. unsigned_abs z ≤ MOST_NUMBER) is (within.each place) in
    let passed : to_z w64 (of_z w64 number) ≡ number = sent number (omega (arith, small)) in
    record { is = passed ∙ sym is; small = subst (λ z. unsigned_abs z ≤ MOST_NUMBER) (sym passed) small }

-- ---- one line more

-- a line that passes the test is the one that counts, where none before it does
line_counts : {X : Type 0} (test : X → Bool) (number : X → ℤ) (lines : List X) (line : X) → test line ≡ true
    → All (λ x. test x ≡ false) lines → listed_number test number (lines ++ line ∷ []) ≡ number line
line_counts test number lines line on none =
    listed_more test number lines line (λ e. none) ∙ ap (λ b. if b then number line else listed_number test number lines) on

-- a line that does not pass changes nothing
line_is_off : {X : Type 0} (test : X → Bool) (number : X → ℤ) (lines : List X) (line : X) → test line ≡ false
    → listed_number test number (lines ++ line ∷ []) ≡ listed_number test number lines
line_is_off test number lines line off =
    listed_more test number lines line (λ e. clash e)
    ∙ ap (λ b. if b then number line else listed_number test number lines) off
  where
    clash : {P : Type 0} → test line ≡ true → P
    clash e =
        let no : true ≡ false = sym e ∙ off in
        cc

-- what holds of each line holds with one number more
all_weaker : {X : Type 0} (P Q : X → Type 0) (xs : List X) → ((x : X) → P x → Q x) → All P xs → All Q xs
all_weaker P Q xs more h = λ k d l. more (get_or xs k d) (h k d l)

zero_or_not : (z : ℤ) → (z ≡ pos 0) ⊎ (z ≢ pos 0)
zero_or_not (pos zero) = inl refl
zero_or_not (pos (suc n)) = inr (λ e. omega (arith, ints, e))
zero_or_not (negsuc n) = inr (λ e. omega (arith, ints, e))

-- ---- faces

same_face : (line : FaceNumber) (f : ℕ) → line.face.0 ≡ f → (line.face.0 == f) ≡ true
same_face line f e = grind (arith, nat_tests)

other_face : (line : FaceNumber) (f : ℕ) → line.face.0 ≢ f → (line.face.0 == f) ≡ false
other_face line f h = grind (arith, nat_tests)

module _ (name : ℕ → ℕ) (number : ℕ → ℤ) where
  -- nothing is listed yet
  pub no_faces : ListsFaces name number 0 []
  no_faces = record {
    each = λ k l. absurd (omega (arith, l));
    others = λ f h. refl;
    named = All-nil (IsFaceNamed name 0);
    no_zeros = All-nil (λ (line : FaceNumber). line.number ≢ pos 0);
    fits = All-nil FaceFits;
    few = omega arith;
  }

  module _ (k : ℕ) (lines : List FaceNumber) (h : ListsFaces name number k lines) (rises : (j : ℕ) → j < k → name j < name k) where
    -- the faces that are listed come before the next one
    pub faces_before : All (λ (line : FaceNumber). line.face.0 < name k) lines
    faces_before =
        all_weaker (IsFaceNamed name k) (λ (line : FaceNumber). line.face.0 < name k) lines
        (λ line is. subst (λ n. n < name k) is.2 (rises is.0 is.1)) h.named

    more_named : All (IsFaceNamed name (k + 1)) lines
    more_named = all_weaker (IsFaceNamed name k) (IsFaceNamed name (k + 1)) lines (λ line is. (is.0, omega (arith, is.1), is.2)) h.named

    pub face_skipped : number k ≡ pos 0 → ListsFaces name number (k + 1) lines
    face_skipped zero_there = record {
      each = λ j l. elim (cases_lt j k) [
        | inl less ↦ h.each j less
        | inr end ↦
            let same : j ≡ k = omega (arith, l, end) in
            ap (λ n. face_number lines (name n)) same
            ∙ h.others (name k) (λ i li e. omega (arith, rises i li, e)) ∙ sym zero_there ∙ ap number (sym same)
      ];
      others = λ f none. h.others f (λ j l. none j (omega (arith, l)));
      named = more_named;
      no_zeros = h.no_zeros;
      fits = h.fits;
      few = omega (arith, h.few);
    }

    pub face_listed : (line : FaceNumber) → line.face.0 ≡ name k → line.number ≡ number k → number k ≢ pos 0 → FaceFits line
        → ListsFaces name number (k + 1) (lines ++ line ∷ [])
    face_listed line named_so numbered some fits = record {
      each = λ j l. elim (cases_lt j k) [
        | inl less ↦
            line_is_off (λ (x : FaceNumber). x.face.0 == name j) (λ (x : FaceNumber). x.number) lines line
            (other_face line (name j) (λ e. omega (arith, rises j less, e, named_so))) ∙ h.each j less
        | inr end ↦
            let same : j ≡ k = omega (arith, l, end) in
            ap (λ n. face_number (lines ++ line ∷ []) (name n)) same
            ∙ line_counts (λ (x : FaceNumber). x.face.0 == name k) (λ (x : FaceNumber). x.number) lines line
            (same_face line (name k) named_so)
            (all_weaker (λ (x : FaceNumber). x.face.0 < name k) (λ (x : FaceNumber). (x.face.0 == name k) ≡ false) lines
            (λ x less. other_face x (name k) (λ e. omega (arith, less, e))) faces_before)
            ∙ numbered ∙ ap number (sym same)
      ];
      others = λ f none.
          line_is_off (λ (x : FaceNumber). x.face.0 == f) (λ (x : FaceNumber). x.number) lines line
          (other_face line f (λ e. none k (omega arith) (sym named_so ∙ e)))
          ∙ h.others f (λ j l. none j (omega (arith, l)));
      named = All-push (IsFaceNamed name (k + 1)) lines line more_named (k, omega arith, sym named_so);
      no_zeros =
          All-push (λ (x : FaceNumber). x.number ≢ pos 0) lines line h.no_zeros (λ e. some (sym numbered ∙ e));
      fits = All-push FaceFits lines line h.fits fits;
      few = omega (arith, h.few, length-append lines (line ∷ []));
    }

    -- listed or not, as the number is 0 or not
    pub face_more : (line : FaceNumber) (new : List FaceNumber) → line.face.0 ≡ name k → line.number ≡ number k → FaceFits line
        → (line.number ≡ pos 0 → new ≡ lines) → (line.number ≢ pos 0 → new ≡ lines ++ line ∷ [])
        → ListsFaces name number (k + 1) new
    face_more line new named_so numbered fits skipped listed = elim (zero_or_not line.number) [
      | inl none ↦ subst (ListsFaces name number (k + 1)) (sym (skipped none)) (face_skipped (sym numbered ∙ none))
      | inr some ↦
          subst (ListsFaces name number (k + 1)) (sym (listed some))
          (face_listed line named_so numbered (λ e. some (numbered ∙ e)) fits)
    ]

-- ---- edges

same_edge : (line : EdgeNumber) (low high : ℕ) → line.low.0 ≡ low → line.high.0 ≡ high
    → (line.low.0 == low && line.high.0 == high) ≡ true
same_edge line low high e f = grind (arith, nat_tests)

other_edge : (line : EdgeNumber) (low high : ℕ) → ((line.low.0 ≡ low) × (line.high.0 ≡ high) → ⊥)
    → (line.low.0 == low && line.high.0 == high) ≡ false
other_edge line low high h = elim (cases_Bool (line.low.0 == low && line.high.0 == high)) [
  | inr off ↦ off
  | inl on ↦ absurd (h (both line.low.0 low line.high.0 high on))
]
  where
    both : (a b c d : ℕ) → (a == b && c == d) ≡ true → (a ≡ b) × (c ≡ d)
    both a b c d on = grind (arith, nat_tests)

before_differs : (a b c d : ℕ) → IsPairBefore a b c d → (a ≡ c) × (b ≡ d) → ⊥
before_differs a b c d (inl less) e = omega (arith, less, e.0)
before_differs a b c d (inr less) e = omega (arith, less.1, e.1)

module _ (table : List Edge) (number : ℕ → ℤ) where
  abbrev low_of : ℕ → ℕ
  low_of k = (edge_in table k).low

  abbrev high_of : ℕ → ℕ
  high_of k = (edge_in table k).high

  pub no_edges : ListsEdges table number 0 []
  no_edges = record {
    each = λ k l. absurd (omega (arith, l));
    others = λ low high h. refl;
    among = All-nil (IsAmong table 0);
    no_zeros = All-nil (λ (line : EdgeNumber). line.number ≢ pos 0);
    fits = All-nil EdgeFits;
    few = omega arith;
  }

  module _ (k : ℕ) (lines : List EdgeNumber) (h : ListsEdges table number k lines)
      (rises : (j : ℕ) → j < k → IsPairBefore (low_of j) (high_of j) (low_of k) (high_of k)) where
    -- the edges that are listed come before the next one
    pub edges_before : All (λ (line : EdgeNumber). IsPairBefore line.low.0 line.high.0 (low_of k) (high_of k)) lines
    edges_before =
        all_weaker (IsAmong table k) (λ (line : EdgeNumber). IsPairBefore line.low.0 line.high.0 (low_of k) (high_of k)) lines
        (λ line is.
        subst (λ n. IsPairBefore n line.high.0 (low_of k) (high_of k)) is.2
        (subst (λ n. IsPairBefore (low_of is.0) n (low_of k) (high_of k)) is.3 (rises is.0 is.1))) h.among

    more_among : All (IsAmong table (k + 1)) lines
    more_among =
        all_weaker (IsAmong table k) (IsAmong table (k + 1)) lines (λ line is. (is.0, omega (arith, is.1), is.2, is.3)) h.among

    pub edge_skipped : number k ≡ pos 0 → ListsEdges table number (k + 1) lines
    edge_skipped zero_there = record {
      each = λ j l. elim (cases_lt j k) [
        | inl less ↦ h.each j less
        | inr end ↦
            let same : j ≡ k = omega (arith, l, end) in
            ap (λ n. edge_number lines (low_of n) (high_of n)) same
            ∙ h.others (low_of k) (high_of k)
            (λ i li e. before_differs (low_of i) (high_of i) (low_of k) (high_of k) (rises i li) e)
            ∙ sym zero_there ∙ ap number (sym same)
      ];
      others = λ low high none. h.others low high (λ j l. none j (omega (arith, l)));
      among = more_among;
      no_zeros = h.no_zeros;
      fits = h.fits;
      few = omega (arith, h.few);
    }

    pub edge_listed : (line : EdgeNumber) → low_of k ≡ line.low.0 → high_of k ≡ line.high.0 → line.number ≡ number k
        → number k ≢ pos 0 → EdgeFits line → ListsEdges table number (k + 1) (lines ++ line ∷ [])
    edge_listed line low_is high_is numbered some fits = record {
      each = λ j l. elim (cases_lt j k) [
        | inl less ↦
            line_is_off (λ (x : EdgeNumber). x.low.0 == low_of j && x.high.0 == high_of j) (λ (x : EdgeNumber). x.number) lines line
            (other_edge line (low_of j) (high_of j)
            (λ e.
            before_differs (low_of j) (high_of j) (low_of k) (high_of k) (rises j less) (sym e.0 ∙ sym low_is, sym e.1 ∙ sym high_is)))
            ∙ h.each j less
        | inr end ↦
            let same : j ≡ k = omega (arith, l, end) in
            ap (λ n. edge_number (lines ++ line ∷ []) (low_of n) (high_of n)) same
            ∙ line_counts (λ (x : EdgeNumber). x.low.0 == low_of k && x.high.0 == high_of k) (λ (x : EdgeNumber). x.number) lines line
            (same_edge line (low_of k) (high_of k) (sym low_is) (sym high_is))
            (all_weaker (λ (x : EdgeNumber). IsPairBefore x.low.0 x.high.0 (low_of k) (high_of k))
            (λ (x : EdgeNumber). (x.low.0 == low_of k && x.high.0 == high_of k) ≡ false) lines
            (λ x before. other_edge x (low_of k) (high_of k) (before_differs x.low.0 x.high.0 (low_of k) (high_of k) before))
            edges_before)
            ∙ numbered ∙ ap number (sym same)
      ];
      others = λ low high none.
          line_is_off (λ (x : EdgeNumber). x.low.0 == low && x.high.0 == high) (λ (x : EdgeNumber). x.number) lines line
          (other_edge line low high (λ e. none k (omega arith) (low_is ∙ e.0, high_is ∙ e.1)))
          ∙ h.others low high (λ j l. none j (omega (arith, l)));
      among = All-push (IsAmong table (k + 1)) lines line more_among (k, omega arith, low_is, high_is);
      no_zeros =
          All-push (λ (x : EdgeNumber). x.number ≢ pos 0) lines line h.no_zeros (λ e. some (sym numbered ∙ e));
      fits = All-push EdgeFits lines line h.fits fits;
      few = omega (arith, h.few, length-append lines (line ∷ []));
    }

    -- listed or not, as the number is 0 or not
    pub edge_more : (line : EdgeNumber) (new : List EdgeNumber) → low_of k ≡ line.low.0 → high_of k ≡ line.high.0
        → line.number ≡ number k → EdgeFits line → (line.number ≡ pos 0 → new ≡ lines)
        → (line.number ≢ pos 0 → new ≡ lines ++ line ∷ []) → ListsEdges table number (k + 1) new
    edge_more line new low_is high_is numbered fits skipped listed = elim (zero_or_not line.number) [
      | inl none ↦ subst (ListsEdges table number (k + 1)) (sym (skipped none)) (edge_skipped (sym numbered ∙ none))
      | inr some ↦
          subst (ListsEdges table number (k + 1)) (sym (listed some))
          (edge_listed line low_is high_is numbered (λ e. some (numbered ∙ e)) fits)
    ]
