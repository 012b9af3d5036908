-- The numbers of a certificate, written into an array line by line.
use Rattle.homology.proofs.Common.{listed_number, face_number, edge_number, AreFaceNumbers, AreEdgeNumbers, number_at, AreNumbersWithin, AreTableNumbers, EdgeNumber, FaceNumber, MOST_NUMBER, ◌≡◌, ◌≢◌, ◌⊎◌, inl, inr, ℕ, suc, ◌+◌, ◌<◌, ◌≤◌, Bool, true, false, ◌&&◌, List, [], ◌∷◌, ◌++◌, length, get_or, set, take, refl, ap, sym, ◌∙◌, subst, arith, ℤ, pos, cases_Bool, cases_eq, nat_tests, common_steps, get_or-set_same, get_or-set_other, take_more, get_or_from_slice_get, All, Some, slice_get, unsigned_abs, if◌then◌else◌, ◌==◌, same_pair, Edge, IsTableOf, IsPairBefore, HasEnds, edge_in, FaceList}
use Rattle.std.proofs.Math.Seq.{get_or-take}
use Rattle.homology.proofs.TallyLemmas.{few_taken, apart}

-- what holds of the elements so far, and of the next
pub all_more : {X : Type 0} (P : X → Type 0) (xs : List X) (k : ℕ) (x : X) → ((j : ℕ) (d : X) → j < k → P (get_or xs j d))
    → slice_get xs k ≡ Some x → P x → (j : ℕ) (d : X) → j < k + 1 → P (get_or xs j d)
all_more P xs k x h here holds j d l = grind (arith, get_or_from_slice_get)

-- one more line: it is the one that counts where it passes, and else those before it
pub listed_more : {X : Type 0} (test : X → Bool) (number : X → ℤ) (xs : List X) (x : X)
    → (test x ≡ true → All (λ y. test y ≡ false) xs)
    → listed_number test number (xs ++ x ∷ []) ≡ if test x then number x else listed_number test number xs
listed_more test number [] x h = refl
listed_more test number (y ∷ ys) x h = elim (cases_Bool (test y)) [
  | inr off ↦
      let more = listed_more test number ys x (λ e k d l. h e (suc k) d (omega arith)) in
      rw off more
  | inl on ↦ elim (cases_Bool (test x)) [
    | inr off ↦ rw (on, off) refl
    | inl both ↦
        let no : test y ≡ false = h both 0 y (omega arith) in
        let clash : true ≡ false = sym on ∙ no in
        cc
  ]
]

-- a line written into an array: entry f is what the lines so far say of f
pub written : {X : Type 0} (test : ℕ → X → Bool) (number : X → ℤ) (lines : List X) (k e f : ℕ) (line : X) (old new : List ℤ)
    → k < length lines → slice_get lines k ≡ Some line → e < length old → test e line ≡ true → (f ≢ e → test f line ≡ false)
    → ((j : ℕ) (d : X) → j < k → test e (get_or lines j d) ≡ false) → new ≡ set old e (number line)
    → number_at old f ≡ listed_number (test f) number (take k lines)
    → number_at new f ≡ listed_number (test f) number (take (k + 1) lines)
written test number lines k e f line old new l here room passes fails earlier is was =
    let all : take (k + 1) lines ≡ take k lines ++ line ∷ [] =
    take_more lines k line l ∙ ap (λ x. take k lines ++ x ∷ []) (get_or_from_slice_get lines k line line here) in
    elim (cases_eq f e) [
      | inl same ↦
          let on : test f line ≡ true = ap (λ n. test n line) same ∙ passes in
          let none : All (λ y. test f y ≡ false) (take k lines) =
          λ j d lj.
          let less : j < k = omega (arith, lj, few_taken k lines) in
          ap (test f) (get_or-take k lines j d less) ∙ ap (λ n. test n (get_or lines j d)) same ∙ earlier j d less in
          ap (λ (xs : List ℤ). number_at xs f) is ∙ ap (λ n. number_at (set old e (number line)) n) same
          ∙ get_or-set_same old e (number line) (pos 0) room
          ∙ sym (ap (listed_number (test f) number) all ∙ listed_more (test f) number (take k lines) line (λ _. none)
          ∙ ap (λ b. if b then number line else listed_number (test f) number (take k lines)) on)
      | inr off ↦
          let no : test f line ≡ false = fails off in
          ap (λ (xs : List ℤ). number_at xs f) is ∙ get_or-set_other old e f (number line) (pos 0) off ∙ was
          ∙ sym (ap (listed_number (test f) number) all
          ∙ listed_more (test f) number (take k lines) line (λ e. clash_of (test f line) e no)
          ∙ ap (λ b. if b then number line else listed_number (test f) number (take k lines)) no)
    ]
  where
    clash_of : {P : Type 0} (b : Bool) → b ≡ true → b ≡ false → P
    clash_of b e f =
        let clash : true ≡ false = sym e ∙ f in
        cc

-- no number that is listed is large
listed_small : {X : Type 0} (test : X → Bool) (number : X → ℤ) (bound : ℕ) (xs : List X)
    → All (λ x. unsigned_abs (number x) ≤ bound) xs → unsigned_abs (listed_number test number xs) ≤ bound
listed_small test number bound [] h = omega arith
listed_small test number bound (x ∷ xs) h = elim (cases_Bool (test x)) [
  | inl on ↦ rw on (h 0 x (omega arith))
  | inr off ↦ rw off (listed_small test number bound xs (λ k d l. h (suc k) d (omega arith)))
]

own_face : (line : FaceNumber) → (line.face.0 == line.face.0) ≡ true
own_face line = grind (arith, nat_tests)

other_face : (line : FaceNumber) (f : ℕ) → f ≢ line.face.0 → (line.face.0 == f) ≡ false
other_face line f h = grind (arith, nat_tests)

pub face_written : (lines : List FaceNumber) (k f : ℕ) (line : FaceNumber) (old new : List ℤ) → AreFaceNumbers lines
    → k < length lines → slice_get lines k ≡ Some line → line.face.0 < length old → new ≡ set old line.face.0 line.number
    → number_at old f ≡ face_number (take k lines) f → number_at new f ≡ face_number (take (k + 1) lines) f
face_written lines k f line old new valid l here room is was =
    written (λ n (x : FaceNumber). x.face.0 == n) (λ (x : FaceNumber). x.number) lines k line.face.0 f line old new l here room
    (own_face line) (λ off. other_face line f off)
    (λ j d less.
    let before : (get_or lines j d).face.0 < line.face.0 = grind (arith, get_or_from_slice_get) in
    other_face (get_or lines j d) line.face.0 (λ e. omega (arith, before, e)))
    is was

pub faces_small : (lines : List FaceNumber) (numbers : List ℤ) → AreFaceNumbers lines
    → ((f : ℕ) → number_at numbers f ≡ face_number lines f) → AreNumbersWithin MOST_NUMBER numbers
faces_small lines numbers valid h = grind (arith, listed_small)

-- whether a line is that of an edge
abbrev is_line_of : List Edge → ℕ → EdgeNumber → Bool
is_line_of table k line = line.low.0 == (edge_in table k).low && line.high.0 == (edge_in table k).high

own_edge : (table : List Edge) (e : ℕ) (line : EdgeNumber) → (edge_in table e).low ≡ line.low.0 → (edge_in table e).high ≡ line.high.0
    → is_line_of table e line ≡ true
own_edge table e line p q = grind (arith, nat_tests)

other_edge : (table : List Edge) (k : ℕ) (line : EdgeNumber) (a b : ℕ) → a ≡ line.low.0 → b ≡ line.high.0
    → IsPairBefore a b (edge_in table k).low (edge_in table k).high ⊎ IsPairBefore (edge_in table k).low (edge_in table k).high a b
    → is_line_of table k line ≡ false
other_edge table k line a b p q h = grind (arith, nat_tests)

pub edge_written : (mesh : FaceList) (table : List Edge) (lines : List EdgeNumber) (k e f : ℕ) (line : EdgeNumber) (old new : List ℤ)
    → IsTableOf mesh table → AreEdgeNumbers lines → k < length lines → slice_get lines k ≡ Some line → e < length table
    → f < length table → HasEnds line.low.0 line.high.0 (edge_in table e) → length old ≡ length table → new ≡ set old e line.number
    → number_at old f ≡ edge_number (take k lines) (edge_in table f).low (edge_in table f).high
    → number_at new f ≡ edge_number (take (k + 1) lines) (edge_in table f).low (edge_in table f).high
edge_written mesh table lines k e f line old new h valid l here le lf ends long is was =
    let up : line.low.0 < line.high.0 =
    subst (λ (x : EdgeNumber). x.low.0 < x.high.0) (get_or_from_slice_get lines k line line here) (valid.ordered k line l) in
    let same = same_pair line.low.0 line.high.0 (edge_in table e).low (edge_in table e).high up (h.edges e _ le).ordered ends in
    written (is_line_of table) (λ (x : EdgeNumber). x.number) lines k e f line old new l here (omega (arith, le, long))
    (own_edge table e line same.0 same.1)
    (λ off. other_edge table f line (edge_in table e).low (edge_in table e).high same.0 same.1
    (apart mesh table e f h le lf (λ e_is. off (sym e_is))))
    (λ j d less.
    let other : EdgeNumber = get_or lines j d in
    let before : IsPairBefore other.low.0 other.high.0 line.low.0 line.high.0 = grind (arith, get_or_from_slice_get) in
    other_edge table e other other.low.0 other.high.0 refl refl
    (inl (subst (λ a. IsPairBefore other.low.0 other.high.0 a (edge_in table e).high) (sym same.0)
    (subst (λ b. IsPairBefore other.low.0 other.high.0 line.low.0 b) (sym same.1) before))))
    is was

pub edges_small : (table : List Edge) (lines : List EdgeNumber) (numbers : List ℤ) → AreEdgeNumbers lines
    → AreTableNumbers table numbers (edge_number lines) → AreNumbersWithin MOST_NUMBER numbers
edges_small table lines numbers valid h = grind (arith, common_steps, listed_small, number_at)
