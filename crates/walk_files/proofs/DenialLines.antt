-- The lines of a denial, one by one.
use Rattle.walk_files.proofs.Common.{FaceLabels, LabellingView, ◌≡◌, ℕ, suc, ◌+◌, ◌<◌, Bool, true, false, List, [], ◌∷◌, ◌++◌, length, refl, sym, ap, ◌∙◌, subst, arith, length-append, All-head, All-tail, Option, Some, None, Err, codes, All, bytes_eq, some_first, each_some, Line, is_filled, number_of, Unread, lines_left, at_line, past_word, next_word, sign_of, words_in, denial_in, AreFew, Bad}
use Rattle.std.specs.Prelude.{drop, ◌^◌}
use Rattle.walk_files.proofs.FewLemmas.{found_line}

-- the line of a face
pub face_line : (end number : ℕ) (labelling : LabellingView) (keyword : List ℕ) (words : List (List ℕ)) (lines : List Line) (flipped : Bool)
    (labels : List ℕ)
    → bytes_eq keyword (codes "places") ≡ false → sign_of keyword ≡ Some flipped → each_some number_of words ≡ Some labels
    → denial_in end labelling (record { number = number; words = keyword ∷ words } ∷ lines)
    ≡ denial_in end (record labelling { faces = labelling.faces ++ (record { flipped = flipped; labels = labels }) ∷ [] }) lines
face_line end number labelling keyword words lines flipped labels no_places sign read = rw (no_places, sign, read) refl

-- the line of the places
pub places_line : (end number : ℕ) (labelling : LabellingView) (keyword : List ℕ) (words : List (List ℕ)) (lines : List Line)
    (places : List ℕ)
    → bytes_eq keyword (codes "places") ≡ true → each_some number_of words ≡ Some places
    → denial_in end labelling (record { number = number; words = keyword ∷ words } ∷ lines)
    ≡ words_in end (record labelling { places = places }) lines
places_line end number labelling keyword words lines places is read = rw (is, read) refl

-- as many are read as there are
pub length-each_some : {A B : Type 0} (read : A → Option B) (xs : List A) (ys : List B) → each_some read xs ≡ Some ys → length ys
    ≡ length xs
length-each_some read [] ys e = let none : ys ≡ [] = cc in ap length none
length-each_some {A} {B} read (x ∷ xs) ys e = by_first (read x) (each_some read xs) e (λ zs f. length-each_some read xs zs f) refl
  where
    by_first : (o : Option B) (rest : Option (List B)) → some_first o rest ≡ Some ys
        → ((zs : List B) → each_some read xs ≡ Some zs → length zs ≡ length xs)
        → each_some read xs ≡ rest → length ys ≡ length (x ∷ xs)
    by_first None rest e more is = cc
    by_first (Some y) None e more is = cc
    by_first (Some y) (Some zs) e more is = let same : y ∷ zs ≡ ys = cc in ap length (sym same) ∙ omega (arith, more zs is)

-- ---- the lines of a labelling are read

-- the first word of a line was read
pub record IsBehind (old next : Unread) (keyword : List ℕ) : Type 0 where
  pub lines : lines_left old ≡ record { number = next.line; words = keyword ∷ next.words } ∷ next.lines
  pub end : next.end_line ≡ old.end_line

pub behind_keyword : (old at next : Unread) (keyword : List ℕ) → is_filled (lines_left old) ≡ true → at ≡ at_line old (lines_left old)
    → Some keyword ≡ next_word at.words → next ≡ past_word at
    → IsBehind old next keyword
behind_keyword old at next keyword filled found word past =
    subst (λ (n : Unread). IsBehind old n keyword) (sym past) (record {
      lines = found_line old at filled found ∙ ap (λ ws. record { number = at.line; words = ws } ∷ at.lines) (first at.words word);
      end = ap (λ (u : Unread). u.end_line) found ∙ same_end (lines_left old);
    })
  where
    first : (words : List (List ℕ)) → Some keyword ≡ next_word words → words ≡ keyword ∷ drop 1 words
    first [] e = cc
    first (w ∷ words) e = let same : keyword ≡ w = cc in ap (λ k. k ∷ words) (sym same)

    same_end : (lines : List Line) → (at_line old lines).end_line ≡ old.end_line
    same_end [] = refl
    same_end (line ∷ lines) = refl

-- the words behind it are few
pub few-behind : (old next : Unread) (keyword : List ℕ) → IsBehind old next keyword
    → All (λ line. length line.words < 2 ^ 32) (lines_left old)
    → length next.words < 2 ^ 32
few-behind old next keyword behind few =
    let first : length (keyword ∷ next.words) < 2 ^ 32 =
    All-head (λ (line : Line). length line.words < 2 ^ 32) (record { number = next.line; words = keyword ∷ next.words }) next.lines
    (subst (λ lines. All (λ (line : Line). length line.words < 2 ^ 32) lines) behind.lines few) in
    omega (arith, first)

-- Lines of faces were read into a labelling: the lines left mean behind them what all lines mean, and they are few.
pub record SoFar (start : Unread) (empty : LabellingView) (left : Unread) (labelling : LabellingView) : Type 0 where
  pub meaning : denial_in start.end_line empty (lines_left start) ≡ denial_in start.end_line labelling (lines_left left)
  pub words : All (λ line. length line.words < 2 ^ 32) (lines_left left)
  pub count : length labelling.faces + length (lines_left left) < 2 ^ 32
  pub places : labelling.places ≡ []
  pub degree : labelling.degree ≡ empty.degree
  pub end : left.end_line ≡ start.end_line

-- the line is read to its end
left_behind : (next after : Unread) → after ≡ record next { words = after.words } → after.words ≡ [] → lines_left after ≡ next.lines
left_behind next after place ended = rw (ended) (ap (λ (u : Unread). u.lines) place)

pub so_far-face : (start old next after : Unread) (empty labelling new : LabellingView) (keyword : List ℕ) (flipped : Bool)
    (labels : List ℕ)
    → SoFar start empty old labelling → IsBehind old next keyword → bytes_eq keyword (codes "places") ≡ false
    → sign_of keyword ≡ Some flipped → each_some number_of next.words ≡ Some labels
    → after ≡ record next { words = after.words } → after.words ≡ []
    → new ≡ record labelling { faces = labelling.faces ++ (record { flipped = flipped; labels = labels }) ∷ [] }
    → SoFar start empty after new
so_far-face start old next after empty labelling new keyword flipped labels so_far behind no_places sign read place ended pushed =
    let faces : List FaceLabels = labelling.faces ++ (record { flipped = flipped; labels = labels }) ∷ [] in
    let left : lines_left after ≡ next.lines = left_behind next after place ended in
    let rest : All (λ line. length line.words < 2 ^ 32) next.lines =
    All-tail (λ (line : Line). length line.words < 2 ^ 32) (record { number = next.line; words = keyword ∷ next.words }) next.lines
    (subst (λ lines. All (λ (line : Line). length line.words < 2 ^ 32) lines) behind.lines so_far.words) in
    let lines : length (lines_left old) ≡ suc (length next.lines) = ap (λ (ls : List Line). length ls) behind.lines in
    subst (λ (n : LabellingView). SoFar start empty after n) (sym pushed) (record {
      meaning =
          so_far.meaning ∙ ap (denial_in start.end_line labelling) behind.lines
          ∙ face_line start.end_line next.line labelling keyword next.words next.lines flipped labels no_places sign read
          ∙ ap (denial_in start.end_line (record labelling { faces = faces })) (sym left);
      words = subst (λ ls. All (λ (line : Line). length line.words < 2 ^ 32) ls) (sym left) rest;
      count = omega (
        arith,
        so_far.count,
        lines,
        ap (λ (ls : List Line). length ls) left,
        length-append labelling.faces ((record { flipped = flipped; labels = labels }) ∷ []),
      );
      places = so_far.places;
      degree = so_far.degree;
      end = ap (λ (u : Unread). u.end_line) place ∙ behind.end ∙ so_far.end;
    })

-- the line of the places was read, or it is none
pub so_far-places : (start old next after : Unread) (empty labelling new : LabellingView) (keyword : List ℕ)
    → SoFar start empty old labelling → IsBehind old next keyword → bytes_eq keyword (codes "places") ≡ true
    → each_some number_of next.words ≡ Some new.places
    → new ≡ record labelling { places = new.places }
    → after ≡ record next { words = after.words } → after.words ≡ []
    → (denial_in start.end_line empty (lines_left start) ≡ words_in start.end_line new (lines_left after)) × AreFew (lines_left after)
    × (new.degree ≡ empty.degree)
so_far-places start old next after empty labelling new keyword so_far behind is read pushed place ended =
    let left : lines_left after ≡ next.lines = left_behind next after place ended in
    let rest : All (λ line. length line.words < 2 ^ 32) next.lines =
    All-tail (λ (line : Line). length line.words < 2 ^ 32) (record { number = next.line; words = keyword ∷ next.words }) next.lines
    (subst (λ lines. All (λ (line : Line). length line.words < 2 ^ 32) lines) behind.lines so_far.words) in
    let lines : length (lines_left old) ≡ suc (length next.lines) = ap (λ (ls : List Line). length ls) behind.lines in (
      so_far.meaning ∙ ap (denial_in start.end_line labelling) behind.lines
          ∙ places_line start.end_line next.line labelling keyword next.words next.lines new.places is read
          ∙ ap (λ (l : LabellingView). words_in start.end_line l next.lines) (sym pushed)
          ∙ ap (words_in start.end_line new) (sym left),
      record {
        count = omega (arith, so_far.count, lines, ap (λ (ls : List Line). length ls) left);
        words = subst (λ ls. All (λ (line : Line). length line.words < 2 ^ 32) ls) (sym left) rest;
      },
      ap (λ (l : LabellingView). l.degree) pushed ∙ so_far.degree,
    )

pub so_far-no_places : (start old next : Unread) (empty labelling : LabellingView) (keyword : List ℕ)
    → SoFar start empty old labelling → IsBehind old next keyword → bytes_eq keyword (codes "places") ≡ true
    → each_some number_of next.words ≡ None
    → denial_in start.end_line empty (lines_left start) ≡ Err (Bad next.line)
so_far-no_places start old next empty labelling keyword so_far behind is read =
    so_far.meaning ∙ ap (denial_in start.end_line labelling) behind.lines ∙ rw (is, read) refl
