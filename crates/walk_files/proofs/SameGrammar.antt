-- Lines that say the same mean the same in a certificate.
use Rattle.walk_files.proofs.Common.{SameWord, SameWords, SameLine, ◌≡◌, ℕ, ◌^◌, Bool, true, false, List, [], ◌∷◌, take, refl, sym, ◌∙◌, lit≤, codes, None, bytes_eq, number_of, number_below, cert_head_of, direction_of, spur_of, across_of, move_of}

number_same : (a b : List ℕ) → SameWord a b → number_of a ≡ number_of b
number_same a b same = same.number (2 ^ 32) (lit≤ tt)

count_same : (a b : List ℕ) → SameWord a b → number_below (2 ^ 64) a ≡ number_below (2 ^ 64) b
count_same a b same = same.number (2 ^ 64) (lit≤ tt)

direction_same : (a b : List ℕ) → SameWord a b → direction_of a ≡ direction_of b
direction_same a b same = rw (same.keyword (codes "+") refl, same.keyword (codes "-") refl) refl

-- ---- words that are the same

spur_same : (a b : List (List ℕ)) → SameWords a b → spur_of a ≡ spur_of b
spur_same [] [] same = refl
spur_same [] (y ∷ b) same = absurd same
spur_same (x ∷ a) [] same = absurd same
spur_same (x ∷ []) (y ∷ []) same = refl
spur_same (x ∷ []) (y ∷ y2 ∷ b) same = absurd same.1
spur_same (x ∷ x2 ∷ a) (y ∷ []) same = absurd same.1
spur_same (x ∷ x2 ∷ []) (y ∷ y2 ∷ []) same = rw (number_same x y same.0, number_same x2 y2 same.1.0) refl
spur_same (x ∷ x2 ∷ []) (y ∷ y2 ∷ y3 ∷ b) same = absurd same.1.1
spur_same (x ∷ x2 ∷ x3 ∷ a) (y ∷ y2 ∷ []) same = absurd same.1.1
spur_same (x ∷ x2 ∷ x3 ∷ a) (y ∷ y2 ∷ y3 ∷ b) same = refl

across_same : (a b : List (List ℕ)) → SameWords a b → across_of a ≡ across_of b
across_same [] [] same = refl
across_same [] (y ∷ b) same = absurd same
across_same (x ∷ a) [] same = absurd same
across_same (x ∷ []) (y ∷ []) same = refl
across_same (x ∷ []) (y ∷ y2 ∷ b) same = absurd same.1
across_same (x ∷ x2 ∷ a) (y ∷ []) same = absurd same.1
across_same (x ∷ x2 ∷ []) (y ∷ y2 ∷ []) same = refl
across_same (x ∷ x2 ∷ []) (y ∷ y2 ∷ y3 ∷ b) same = absurd same.1.1
across_same (x ∷ x2 ∷ x3 ∷ a) (y ∷ y2 ∷ []) same = absurd same.1.1
across_same (x ∷ x2 ∷ x3 ∷ []) (y ∷ y2 ∷ y3 ∷ []) same = refl
across_same (x ∷ x2 ∷ x3 ∷ []) (y ∷ y2 ∷ y3 ∷ y4 ∷ b) same = absurd same.1.1.1
across_same (x ∷ x2 ∷ x3 ∷ x4 ∷ a) (y ∷ y2 ∷ y3 ∷ []) same = absurd same.1.1.1
across_same (x ∷ x2 ∷ x3 ∷ x4 ∷ []) (y ∷ y2 ∷ y3 ∷ y4 ∷ []) same = refl
across_same (x ∷ x2 ∷ x3 ∷ x4 ∷ []) (y ∷ y2 ∷ y3 ∷ y4 ∷ y5 ∷ b) same = absurd same.1.1.1.1
across_same (x ∷ x2 ∷ x3 ∷ x4 ∷ x5 ∷ a) (y ∷ y2 ∷ y3 ∷ y4 ∷ []) same = absurd same.1.1.1.1
across_same (x ∷ x2 ∷ x3 ∷ x4 ∷ x5 ∷ []) (y ∷ y2 ∷ y3 ∷ y4 ∷ y5 ∷ []) same =
    rw (
      number_same x y same.0,
      number_same x2 y2 same.1.0,
      number_same x3 y3 same.1.1.0,
      direction_same x4 y4 same.1.1.1.0,
      number_same x5 y5 same.1.1.1.1.0,
    ) refl
across_same (x ∷ x2 ∷ x3 ∷ x4 ∷ x5 ∷ []) (y ∷ y2 ∷ y3 ∷ y4 ∷ y5 ∷ y6 ∷ b) same = absurd same.1.1.1.1.1
across_same (x ∷ x2 ∷ x3 ∷ x4 ∷ x5 ∷ x6 ∷ a) (y ∷ y2 ∷ y3 ∷ y4 ∷ y5 ∷ []) same = absurd same.1.1.1.1.1
across_same (x ∷ x2 ∷ x3 ∷ x4 ∷ x5 ∷ x6 ∷ a) (y ∷ y2 ∷ y3 ∷ y4 ∷ y5 ∷ y6 ∷ b) same = refl

move_words : (a b : List (List ℕ)) → SameWords a b → move_of a ≡ move_of b
move_words [] [] same = refl
move_words [] (y ∷ b) same = absurd same
move_words (x ∷ a) [] same = absurd same
move_words (x ∷ a) (y ∷ b) same =
    rw (
      same.0.keyword (codes "+") refl,
      same.0.keyword (codes "-") refl,
      same.0.keyword (codes "f") refl,
      spur_same a b same.1,
      across_same a b same.1,
    ) refl

head_words : (a b : List (List ℕ)) → SameWords a b → cert_head_of a ≡ cert_head_of b
head_words [] [] same = refl
head_words [] (y ∷ b) same = absurd same
head_words (x ∷ a) [] same = absurd same
head_words (x ∷ []) (y ∷ []) same = refl
head_words (x ∷ []) (y ∷ y2 ∷ b) same = absurd same.1
head_words (x ∷ x2 ∷ a) (y ∷ []) same = absurd same.1
head_words (x ∷ x2 ∷ []) (y ∷ y2 ∷ []) same = rw (same.0.keyword (codes "LABELS") refl, number_same x2 y2 same.1.0) refl
head_words (x ∷ x2 ∷ []) (y ∷ y2 ∷ y3 ∷ b) same = absurd same.1.1
head_words (x ∷ x2 ∷ x3 ∷ a) (y ∷ y2 ∷ []) same = absurd same.1.1
head_words (x ∷ x2 ∷ x3 ∷ []) (y ∷ y2 ∷ y3 ∷ []) same =
    rw (same.0.keyword (codes "MOVES") refl, count_same x2 y2 same.1.0, number_same x3 y3 same.1.1.0) refl
head_words (x ∷ x2 ∷ x3 ∷ []) (y ∷ y2 ∷ y3 ∷ y4 ∷ b) same = absurd same.1.1.1
head_words (x ∷ x2 ∷ x3 ∷ x4 ∷ a) (y ∷ y2 ∷ y3 ∷ []) same = absurd same.1.1.1
head_words (x ∷ x2 ∷ x3 ∷ x4 ∷ a) (y ∷ y2 ∷ y3 ∷ y4 ∷ b) same = refl

-- ---- no line of the grammar but a denial's has seven words

-- what is read of a line and of its first seven words
seven : {A : Type 0} (read : List (List ℕ) → A) (none : A)
    → ((x x2 x3 x4 x5 x6 x7 : List ℕ) (others : List (List ℕ)) → read (x ∷ x2 ∷ x3 ∷ x4 ∷ x5 ∷ x6 ∷ x7 ∷ others) ≡ none)
    → (words : List (List ℕ)) → read words ≡ read (take 7 words)
seven read none long [] = refl
seven read none long (x ∷ []) = refl
seven read none long (x ∷ x2 ∷ []) = refl
seven read none long (x ∷ x2 ∷ x3 ∷ []) = refl
seven read none long (x ∷ x2 ∷ x3 ∷ x4 ∷ []) = refl
seven read none long (x ∷ x2 ∷ x3 ∷ x4 ∷ x5 ∷ []) = refl
seven read none long (x ∷ x2 ∷ x3 ∷ x4 ∷ x5 ∷ x6 ∷ []) = refl
seven read none long (x ∷ x2 ∷ x3 ∷ x4 ∷ x5 ∷ x6 ∷ x7 ∷ others) =
    long x x2 x3 x4 x5 x6 x7 others ∙ sym (long x x2 x3 x4 x5 x6 x7 [])

long_move : (x x2 x3 x4 x5 x6 x7 : List ℕ) (others : List (List ℕ)) → move_of (x ∷ x2 ∷ x3 ∷ x4 ∷ x5 ∷ x6 ∷ x7 ∷ others) ≡ None
long_move x x2 x3 x4 x5 x6 x7 others = by_tests (bytes_eq x (codes "+")) (bytes_eq x (codes "-")) (bytes_eq x (codes "f")) refl refl refl
  where
    by_tests : (plus minus across : Bool) → bytes_eq x (codes "+") ≡ plus → bytes_eq x (codes "-") ≡ minus → bytes_eq x (codes "f") ≡ across
        → move_of (x ∷ x2 ∷ x3 ∷ x4 ∷ x5 ∷ x6 ∷ x7 ∷ others) ≡ None
    by_tests true minus across e f g = rw e refl
    by_tests false true across e f g = rw (e, f) refl
    by_tests false false true e f g = rw (e, f, g) refl
    by_tests false false false e f g = rw (e, f, g) refl

pub move_same : (a b : List (List ℕ)) → SameLine a b → move_of a ≡ move_of b
move_same a b same =
    seven move_of None long_move a ∙ move_words (take 7 a) (take 7 b) same ∙ sym (seven move_of None long_move b)

pub head_same : (a b : List (List ℕ)) → SameLine a b → cert_head_of a ≡ cert_head_of b
head_same a b same =
    seven cert_head_of None (λ x x2 x3 x4 x5 x6 x7 others. refl) a ∙ head_words (take 7 a) (take 7 b) same
    ∙ sym (seven cert_head_of None (λ x x2 x3 x4 x5 x6 x7 others. refl) b)
