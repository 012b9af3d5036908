-- The answer that a line is.
use Rattle.walk_files.proofs.Common.{◌≡◌, ℕ, Bool, true, false, List, [], ◌∷◌, refl, sym, ap, ◌∙◌, Option, Some, None, if◌then◌else◌, ◌&&◌, codes, bytes_eq, words, Unread, are_words, words_here, answer_alone, Answer, Homotopic, Different}

-- by what two comparisons with the lines of the answers say
abbrev by_tests : Bool → Bool → Option Answer
by_tests homotopic different = if homotopic then Some Homotopic else if different then Some Different else None

one_word : (b d : Bool) → by_tests b d ≡ by_tests (b && true) (d && true)
one_word true d = refl
one_word false true = refl
one_word false false = refl

more_words : (b d : Bool) → None ≡ by_tests (b && false) (d && false)
more_words true true = refl
more_words true false = refl
more_words false true = refl
more_words false false = refl

answer_of-tests : (line : List (List ℕ))
    → answer_alone line ≡ by_tests (are_words line (words_here (codes "homotopic"))) (are_words line (words_here (codes "different")))
unfolding words_here words
answer_of-tests [] = refl
answer_of-tests (word ∷ []) = one_word (bytes_eq word (codes "homotopic")) (bytes_eq word (codes "different"))
answer_of-tests (word ∷ next ∷ line) = more_words (bytes_eq word (codes "homotopic")) (bytes_eq word (codes "different"))

-- the line is the first answer
pub homotopic-line : (line : List (List ℕ)) → true ≡ are_words line (words_here (codes "homotopic")) → Some Homotopic ≡ answer_alone line
homotopic-line line is = ap (λ b. by_tests b (are_words line (words_here (codes "different")))) is ∙ sym (answer_of-tests line)

-- or it is not, and the second one or none
pub other-line : (old next : Unread) (b : Bool) → false ≡ are_words old.words (words_here (codes "homotopic")) → next ≡ old
    → b ≡ are_words next.words (words_here (codes "different")) → by_tests false b ≡ answer_alone old.words
other-line old next b other same is =
    ap (λ x. by_tests x b) other
    ∙ ap (by_tests (are_words old.words (words_here (codes "homotopic"))))
    (is ∙ ap (λ (u : Unread). are_words u.words (words_here (codes "different"))) same)
    ∙ sym (answer_of-tests old.words)
