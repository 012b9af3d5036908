-- The answer that a line is.
use Rattle.homology_files.proofs.Common.{answer_words, kind_answered, Kind, OfFaces, OfEdges, ◌≡◌, ℕ, Bool, true, false, List, refl, sym, ap, ◌∙◌, Option, Some, None, if◌then◌else◌, codes, words, Unread, are_words, words_here}

yes_words : words_here (codes "homologous") ≡ answer_words OfFaces
unfolding words_here words
yes_words = refl

no_words : words_here (codes "not homologous") ≡ answer_words OfEdges
unfolding words_here words
no_words = refl

-- by what the two comparisons say
abbrev by_tests : Bool → Bool → Option Kind
by_tests first second = if first then Some OfFaces else if second then Some OfEdges else None

answer-tests : (line : List (List ℕ))
    → kind_answered line
    ≡ by_tests (are_words line (words_here (codes "homologous"))) (are_words line (words_here (codes "not homologous")))
answer-tests line =
    ap (λ ws. by_tests (are_words line ws) (are_words line (answer_words OfEdges))) (sym yes_words)
    ∙ ap (λ ws. by_tests (are_words line (words_here (codes "homologous"))) (are_words line ws)) (sym no_words)

pub yes-line : (line : List (List ℕ)) → true ≡ are_words line (words_here (codes "homologous")) → Some OfFaces ≡ kind_answered line
yes-line line is = ap (λ b. by_tests b (are_words line (words_here (codes "not homologous")))) is ∙ sym (answer-tests line)

pub other-line : (old next : Unread) (b : Bool) → false ≡ are_words old.words (words_here (codes "homologous")) → next ≡ old
    → b ≡ are_words next.words (words_here (codes "not homologous")) → by_tests false b ≡ kind_answered old.words
other-line old next b other same is =
    ap (λ x. by_tests x b) other
    ∙ ap (by_tests (are_words old.words (words_here (codes "homologous"))))
    (is ∙ ap (λ (u : Unread). are_words u.words (words_here (codes "not homologous"))) same)
    ∙ sym (answer-tests old.words)
