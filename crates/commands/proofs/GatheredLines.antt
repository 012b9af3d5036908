-- Lines that are gathered in a piece, in the words that say how they are put.
use Rattle.commands.proofs.Common.{decision_line, decision_word, behind_blank, link_phrases, odd_chain_line, word_line, ◌≡◌, ℕ, ◌≤◌, List, [], ◌∷◌, ◌++◌, length, refl, sym, ap, ◌∙◌, append_assoc, arith, flat_map-append, append-nil, codes, decimal, flat_map, map, line_of-numbers, spaced_number, Homotopic, Different, line_of, entry_words}
use Rattle.surf_model.specs.declared.chains.ChainLink.{ChainLink}
use Rattle.surf_model.specs.declared.decisions.Answer as deciding

-- the line of a turn word, as denials have it
pub word_line-put : (word : List ℕ) → line_of (entry_words word) ≡ word_line word
word_line-put [] = refl
word_line-put (entry ∷ entries) =
    let first = decimal entry in
    sym (line_of-numbers first entries)
    ∙ sym (append_assoc first (flat_map spaced_number entries) (10 ∷ []))
    ∙ ap (λ t. (first ++ t) ++ 10 ∷ []) (blanks entries)
  where
    blanks : (entries : List ℕ) → flat_map spaced_number entries ≡ flat_map behind_blank (map decimal entries)
    blanks [] = refl
    blanks (n ∷ entries) = ap (λ t. spaced_number n ++ t) (blanks entries)

-- the line of a decision: one word
pub decision_line-put : (decision : deciding.Answer) → line_of (decision_word decision ∷ []) ≡ decision_line decision
decision_line-put decision = ap (λ t. t ++ 10 ∷ []) (sym (append-nil (decision_word decision)))

pub decision_word-short : (decision : deciding.Answer) → length (decision_word decision) ≤ 32
decision_word-short Homotopic = omega arith
decision_word-short Different = omega arith

-- a link of an odd chain
abbrev pub link_text : ChainLink → List ℕ
link_text link = flat_map behind_blank (link_phrases link)

-- the line of an odd chain: its words, its links, and the line feed
pub odd_chain_line-put : (chain : List ChainLink)
    → codes "refused: not orientable" ++ (flat_map link_text chain ++ 10 ∷ []) ≡ odd_chain_line chain
odd_chain_line-put chain = ap (λ t. codes "refused: not orientable" ++ (t ++ 10 ∷ [])) (links chain)
  where
    links : (chain : List ChainLink) → flat_map link_text chain ≡ flat_map behind_blank (flat_map link_phrases chain)
    links [] = refl
    links (link ∷ chain) =
        ap (λ t. link_text link ++ t) (links chain) ∙ sym (flat_map-append behind_blank (link_phrases link) (flat_map link_phrases chain))
