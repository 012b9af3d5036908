-- The rows of the table of commands: words are one row at most, and their checks have an end, and one where their files are told.
use Rattle.program.proofs.Common.{sound-certify, IsSound, sound-then, sound-found, IsTold, found_or, Outcome, AnswersTo, wrong_words, Status, sound-decide_open, sound-certify_open, sound-decide, Row, Surface, Decide, Certify, Loops, DecideOpen, CertifyOpen, Homology, Verify, VerifyHomology, Reduce, Trial, IsRow, answer_to, AllTold, Answers, IsOutcome, answer_of, ◌≡◌, inr, ℕ, List, [], ◌∷◌, ap, arith, sym, codes, subst, ◌∙◌, ◌+◌, ◌*◌, Option, slice_index_or, Files, sound-verify_homology}
use Rattle.commands.proofs.Deciding.{behind}
use Rattle.homology_commands.proofs.HomologyAnswers.{sound-homology}
use Rattle.loop_commands.proofs.LoopAnswers.{sound-loops}
use Rattle.reduce_commands.proofs.Reducing.{sound-reduce}
use Rattle.surface_commands.proofs.SurfaceRows.{sound-surface}
use Rattle.trial_commands.proofs.Trying.{sound-trial}
use Rattle.verify_commands.proofs.VerifyRows.{sound-verify}

-- ---- one row

-- the keyword of a row
abbrev keyword_of : Row → List ℕ
keyword_of (Surface mesh) = codes "surface"
keyword_of (Decide mesh walks) = codes "decide"
keyword_of (Certify mesh walks) = codes "certify"
keyword_of (Loops mesh walks) = codes "loops"
keyword_of (DecideOpen mesh walks) = codes "decide-open"
keyword_of (CertifyOpen mesh walks) = codes "certify-open"
keyword_of (Homology mesh walks) = codes "homology"
keyword_of (Verify mesh walks certificate) = codes "verify"
keyword_of (VerifyHomology mesh walks certificate) = codes "verify-homology"
keyword_of (Reduce degree list) = codes "reduce"
keyword_of (Trial genus grid) = codes "trial"

-- a keyword as one number, since keywords differ
value : List ℕ → ℕ
value [] = 0
value (byte ∷ bytes) = byte + 256 * value bytes

first_word : List (List ℕ) → List ℕ
first_word words = slice_index_or words 0 []

keyword-row : (words : List (List ℕ)) (row : Row) → IsRow words row → first_word words ≡ keyword_of row
unfolding first_word
keyword-row words (Surface mesh) p = ap first_word p
keyword-row words (Decide mesh walks) p = ap first_word p
keyword-row words (Certify mesh walks) p = ap first_word p
keyword-row words (Loops mesh walks) p = ap first_word p
keyword-row words (DecideOpen mesh walks) p = ap first_word p
keyword-row words (CertifyOpen mesh walks) p = ap first_word p
keyword-row words (Homology mesh walks) p = ap first_word p
keyword-row words (Verify mesh walks certificate) p = ap first_word p
keyword-row words (VerifyHomology mesh walks certificate) p = ap first_word p
keyword-row words (Reduce degree list) p = ap first_word p.1
keyword-row words (Trial genus grid) p = ap first_word p.2

-- rows of the same words have one keyword
same_value : (words : List (List ℕ)) (a b : Row) → IsRow words a → IsRow words b → value (keyword_of a) ≡ value (keyword_of b)
same_value words a b p q = ap value (sym (keyword-row words a p) ∙ keyword-row words b q)

-- words are one row at most
pub one_row : (words : List (List ℕ)) (a b : Row) → IsRow words a → IsRow words b → a ≡ b
unfolding value
one_row words (Surface a) (Surface b) p q = cc
one_row words (Decide a b) (Decide c d) p q = cc
one_row words (Certify a b) (Certify c d) p q = cc
one_row words (Loops a b) (Loops c d) p q = cc
one_row words (DecideOpen a b) (DecideOpen c d) p q = cc
one_row words (CertifyOpen a b) (CertifyOpen c d) p q = cc
one_row words (Homology a b) (Homology c d) p q = cc
one_row words (Verify a b c) (Verify d e f) p q = cc
one_row words (VerifyHomology a b c) (VerifyHomology d e f) p q = cc
one_row words (Reduce a b) (Reduce c d) p q = cc
one_row words (Trial a b) (Trial c d) p q = cc
one_row words a b p q = absurd (omega (arith, same_value words a b p q))

-- ---- the checks of a row

sound-row : (held : Option Files) (row : Row) → IsSound held (answer_to held row)
sound-row held (Surface mesh) = sound-surface held mesh
sound-row held (Decide mesh walks) = sound-decide held mesh walks
sound-row held (Certify mesh walks) = sound-certify held mesh walks
sound-row held (Loops mesh walks) = sound-loops held mesh walks
sound-row held (DecideOpen mesh walks) = sound-decide_open held mesh walks
sound-row held (CertifyOpen mesh walks) = sound-certify_open held mesh walks
sound-row held (Homology mesh walks) = sound-homology held mesh walks
sound-row held (Verify mesh walks certificate) = sound-verify held mesh walks certificate
sound-row held (VerifyHomology mesh walks certificate) = sound-verify_homology held mesh walks certificate
sound-row held (Reduce degree list) = sound-reduce held degree list
sound-row held (Trial genus grid) = sound-trial held genus grid

pub sound-words : (held : Option Files) (words : List (List ℕ)) → IsSound held (answer_of held words)
sound-words held words = sound-then held _ _ (sound-found held _ _ (one_row words)) (λ row _. sound-row held row)

-- ---- words that are a row

-- as the words end, their row does
pub row_ends : (held : Option Files) (words : List (List ℕ)) (row : Row) (outcome : Outcome) → IsRow words row
    → IsOutcome held words outcome → (answer_to held row).Ends outcome
row_ends held words row outcome is ends =
    behind held (found_or wrong_words (IsRow words)) (answer_to held) row outcome (sound-found held _ _ (one_row words)) tt is ends

-- where the files of the row are told, those of the words are
row_told : (held : Option Files) (words : List (List ℕ)) (row : Row) → IsRow words row → (answer_to held row).EachFile (IsTold held)
    → AllTold held words
row_told held words row is told = (
  tt,
  λ other other_is. subst (λ (r : Row). (answer_to held r).EachFile (IsTold held)) (one_row words row other is other_is) told,
)

-- what answers the words answers the check of their row
pub row_answered : (held : Option Files) (words : List (List ℕ)) (row : Row) (status : Status) (text : List ℕ)
    → Answers held words status text → IsRow words row → AnswersTo held (answer_to held row) status text
row_answered held words row status text a is =
    record {
      outcome = a.outcome;
      is_outcome = row_ends held words row a.outcome is a.is_outcome;
      is_answer = a.is_answer;
      exact = λ told other ends. a.exact (row_told held words row is told) other (inr (row, is, ends));
    }
