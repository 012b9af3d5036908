-- The denial of a certificate that is read in pieces: its lines behind as many line feeds as lines came before.
use Rattle.walk_files.proofs.Common.{LinesReading, Reads, bytes_left, Denial, inl, inr, ◌≡◌, ◌⊎◌, ℕ, zero, suc, ◌+◌, ◌-◌, ◌<◌, List, ◌∷◌, ◌++◌, length, refl, sym, ap, subst, ◌∙◌, arith, Option, Some, None, Result, Ok, Err, IfSome, replicate, words_here-line_feed, behind-line_feed, cut_first, lines_from_here, Line, is_filled, cut_lines, unmarked, lines_from, full_lines, end_line, behind, denial_in, unlabelled, end_of_text, IsStreamAnswer, end_behind, CertFault, NoHead, Bad, Ended, Extra, Peak, OutOfMemory, StreamEnd, Cert}
use Rattle.std.proofs.Common.{cond}

-- ---- lines behind line feeds

no_mark : (rest : List ℕ) → unmarked (10 ∷ rest) ≡ 10 ∷ rest
unfolding unmarked
no_mark rest = refl

one_feed : (n : ℕ) (left : List ℕ) → lines_from n (10 ∷ left) ≡ lines_from (n + 1) left
one_feed n left =
    lines_from_here n (10 ∷ left)
    ∙ ap (λ (ws : List (List ℕ)). cond (is_filled ws) (record { number = n; words = ws } ∷ lines_from (n + 1) (behind (10 ∷ left)))
    (lines_from (n + 1) (behind (10 ∷ left)))) (words_here-line_feed 10 left refl)
    ∙ ap (lines_from (n + 1)) (behind-line_feed 10 left refl)

one_line : (left : List ℕ) → length (cut_lines (10 ∷ left)) ≡ 1 + length (cut_lines left)
one_line left =
    omega (
      arith,
      ap (λ (ls : List (List ℕ)). length ls) (cut_first 10 left),
      ap (λ t. length (cut_lines t)) (behind-line_feed 10 left refl),
    )

-- they only shift the numbers
feeds_shift : (n k : ℕ) (left : List ℕ) → lines_from k (replicate n 10 ++ left) ≡ lines_from (k + n) left
feeds_shift zero k left = ap (λ m. lines_from m left) (omega arith)
feeds_shift (suc n) k left =
    one_feed k (replicate n 10 ++ left) ∙ feeds_shift n (k + 1) left ∙ ap (λ m. lines_from m left) (omega arith)

feeds_count : (n : ℕ) (left : List ℕ) → length (cut_lines (replicate n 10 ++ left)) ≡ n + length (cut_lines left)
feeds_count zero left = omega arith
feeds_count (suc n) left = omega (arith, one_line (replicate n 10 ++ left), feeds_count n left)

-- the text of the lines from this number on
pub record IsTextFrom (number : ℕ) (left text : List ℕ) : Type 0 where
  pub lines : full_lines text ≡ lines_from number left
  pub end : end_line text ≡ end_behind number left

pub text_from : (number : ℕ) (left text : List ℕ) → 1 < number → text ≡ replicate (number - 1) 10 ++ left → IsTextFrom number left text
text_from number left text some is =
    let count : number - 1 ≡ suc (number - 2) = omega (arith, some) in
    let first : 1 + suc (number - 2) ≡ number = omega (arith, some) in
    let rest : List ℕ = replicate (number - 2) 10 ++ left in
    let whole : text ≡ 10 ∷ rest = is ∙ ap (λ m. replicate m 10 ++ left) count in
    let unmarked_is : unmarked text ≡ 10 ∷ rest = ap unmarked whole ∙ no_mark rest in
    record {
      lines = ap (lines_from 1) unmarked_is ∙ feeds_shift (suc (number - 2)) 1 left ∙ ap (λ m. lines_from m left) first;
      end = omega (arith, some, ap (λ t. length (cut_lines t)) unmarked_is, feeds_count (suc (number - 2)) left);
    }

-- ---- answers

answers_text : {A : Type 0} (fault : CertFault) (whole : Result A CertFault) → (Err fault ≡ whole)
    ⊎ (let wants : Result A CertFault = Err OutOfMemory in Err fault ≡ wants)
    → IsStreamAnswer (Err (end_of_text fault)) whole
answers_text NoHead whole e = elim e [ inl is ↦ sym is | inr wants ↦ cc ]
answers_text (Bad line) whole e = elim e [ inl is ↦ sym is | inr wants ↦ cc ]
answers_text (Ended line) whole e = elim e [ inl is ↦ sym is | inr wants ↦ cc ]
answers_text (Extra line) whole e = elim e [ inl is ↦ sym is | inr wants ↦ cc ]
answers_text (Peak line) whole e = elim e [ inl is ↦ sym is | inr wants ↦ cc ]
answers_text OutOfMemory whole e = tt

-- what was read of the text is what the lines left say
pub denial_answered : (file : Option (List ℕ)) (old next : LinesReading) (degree end : ℕ) (lines : List Line) (text : List ℕ)
    (result : Result Denial StreamEnd)
    → IfSome file (λ f. Reads old.reading f → Reads next.reading f
    × (text ≡ replicate (old.number - 1) 10 ++ bytes_left old.reading f))
    → lines ≡ full_lines text → end ≡ end_line text → (IsStreamAnswer result (denial_in end (unlabelled degree) lines))
    → IfSome file (λ f. Reads old.reading f → 1 < old.number → IsStreamAnswer result
    (denial_in (end_behind old.number (bytes_left old.reading f)) (unlabelled degree) (lines_from old.number (bytes_left old.reading f))))
denial_answered None old next degree end lines text result is left ended answer = tt
denial_answered (Some f) old next degree end lines text result is left ended answer = λ reads some.
    let from = text_from old.number (bytes_left old.reading f) text some (is reads).1 in
    subst (IsStreamAnswer result)
    (ap (λ n. denial_in n (unlabelled degree) lines) (ended ∙ from.end)
    ∙ ap (denial_in (end_behind old.number (bytes_left old.reading f)) (unlabelled degree)) (left ∙ from.lines)) answer

pub answers_denial : (denial : Denial) (whole : Result Denial CertFault) → (Ok denial ≡ whole)
    ⊎ (let wants : Result Denial CertFault = Err OutOfMemory in Ok denial ≡ wants)
    → IsStreamAnswer (Ok denial) whole
answers_denial denial whole e = elim e [ inl is ↦ sym is | inr wants ↦ cc ]

pub answers_wrong : (fault : CertFault) (whole : Result Denial CertFault)
    → (Err fault ≡ whole) ⊎ (let wants : Result Denial CertFault = Err OutOfMemory in Err fault ≡ wants)
    → IsStreamAnswer {A = Denial} (Err (end_of_text fault)) whole
answers_wrong fault whole e = answers_text fault whole e

-- want of memory is no fault of the certificate
pub end_of_text-no_want : (fault : CertFault) → end_of_text fault ≡ Cert OutOfMemory → ⊥
end_of_text-no_want NoHead e = cc
end_of_text-no_want (Bad line) e = cc
end_of_text-no_want (Ended line) e = cc
end_of_text-no_want (Extra line) e = cc
end_of_text-no_want (Peak line) e = cc
end_of_text-no_want OutOfMemory e = cc
