-- The header of a walk text, and what stands behind it.
use Rattle.walk_files.proofs.Common.{◌≡◌, ◌⊎◌, inl, inr, ℕ, Bool, true, false, List, [], ◌∷◌, drop, refl, sym, ap, ◌∙◌, codes, Option, Some, None, Result, Err, MatchOption, Line, is_filled, words, full_lines, LinesLeft, Unread, lines_left, at_line, are_words, words_here, plain_walks_of, WalkText, has_header, in_version, walks_behind, walk_text_of, WalkFault}
use Rattle.walk_files.specs.declared.fault.WalkFault.TheVariants.{OutOfMemory}
use Rattle.walk_files.proofs.FewLemmas.{found_line}

pub header_words : words_here (codes "WALKS 2") ≡ codes "WALKS" ∷ codes "2" ∷ []
unfolding words_here words
header_words = refl

pub no_header : (lines : List Line) → false ≡ is_filled lines → false ≡ has_header lines
no_header [] e = refl
no_header (line ∷ lines) e = cc

pub first_line : (old new : Unread) (answer : Bool) → is_filled (lines_left old) ≡ true → new ≡ at_line old (lines_left old)
    → answer ≡ are_words new.words (words_here (codes "WALKS 2")) → answer ≡ has_header (lines_left old)
first_line old new answer filled is told =
    told ∙ ap (are_words new.words) header_words ∙ sym (ap has_header (found_line old new filled is))

pub next_behind : (found : Option Line) (old new : LinesLeft)
    → MatchOption found ((old.lines ≡ []) × (new ≡ old)) (λ line. old ≡ record new { lines = line ∷ new.lines })
    → new.lines ≡ drop 1 old.lines
next_behind None old new h = ap (λ (l : LinesLeft). l.lines) h.1 ∙ h.0 ∙ sym (ap (λ ls. drop 1 ls) h.0)
next_behind (Some line) old new h = sym (ap (λ (l : LinesLeft). drop 1 l.lines) h)

pub as_groups : (text : List ℕ) (lines : List Line) (read : Result WalkText WalkFault) → true ≡ has_header (full_lines text)
    → lines ≡ drop 1 (full_lines text)
    → (read ≡ in_version 2 (walks_behind [] lines)) ⊎ (read ≡ Err OutOfMemory) → (read ≡ walk_text_of text) ⊎ (read ≡ Err OutOfMemory)
as_groups text lines read header behind (inr e) = inr e
as_groups text lines read header behind (inl e) =
    let same : has_header (full_lines text) ≡ true = sym header in
    inl (e ∙ ap (λ ls. in_version 2 (walks_behind [] ls)) behind ∙ sym (rw same refl))

pub as_plain : (text : List ℕ) (lines : List Line) (read : Result WalkText WalkFault) → false ≡ has_header (full_lines text)
    → lines ≡ full_lines text
    → (read ≡ in_version 1 (plain_walks_of lines)) ⊎ (read ≡ Err OutOfMemory) → (read ≡ walk_text_of text) ⊎ (read ≡ Err OutOfMemory)
as_plain text lines read header behind (inr e) = inr e
as_plain text lines read header behind (inl e) =
    let same : has_header (full_lines text) ≡ false = sym header in
    inl (e ∙ ap (λ ls. in_version 1 (plain_walks_of ls)) behind ∙ sym (rw same refl))
