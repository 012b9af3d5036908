-- Certificates in bytes, read move by move or whole.
use Rattle.homotopy_arrays.proofs.Common.{◌≡◌, ◌⊎◌, inl, inr, ℕ, ◌≤◌, Bool, true, false, List, [], ◌∷◌, refl, ap, sym, ◌∙◌, subst, arith, nat_lt, if◌then◌else◌, Option, Some, None, Result, Ok, Err, is_some, Line, full_lines, end_line, answer_alone, first_head, fits, fitting_head, head_among, head_in, head_of_text, within_peak, cert_head_of, denial_of_lines, Certificate, denial_left, started, CertHead, CertFault}
use Rattle.commands.specs.Inputs.{certificate_of}
use Rattle.labellings.specs.declared.denial.Denial.{Denial}
use Rattle.std.proofs.lemmas.Bool.Decides.{nat_tests}
use Rattle.walk_files.specs.declared.certificate.CertHead.TheVariants.{Moves, Labels}
use Rattle.walk_files.specs.declared.fault.CertFault.TheVariants.{Bad, Peak, OutOfMemory}
use Rattle.walk_files.specs.declared.limits.TheConstants.{MOST_PEAK}

-- ---- the text

pub started_ok : (text : List ℕ) (head : Result CertHead CertFault) (reader : Certificate) → Ok reader ≡ started text head
    → (head ≡ Ok reader.head) × (reader.text ≡ text) × (reader.given ≡ 0) × (reader.refusal ≡ None)
started_ok text (Err fault) reader e = cc
started_ok text (Ok head) reader e = (cc, cc, cc, cc)

pub bad_head : (text : List ℕ) (head : Result CertHead CertFault) (fault : CertFault) → head_of_text text ≡ head
    → Err fault ≡ started text head → certificate_of text ≡ Err fault
bad_head text (Err other) fault is e = let same : other ≡ fault = cc in rw is (ap Err same)
bad_head text (Ok head) fault is e = cc

pub denial_faulty : (text : List ℕ) (degree : ℕ) (fault : CertFault) → head_of_text text ≡ Ok (Labels degree)
    → denial_of_lines degree text ≡ Err fault → certificate_of text ≡ Err fault
denial_faulty text degree fault e f = rw (e, f) refl

-- a reader that has just started has the whole denial to give
pub denial_start : (reader : Certificate) (text : List ℕ) (degree : ℕ) → reader.text ≡ text → reader.head ≡ Labels degree → reader.given ≡ 0
    → reader.refusal ≡ None → denial_left reader ≡ denial_of_lines degree text
denial_start reader text degree is_text is_head is_given kept = rw (is_text, is_head, is_given, kept) refl

-- what a reader of a denial gives is that of the text, unless memory is wanting
pub denial_or_memory : (text : List ℕ) (degree : ℕ) (reader : Certificate) (fault : CertFault)
    → denial_left reader ≡ denial_of_lines degree text
    → (Err fault ≡ denial_left reader) ⊎ ((reader.refusal ≡ None)
    × (let wanting : Result Denial CertFault = Err OutOfMemory in Err fault ≡ wanting))
    → (Err fault ≡ denial_of_lines degree text) ⊎ (fault ≡ OutOfMemory)
denial_or_memory text degree reader fault start (inl given) = inl (given ∙ start)
denial_or_memory text degree reader fault start (inr wanting) = let e = wanting.1 in inr cc

pub denial_given : (text : List ℕ) (degree : ℕ) (reader : Certificate) (denial : Denial) → denial_left reader ≡ denial_of_lines degree text
    → (Ok denial ≡ denial_left reader) ⊎ ((reader.refusal ≡ None) × (Ok denial ≡ Err OutOfMemory))
    → denial_of_lines degree text ≡ Ok denial
denial_given text degree reader denial start (inl given) = sym (given ∙ start)
denial_given text degree reader denial start (inr wanting) = let e = wanting.1 in cc

-- ---- the peak of a head is within the limit

within : (line : ℕ) (head : CertHead) (count peak : ℕ) → within_peak line head ≡ Ok (Moves count peak) → peak ≤ MOST_PEAK
within line (Labels degree) count peak e = cc
within line (Moves n p) count peak e = by_test (nat_lt MOST_PEAK p) refl e
  where
    by_test : (b : Bool) → nat_lt MOST_PEAK p ≡ b → (if b then Err (Peak line) else Ok (Moves n p)) ≡ Ok (Moves count peak)
        → peak ≤ MOST_PEAK
    by_test true t e = cc
    by_test false t e = let same : p ≡ peak = cc in subst (λ (q : ℕ). q ≤ MOST_PEAK) same (grind (arith, nat_tests))

fitting : (b : Bool) (line : ℕ) (head : CertHead) (count peak : ℕ)
    → (if b then within_peak line head else Err (Bad line)) ≡ Ok (Moves count peak) → peak ≤ MOST_PEAK
fitting true line head count peak e = within line head count peak e
fitting false line head count peak e = cc

-- a head that stands alone, or behind an answer that the words before it are
alone : (line : ℕ) (head : Option CertHead) (count peak : ℕ) → fitting_head None line head ≡ Ok (Moves count peak) → peak ≤ MOST_PEAK
alone line None count peak e = cc
alone line (Some head) count peak e = fitting (fits None head) line head count peak e

behind : (words : List (List ℕ)) (line : ℕ) (head : Option CertHead) (count peak : ℕ)
    → fitting_head (answer_alone words) line head ≡ Ok (Moves count peak) → peak ≤ MOST_PEAK
behind words line None count peak e = cc
behind words line (Some head) count peak e = fitting (fits (answer_alone words) head) line head count peak e

first : (words : List (List ℕ)) (end : ℕ) (lines : List Line) (count peak : ℕ)
    → first_head (answer_alone words) end lines ≡ Ok (Moves count peak) → peak ≤ MOST_PEAK
first words end [] count peak e = cc
first words end (line ∷ lines) count peak e = behind words line.number (cert_head_of line.words) count peak e

among : (end : ℕ) (lines : List Line) (count peak : ℕ) → head_among end lines ≡ Ok (Moves count peak) → peak ≤ MOST_PEAK
among end [] count peak e = cc
among end (line ∷ lines) count peak e = by_test (is_some (answer_alone line.words)) e
  where
    by_test : (b : Bool) → (if b then first_head (answer_alone line.words) end lines else head_in None line) ≡ Ok (Moves count peak)
        → peak ≤ MOST_PEAK
    by_test true e = first line.words end lines count peak e
    by_test false e = alone line.number (cert_head_of line.words) count peak e

pub head_within : (text : List ℕ) (count peak : ℕ) → head_of_text text ≡ Ok (Moves count peak) → peak ≤ MOST_PEAK
head_within text count peak e = among (end_line text) (full_lines text) count peak e
