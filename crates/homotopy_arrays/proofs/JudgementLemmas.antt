-- What comes of certificates, from their parts.
use Rattle.homotopy_arrays.proofs.Common.{IsFaultOfMoves, IsFaultOfSpelling, IsFaultOfText, IsFaultOfWalks, IsVerdictOnMoves, IsVerifyFault, Judges, JudgesSpelt, JudgesText, JudgesWalks, of_certificate_fault, AreWalks, Fault, OutOfMemory, ◌≡◌, ◌⊎◌, ◌<◌, ◌≤◌, ℕ, zero, suc, List, [], ◌∷◌, length, get_or, refl, sym, ap, subst, ◌∙◌, inl, inr, arith, get_or_from_slice_get, Result, Ok, Err, MatchResult, Option, Some, None, slice_get, FaceList, Move, Line, end_line, left_start, list-moves, list-wrong, before_ok, head_of_text, moves_of_text, denial_of_lines, Certificate, count_in, denial_left, lines_to_come, moves_left, moves_to_come, next_answer, next_move_of, started, unless_refused, CertHead, CertFault}
use Rattle.commands.specs.declared.inputs.TheConstants.{MOST_BYTES}
use Rattle.homotopy_arrays.specs.declared.verify.Judgement.{Judgement}
use Rattle.homotopy_arrays.specs.declared.verify.Judgement.TheVariants.{Moves, Denial}
use Rattle.homotopy_arrays.specs.declared.verify.VerifyFault.{VerifyFault}
use Rattle.homotopy_arrays.specs.declared.verify.VerifyFault.TheVariants.{Mesh}
use Rattle.labellings.specs.DenialVerdicts.{IsDenialVerdict}
use Rattle.labellings.specs.declared.verdict.DenialVerdict.{DenialVerdict}
use Rattle.move_checker.specs.declared.judge.Verdict.{Verdict}
use Rattle.verify_commands.proofs.Streaming.{denial_right}
use Rattle.labellings.specs.declared.denial.Denial as denials
use Rattle.walk_files.specs.declared.certificate.CertHead.TheVariants as heads
use Rattle.walk_files.specs.declared.fault.CertFault.TheVariants as certificates
use Rattle.commands.specs.declared.certificate.Certificate.TheVariants as shown
use Rattle.homotopy_arrays.proofs.CertificateLemmas.{bad_head, denial_faulty, denial_given, denial_or_memory, denial_start, started_ok}

-- ---- the text

pub head_faulty : (text : List ℕ) (first : CertFault) (fault : VerifyFault) → Err first ≡ started text (head_of_text text)
    → fault ≡ of_certificate_fault first → IsFaultOfSpelling text fault
head_faulty text first fault e is = inr (first, bad_head text (head_of_text text) first refl e, is)

-- the head of a reader that has started
pub head_is : (text : List ℕ) (reader : Certificate) (head : CertHead) → Ok reader ≡ started text (head_of_text text) → reader.head ≡ head
    → head_of_text text ≡ Ok head
head_is text reader head e is = (started_ok text (head_of_text text) reader e).0 ∙ ap Ok is

left_of : (text : List ℕ) (reader : Certificate) (count peak : ℕ) → Ok reader ≡ started text (head_of_text text)
    → reader.head ≡ heads.Moves count peak → moves_left reader ≡ moves_of_text count text
left_of text reader count peak e head =
    let start = started_ok text (head_of_text text) reader e in left_start reader text count peak start.1 head start.2 start.3

denial_of : (text : List ℕ) (reader : Certificate) (degree : ℕ) → Ok reader ≡ started text (head_of_text text)
    → reader.head ≡ heads.Labels degree → denial_left reader ≡ denial_of_lines degree text
denial_of text reader degree e head =
    let start = started_ok text (head_of_text text) reader e in denial_start reader text degree start.1 head start.2 start.3

pub moves_faulty : (text : List ℕ) (reader : Certificate) (count peak : ℕ) (fault : VerifyFault)
    → Ok reader ≡ started text (head_of_text text) → reader.head ≡ heads.Moves count peak → IsFaultOfMoves (moves_left reader) fault
    → IsFaultOfSpelling text fault
moves_faulty text reader count peak fault e head (inl memory) = inl memory
moves_faulty text reader count peak fault e head (inr wrong) =
    let spelt : head_of_text text ≡ Ok (heads.Moves count peak) = head_is text reader (heads.Moves count peak) e head in
    inr (wrong.0, list-wrong text count peak wrong.0 spelt (sym (left_of text reader count peak e head) ∙ wrong.1), wrong.2)

pub moves_judged : (mesh : FaceList) (first second text : List ℕ) (reader : Certificate) (count peak : ℕ) (verdict : Verdict)
    → Ok reader ≡ started text (head_of_text text) → reader.head ≡ heads.Moves count peak
    → IsVerdictOnMoves mesh first second peak (moves_left reader) verdict → JudgesSpelt mesh first second text (Moves verdict)
moves_judged mesh first second text reader count peak verdict e head is =
    let spelt : head_of_text text ≡ Ok (heads.Moves count peak) = head_is text reader (heads.Moves count peak) e head in (
      shown.Moves (record { moves = is.0; peak = peak }),
      list-moves text count peak is.0 spelt (sym (left_of text reader count peak e head) ∙ is.1),
      is.2,
    )

-- none is read yet
pub none_yet : (left : Result (List Move) CertFault) → left ≡ before_ok [] left
none_yet (Ok moves) = refl
none_yet (Err fault) = refl

-- a move that is given is one of those that the head promises
pub promised : (reader : Certificate) (move : Move) → reader.refusal ≡ None → next_answer reader ≡ Ok (Some move)
    → reader.given < count_in reader.head
promised reader move kept gives =
    let end : ℕ = end_line reader.text in
    let still : ℕ = moves_to_come reader in
    let lines : List Line = lines_to_come reader in
    let some : 0 < still = by_lines end still lines
    (sym (ap (λ (o : Option CertFault). unless_refused o (next_move_of end still lines)) kept) ∙ gives) in
    omega (arith, some)
  where
    by_lines : (end still : ℕ) (lines : List Line) → next_move_of end still lines ≡ Ok (Some move) → 0 < still
    by_lines end zero [] e = absurd cc
    by_lines end zero (line ∷ lines) e = absurd cc
    by_lines end (suc still) lines e = omega arith

pub denial_wrong : (text : List ℕ) (reader : Certificate) (degree : ℕ) (first : CertFault) (fault : VerifyFault)
    → Ok reader ≡ started text (head_of_text text) → reader.head ≡ heads.Labels degree
    → (Err first ≡ denial_left reader) ⊎ ((reader.refusal ≡ None)
    × (let wanting : Result denials.Denial CertFault = Err certificates.OutOfMemory in Err first ≡ wanting))
    → fault ≡ of_certificate_fault first → IsFaultOfSpelling text fault
denial_wrong text reader degree first fault e head answer is =
    let spelt : head_of_text text ≡ Ok (heads.Labels degree) = head_is text reader (heads.Labels degree) e head in
    elim (denial_or_memory text degree reader first (denial_of text reader degree e head) answer) [
      | inl wrong ↦ inr (first, denial_faulty text degree first spelt (sym wrong), is)
      | inr memory ↦ inl (is ∙ ap of_certificate_fault memory)
    ]

pub denial_judged : (mesh : FaceList) (first second text : List ℕ) (reader : Certificate) (degree : ℕ) (denial : denials.Denial)
    (verdict : DenialVerdict) → Ok reader ≡ started text (head_of_text text) → reader.head ≡ heads.Labels degree
    → (Ok denial ≡ denial_left reader) ⊎ ((reader.refusal ≡ None) × (Ok denial ≡ Err certificates.OutOfMemory))
    → IsDenialVerdict mesh first second denial verdict → JudgesSpelt mesh first second text (Denial verdict)
denial_judged mesh first second text reader degree denial verdict e head answer is =
    let spelt : head_of_text text ≡ Ok (heads.Labels degree) = head_is text reader (heads.Labels degree) e head in
    let given : denial_of_lines degree text ≡ Ok denial =
    denial_given text degree reader denial (denial_of text reader degree e head) answer in
    (shown.Denial denial, denial_right text degree denial spelt given, is)

-- the text, where it is no longer than is read
pub within_limit : (mesh : FaceList) (first second text : List ℕ) (end : Result Judgement VerifyFault) → length text ≤ MOST_BYTES
    → MatchResult end (JudgesSpelt mesh first second text) (IsFaultOfSpelling text)
    → MatchResult end (JudgesText mesh first second text) (IsFaultOfText text)
within_limit mesh first second text (Ok judgement) few h = (few, h)
within_limit mesh first second text (Err fault) few h = inr (few, h)

-- ---- the walks

-- the walks of a list of two
pub first_of : (walks : List (List ℕ)) (first second walk : List ℕ) → walks ≡ first ∷ second ∷ [] → slice_get walks 0 ≡ Some walk
    → first ≡ walk
first_of walks first second walk are got =
    ap (λ (l : List (List ℕ)). get_or l 0 []) (sym are) ∙ get_or_from_slice_get walks 0 walk [] got

pub second_of : (walks : List (List ℕ)) (first second walk : List ℕ) → walks ≡ first ∷ second ∷ [] → slice_get walks 1 ≡ Some walk
    → second ≡ walk
second_of walks first second walk are got =
    ap (λ (l : List (List ℕ)). get_or l 1 []) (sym are) ∙ get_or_from_slice_get walks 1 walk [] got

pub two_walks : (walks : List (List ℕ)) (first second : List ℕ) → walks ≡ first ∷ second ∷ [] → 1 < length walks
two_walks walks first second are = subst (λ (l : List (List ℕ)). 1 < length l) (sym are) (omega arith)

pub on_walks : (mesh : FaceList) (first second text : List ℕ) (end : Result Judgement VerifyFault) → AreWalks mesh first second
    → MatchResult end (JudgesText mesh first second text) (IsFaultOfText text)
    → MatchResult end (JudgesWalks mesh first second text) (IsFaultOfWalks mesh first second text)
on_walks mesh first second text (Ok judgement) are h = (are, h)
on_walks mesh first second text (Err fault) are h = inr (inr (are, h))

-- ---- the mesh

pub on_mesh : (read : Result FaceList Fault) (mesh : FaceList) (first second text : List ℕ) (end : Result Judgement VerifyFault)
    → read ≡ Ok mesh → MatchResult end (JudgesWalks mesh first second text) (IsFaultOfWalks mesh first second text)
    → MatchResult end (Judges read first second text) (IsVerifyFault read first second text)
on_mesh read mesh first second text (Ok judgement) is h = record { mesh = mesh; is = is; holds = h }
on_mesh read mesh first second text (Err fault) is h = inr (inr (record { mesh = mesh; is = is; holds = h }))

pub no_mesh : (read : Result FaceList Fault) (first second text : List ℕ) (fault : Fault) (told : VerifyFault)
    → (Err fault ≡ read) ⊎ (let wanting : Result FaceList Fault = Err OutOfMemory in Err fault ≡ wanting) → told ≡ Mesh fault
    → IsVerifyFault read first second text told
no_mesh read first second text fault told (inl bad) is = inr (inl (fault, sym bad, is))
no_mesh read first second text fault told (inr memory) is = let same : fault ≡ OutOfMemory = cc in inl (is ∙ ap Mesh same)

pub mesh_read : (read : Result FaceList Fault) (mesh : FaceList)
    → (Ok mesh ≡ read) ⊎ (let wanting : Result FaceList Fault = Err OutOfMemory in Ok mesh ≡ wanting) → read ≡ Ok mesh
mesh_read read mesh (inl is) = sym is
mesh_read read mesh (inr wanting) = cc
