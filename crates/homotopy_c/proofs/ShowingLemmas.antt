-- What is told of certificates, that are written and that are judged, and what it means.
use Rattle.homotopy_c.proofs.Common.{AreWalks, CertifyFault, VerifyFault, IsCertifyCall, TellsCertificate, code_of, IsVerifyCall, ended, judged, judged_denial, judged_labels, judged_moves, move_code, told_verify, CertificateHolds, Shows, ShowsDifferent, ShowsHomotopic, in_front, Outcome, ◌≡◌, ◌≢◌, ◌⊎◌, inl, inr, ℕ, ◌<◌, ◌≤◌, List, length, get_or, take, refl, sym, ap, ◌∙◌, subst, arith, take-append_seam, cases_lt, Result, Ok, Err, MatchResult, FaceList, IsFaceList, HasFileSize, IsOrientableSurface}
use Rattle.commands.specs.Certificates.{Convinces, certificate_text, decision_of}
use Rattle.commands.specs.Inputs.{SpellsCertificate}
use Rattle.commands.specs.declared.certificate.Certificate.{Certificate}
use Rattle.commands.specs.declared.certificate.Certificate.TheVariants.{Moves, Denial}
use Rattle.commands.specs.declared.inputs.TheConstants.{MOST_BYTES}
use Rattle.homotopy_arrays.specs.Certifications.{Certifies, IsCertificateFor, IsCertifyFault}
use Rattle.homotopy_arrays.specs.Judgements.{IsFaultOfSpelling, IsFaultOfText, IsFaultOfWalks, IsJudgement, IsVerifyFault, Judges, JudgesWalks, no_memory}
use Rattle.homotopy_arrays.specs.declared.verify.Judgement.{Judgement}
use Rattle.labellings.proofs.VerdictLemmas.{one_verdict}
use Rattle.labellings.specs.DenialVerdicts.{IsDenialVerdict}
use Rattle.labellings.specs.declared.fault.LabelFault.{LabelFault}
use Rattle.labellings.specs.declared.verdict.DenialVerdict.{DenialVerdict}
use Rattle.move_checker.proofs.Judgement.{accepted_exactly}
use Rattle.move_checker.specs.declared.fault.MoveFault.{MoveFault}
use Rattle.move_checker.specs.declared.fault.MoveFault.TheVariants.{Place, NoEdge, NotSpur, NotOnFace, OverPeak}
use Rattle.move_checker.specs.declared.judge.Verdict.{Verdict}
use Rattle.std.proofs.Common.{drop}
use Rattle.std.specs.Prelude.{◌↔◌}
use Rattle.verify_commands.proofs.Accepting.{spelled}
use Rattle.labellings.specs.declared.fault.LabelFault.TheVariants as labels
use Rattle.labellings.specs.declared.verdict.DenialVerdict.TheVariants as denials
use Rattle.move_checker.specs.declared.judge.Verdict.TheVariants as verdicts
use Rattle.surf_model.specs.declared.decisions.Answer.TheVariants as decisions
use Rattle.homotopy_arrays.specs.declared.verify.Judgement.TheVariants as judgements
use Rattle.homotopy_c.specs.declared.codes.TheConstants as codes
use Rattle.homotopy_c.proofs.CodeLemmas.{certify_code, verify_code}
use Rattle.homotopy_c.proofs.TellingLemmas.{of_one}

-- ---- what is written

-- a certificate was written, and what it shows
pub record IsWritten (mesh : FaceList) (first second old text : List ℕ) (outcome : Outcome) : Type 0 where
  pub shown : Certificate
  pub surface : IsOrientableSurface mesh
  pub certified : IsCertificateFor mesh first second shown
  pub code : outcome.code ≡ code_of shown
  pub long : get_or outcome.numbers 0 0 ≡ length (certificate_text shown)
  pub room : length (certificate_text shown) ≤ length old
  pub written : text ≡ in_front (certificate_text shown) old

-- or nothing was, and no answer is told
pub record IsNotWritten (old text : List ℕ) (outcome : Outcome) : Type 0 where
  pub same : text ≡ old
  pub code : codes.ACCEPTED < outcome.code

written : (mesh : FaceList) (first second old text : List ℕ) (outcome : Outcome) (end : Result Certificate CertifyFault)
    → MatchResult end (Certifies (Ok mesh) first second) (IsCertifyFault (Ok mesh) first second) → TellsCertificate end old text outcome
    → IsWritten mesh first second old text outcome ⊎ IsNotWritten old text outcome
written mesh first second old text outcome (Ok shown) right (inl put) =
    elim (cases_lt (length old) (length (certificate_text shown))) [
      | inl less ↦
          (let short = put.short less in
          inr (record { same = short.0; code = (let code = ap (λ (o : Outcome). o.code) short.1 in omega (arith, code)) }))
      | inr room ↦
          (let there = put.room room in
          let holds = of_one mesh (λ m. IsOrientableSurface m × IsCertificateFor m first second shown) right in
          inl (record {
            shown = shown;
            surface = holds.0;
            certified = holds.1;
            code = ap (λ (o : Outcome). o.code) there.1;
            long = ap (λ (o : Outcome). get_or o.numbers 0 0) there.1;
            room = room;
            written = there.0;
          }))
    ]
written mesh first second old text outcome (Ok shown) right (inr none) =
    inr (record { same = none.0; code = (let code = ap (λ (o : Outcome). o.code) none.1 in omega (arith, code)) })
written mesh first second old text outcome (Err fault) right tells =
    inr (record { same = tells.0; code = (let code = ap (λ (o : Outcome). o.code) tells.1 in omega (arith, code, certify_code fault)) })

pub call_written : (mesh : FaceList) (first second old text : List ℕ) (outcome : Outcome)
    → IsCertifyCall (Ok mesh) first second old text outcome
    → IsWritten mesh first second old text outcome ⊎ IsNotWritten old text outcome
call_written mesh first second old text outcome h = written mesh first second old text outcome h.end h.right h.tells

shows : (mesh : FaceList) (first second old text : List ℕ) (outcome : Outcome) → IsWritten mesh first second old text outcome
    → Shows mesh first second old text outcome
shows mesh first second old text outcome w = (w.shown, w.certified.convinces, w.written, w.long, w.room)

yes_code : (shown : Certificate) → code_of shown ≡ codes.HOMOTOPIC → decision_of shown ≡ decisions.Homotopic
yes_code (Moves list) e = refl
yes_code (Denial denial) e = absurd (omega (arith, e))

no_code : (shown : Certificate) → code_of shown ≡ codes.DIFFERENT → decision_of shown ≡ decisions.Homotopic → ⊥
no_code (Moves list) e same = absurd (omega (arith, e))
no_code (Denial denial) e same = cc

pub certify_homotopic : (mesh : FaceList) (first second old text : List ℕ) (outcome : Outcome)
    → IsCertifyCall (Ok mesh) first second old text outcome → outcome.code ≡ codes.HOMOTOPIC
    → ShowsHomotopic mesh first second old text outcome
certify_homotopic mesh first second old text outcome h e =
    elim (call_written mesh first second old text outcome h) [
      | inl w ↦ record {
        surface = w.surface;
        walks = w.certified.walks;
        homotopic = w.certified.exactly.0 (yes_code w.shown (sym w.code ∙ e));
        shows = shows mesh first second old text outcome w;
      }
      | inr none ↦ absurd (let code = none.code in omega (arith, e, code))
    ]

pub certify_different : (mesh : FaceList) (first second old text : List ℕ) (outcome : Outcome)
    → IsCertifyCall (Ok mesh) first second old text outcome → outcome.code ≡ codes.DIFFERENT
    → ShowsDifferent mesh first second old text outcome
certify_different mesh first second old text outcome h e =
    elim (call_written mesh first second old text outcome h) [
      | inl w ↦ record {
        surface = w.surface;
        walks = w.certified.walks;
        different = λ leads. no_code w.shown (sym w.code ∙ e) (w.certified.exactly.1 leads);
        shows = shows mesh first second old text outcome w;
      }
      | inr none ↦ absurd (let code = none.code in omega (arith, e, code))
    ]

answer_code : (shown : Certificate) → (code_of shown ≡ codes.HOMOTOPIC) ⊎ (code_of shown ≡ codes.DIFFERENT)
answer_code (Moves list) = inl refl
answer_code (Denial denial) = inr refl

pub certify_nothing : (mesh : FaceList) (first second old text : List ℕ) (outcome : Outcome)
    → IsCertifyCall (Ok mesh) first second old text outcome → outcome.code ≢ codes.HOMOTOPIC → outcome.code ≢ codes.DIFFERENT → text ≡ old
certify_nothing mesh first second old text outcome h not_yes not_no =
    elim (call_written mesh first second old text outcome h) [
      | inl w ↦ absurd (elim (answer_code w.shown) [ inl e ↦ not_yes (w.code ∙ e) | inr e ↦ not_no (w.code ∙ e) ])
      | inr none ↦ none.same
    ]

-- ---- what is judged

-- no other verdict has the code of acceptance
move_refused : (fault : MoveFault) → codes.ACCEPTED < move_code fault
move_refused Place = omega arith
move_refused NoEdge = omega arith
move_refused NotSpur = omega arith
move_refused NotOnFace = omega arith
move_refused OverPeak = omega arith

moves_accepted : (verdict : Verdict) → (judged_moves verdict).code ≡ codes.ACCEPTED → verdict ≡ verdicts.Accepted
moves_accepted verdicts.Accepted e = refl
moves_accepted verdicts.Peak e = absurd (omega (arith, e))
moves_accepted (verdicts.AtMove number fault) e = absurd (omega (arith, e, move_refused fault))
moves_accepted verdicts.End e = absurd (omega (arith, e))

labels_refused : (fault : LabelFault) → codes.ACCEPTED < (judged_labels fault).code
labels_refused labels.Shape = omega arith
labels_refused (labels.Degree degree) = omega arith
labels_refused (labels.PlaceTwice place) = omega arith
labels_refused (labels.EdgeRule low high) = omega arith
labels_refused labels.OutOfMemory = omega arith

denial_accepted : (verdict : DenialVerdict) → (judged_denial verdict).code ≡ codes.ACCEPTED → verdict ≡ denials.Accepted
denial_accepted denials.Accepted e = refl
denial_accepted (denials.Label fault) e = absurd (omega (arith, e, labels_refused fault))
denial_accepted (denials.WordWrong walk) e = absurd (omega (arith, e))
denial_accepted denials.Equal e = absurd (omega (arith, e))

-- a judgement has that code exactly where the certificate is accepted
accepted_code : (mesh : FaceList) (first second : List ℕ) (shown : Certificate) (judgement : Judgement)
    → IsJudgement mesh first second shown judgement → ((judged judgement).code ≡ codes.ACCEPTED) ↔ CertificateHolds mesh first second shown
accepted_code mesh first second (Moves list) (judgements.Moves verdict) is =
    let exactly = accepted_exactly mesh first second list verdict is in (
      λ e. (let leads = exactly.0 (moves_accepted verdict e) in record { leads = leads.0; within = leads.1 }),
      λ h. ap (λ (v : Verdict). (judged_moves v).code) (exactly.1 (h.leads, h.within)),
    )
accepted_code mesh first second (Moves list) (judgements.Denial verdict) is = absurd is
accepted_code mesh first second (Denial denial) (judgements.Moves verdict) is = absurd is
accepted_code mesh first second (Denial denial) (judgements.Denial verdict) is = (
  λ e. subst (IsDenialVerdict mesh first second denial) (denial_accepted verdict e) is,
  λ h. ap (λ (v : DenialVerdict). (judged_denial v).code) (one_verdict mesh first second denial verdict denials.Accepted is h),
)

-- what `homotopy_verify` tells where it tells that a certificate is accepted
pub accepted_convinces : (mesh : FaceList) (first second text : List ℕ) (outcome : Outcome)
    → IsVerifyCall (Ok mesh) first second text outcome → outcome.code ≡ codes.ACCEPTED
    → AreWalks mesh first second × (shown : Certificate) × SpellsCertificate shown text × CertificateHolds mesh first second shown
accepted_convinces mesh first second text outcome h e = by_end h.end h.right (sym (ap (λ (o : Outcome). o.code) h.tells) ∙ e)
  where
    by_end : (end : Result Judgement VerifyFault)
        → MatchResult end (Judges (Ok mesh) first second text) (IsVerifyFault (Ok mesh) first second text)
        → (ended end).code ≡ codes.ACCEPTED
        → AreWalks mesh first second × (shown : Certificate) × SpellsCertificate shown text × CertificateHolds mesh first second shown
    by_end (Ok judgement) right code =
        let there = of_one mesh (λ m. JudgesWalks m first second text judgement) right in
        (there.0, there.1.1.0, there.1.1.1, (accepted_code mesh first second there.1.1.0 judgement there.1.1.2).0 code)
    by_end (Err fault) right code = absurd (omega (arith, code, verify_code fault))

-- memory is the one thing that may be wanting where the walks, the text and what it spells are in order
only_memory : (mesh : FaceList) (first second text : List ℕ) (shown : Certificate) (fault : VerifyFault) → AreWalks mesh first second
    → length text ≤ MOST_BYTES → SpellsCertificate shown text → IsVerifyFault (Ok mesh) first second text fault → fault ≡ no_memory
only_memory mesh first second text shown fault walks few spells (inl none) = none
only_memory mesh first second text shown fault walks few spells (inr (inl no_mesh)) = (let wrong = no_mesh.1 in cc)
only_memory mesh first second text shown fault walks few spells (inr (inr on_mesh)) =
    of_walks (of_one mesh (λ m. IsFaultOfWalks m first second text fault) on_mesh)
  where
    of_spelling : IsFaultOfSpelling text fault → fault ≡ no_memory
    of_spelling (inl none) = none
    of_spelling (inr wrong) = (let first_is = wrong.1 in cc)

    of_text : IsFaultOfText text fault → fault ≡ no_memory
    of_text (inl long) = absurd (omega (arith, few, long.0))
    of_text (inr other) = of_spelling other.1

    of_walks : IsFaultOfWalks mesh first second text fault → fault ≡ no_memory
    of_walks (inl none) = none
    of_walks (inr (inl wrong)) = absurd (wrong.2 walks)
    of_walks (inr (inr other)) = of_text other.1

pub convinces_accepted : (mesh : FaceList) (first second text : List ℕ) (outcome : Outcome) (shown : Certificate)
    → IsVerifyCall (Ok mesh) first second text outcome → AreWalks mesh first second → length text ≤ MOST_BYTES
    → SpellsCertificate shown text → CertificateHolds mesh first second shown
    → (outcome.code ≡ codes.ACCEPTED) ⊎ (outcome.code ≡ codes.NO_MEMORY)
convinces_accepted mesh first second text outcome shown h walks few spells holds =
    by_end h.end h.right (ap (λ (o : Outcome). o.code) h.tells)
  where
    by_end : (end : Result Judgement VerifyFault)
        → MatchResult end (Judges (Ok mesh) first second text) (IsVerifyFault (Ok mesh) first second text)
        → outcome.code ≡ (ended end).code → (outcome.code ≡ codes.ACCEPTED) ⊎ (outcome.code ≡ codes.NO_MEMORY)
    by_end (Ok judgement) right code =
        let there = of_one mesh (λ m. JudgesWalks m first second text judgement) right in
        let same : there.1.1.0 ≡ shown = (let spelt = there.1.1.1 in cc) in
        let is : IsJudgement mesh first second shown judgement =
        subst (λ (s : Certificate). IsJudgement mesh first second s judgement) same there.1.1.2 in
        inl (code ∙ (accepted_code mesh first second shown judgement is).1 holds)
    by_end (Err fault) right code =
        inr (code ∙ ap (λ (f : VerifyFault). (told_verify f).code) (only_memory mesh first second text shown fault walks few spells right))

-- ---- what is written is accepted

convincing : (mesh : FaceList) (first second : List ℕ) (shown : Certificate) → Convinces mesh first second shown
    → CertificateHolds mesh first second shown
convincing mesh first second (Moves list) h = record { leads = h.leads; within = omega (arith, h.peak) }
convincing mesh first second (Denial denial) h = h

pub written_accepted : (mesh : FaceList) (first second old text : List ℕ) (outcome told : Outcome) → IsFaceList mesh → HasFileSize mesh
    → IsCertifyCall (Ok mesh) first second old text outcome
    → (outcome.code ≡ codes.HOMOTOPIC) ⊎ (outcome.code ≡ codes.DIFFERENT) → get_or outcome.numbers 0 0 ≤ MOST_BYTES
    → IsVerifyCall (Ok mesh) first second (take (get_or outcome.numbers 0 0) text) told
    → (told.code ≡ codes.ACCEPTED) ⊎ (told.code ≡ codes.NO_MEMORY)
written_accepted mesh first second old text outcome told valid small h answered few verify =
    by_text (call_written mesh first second old text outcome h)
  where
    by_text : IsWritten mesh first second old text outcome ⊎ IsNotWritten old text outcome
        → (told.code ≡ codes.ACCEPTED) ⊎ (told.code ≡ codes.NO_MEMORY)
    by_text (inl w) =
        let shown : List ℕ = certificate_text w.shown in
        let is : take (get_or outcome.numbers 0 0) text ≡ shown =
        ap (λ (n : ℕ). take n text) w.long ∙ ap (take (length shown)) w.written
        ∙ take-append_seam shown (drop (length shown) old) in
        let short : length shown ≤ MOST_BYTES = omega (arith, few, w.long) in
        convinces_accepted mesh first second shown told w.shown
        (subst (λ (t : List ℕ). IsVerifyCall (Ok mesh) first second t told) is verify) w.certified.walks short
        (spelled mesh first second w.shown valid small w.certified.walks.first_walk (omega (arith, w.certified.walks.few.0))
        (omega (arith, w.certified.walks.few.1)) w.certified.convinces w.certified.low short)
        (convincing mesh first second w.shown w.certified.convinces)
    by_text (inr none) = absurd (elim answered [
      | inl e ↦ (let code = none.code in omega (arith, e, code))
      | inr e ↦ (let code = none.code in omega (arith, e, code))
    ])
