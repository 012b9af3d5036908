-- `verify` in the words of the mesh.
use Rattle.verify_commands.proofs.Common.{IsJudgedBy, judged_by, judgement_answered, mesh_valid, mesh_passes, held, meant_told, Answer, IsText, Refuse, Pass, Passes, IsTold, Holds, IsCertificateEnd, certificate_in, certificate_in_bytes, certificate_of, SpellsPair, SpellsCertificate, Outcome, AnswersTo, IsAnswerOf, certificate_line, Certificate, Status, Yes, IsDenialVerdict, DenialHolds, DenialVerdict, accepted_exactly, verdict_of, Verdict, Accepted, Peak, AtMove, ◌≡◌, inr, ℕ, ◌≤◌, List, [], ◌∷◌, codes, refl, sym, ap, ◌∙◌, subst, ◌↔◌, Option, Files, FaceList, PeakedMoves, Leads, greatest_darts, verify, verdict_status, denial_status, denial_line, judgement, IsVerifyInput, IsVerified, IsDenialVerified, verdict_answer, denial_answer}
use Rattle.labellings.proofs.WalkWordLemmas.{denial_excludes}
use Rattle.labellings.specs.declared.denial.Denial.{Denial}
use Rattle.move_checker.specs.declared.judge.Verdict.TheVariants.{End}
use Rattle.labellings.specs.declared.verdict.DenialVerdict.TheVariants as verdicts
use Rattle.commands.specs.declared.certificate.Certificate.TheVariants as certificates
use Rattle.commands.specs.declared.refusal.Input.TheVariants as inputs
use Rattle.verify_commands.proofs.Streaming.{where_told_ends}
use Rattle.verify_commands.proofs.VerifyRows.{sound-certificate}

-- the status is yes exactly where the verdict is that the list is accepted
yes_accepted : (verdict : Verdict) → verdict_status verdict ≡ Yes → verdict ≡ Accepted
yes_accepted Accepted e = refl
yes_accepted Peak e = cc
yes_accepted (AtMove number fault) e = cc
yes_accepted End e = cc

yes_exactly : (status : Status) (mesh : FaceList) (first second : List ℕ) (list : PeakedMoves)
    → status ≡ verdict_status (verdict_of mesh first second list)
    → (status ≡ Yes) ↔ (Leads mesh first list.moves second × (greatest_darts mesh first list.moves ≤ list.peak))
yes_exactly status mesh first second list e =
    let exact = accepted_exactly mesh first second list (verdict_of mesh first second list) refl in (
      λ yes. exact.0 (yes_accepted (verdict_of mesh first second list) (sym e ∙ yes)),
      λ leads. e ∙ ap verdict_status (exact.1 leads),
    )

judgement_told : (files : Option Files) (mesh : FaceList) (first second : List ℕ) (shown : Certificate)
    → (judgement mesh first second shown).EachFile (IsTold files)
judgement_told files mesh first second (certificates.Moves list) = tt
judgement_told files mesh first second (certificates.Denial denial) = tt

-- a file that spells a certificate passes it
certificate_spelled : (files : Option Files) (name : List ℕ) (shown : Certificate) → Holds files name (SpellsCertificate shown)
    → Passes (certificate_in files name) shown
certificate_spelled files name shown h =
    let file = held files name (SpellsCertificate shown) h in
    where_told_ends files name (certificate_in_bytes files name) IsCertificateEnd (Pass shown) file.told
    (inr (file.bytes, file.passes inputs.Certificate, rw file.holds refl))

-- as the judgement ends, the command does
pub judged_input : (files : Option Files) (words : List (List ℕ)) (mesh : FaceList) (first second : List ℕ) (shown : Certificate)
    (input : IsVerifyInput files words mesh first second shown)
    → IsJudgedBy files (verify files input.mesh_name input.walks_name input.certificate_name) (judgement mesh first second shown)
judged_input files words mesh first second shown input =
    judged_by (codes "verify") SpellsCertificate files (certificate_in files) judgement (sound-certificate files)
    (λ name told. (told, λ bytes _. meant_told files certificate_line (certificate_of bytes))) (certificate_spelled files)
    (judgement_told files) words mesh first second shown input

-- a judgement on a denial is its verdict
judged_end : (mesh : FaceList) (first second : List ℕ) (denial : Denial) (outcome : Outcome) (status : Status) (text : List ℕ)
    → (judgement mesh first second (certificates.Denial denial)).Ends outcome → IsAnswerOf outcome status text
    → (verdict : DenialVerdict) × IsDenialVerdict mesh first second denial verdict × (status ≡ denial_status verdict)
    × IsText (denial_line verdict) text
judged_end mesh first second denial (Refuse texts) status text p answer = absurd p
judged_end mesh first second denial (Pass x) status text p answer =
    let here : IsAnswerOf (Pass (denial_answer p.0)) status text = subst (λ (y : Answer). IsAnswerOf (Pass y) status text) p.1 answer in
    (p.0, p.2, here.status_is, here.text_is)

-- where it is accepted, the denial holds
holds_where_yes : (mesh : FaceList) (first second : List ℕ) (denial : Denial) (verdict : DenialVerdict)
    → IsDenialVerdict mesh first second denial verdict
    → denial_status verdict ≡ Yes → DenialHolds mesh first second denial
holds_where_yes mesh first second denial (verdicts.Label fault) is e = cc
holds_where_yes mesh first second denial (verdicts.WordWrong walk) is e = cc
holds_where_yes mesh first second denial verdicts.Equal is e = cc
holds_where_yes mesh first second denial verdicts.Accepted is e = is

module _ (files : Option Files) (words : List (List ℕ)) (status : Status) (text : List ℕ)
    (answered : (mesh walks certificate : List ℕ) → words ≡ codes "verify" ∷ mesh ∷ walks ∷ certificate ∷ []
    → AnswersTo files (verify files mesh walks certificate) status text) where
  -- such an input is answered by the judgement on it
  judged_so : (mesh : FaceList) (first second : List ℕ) (shown : Certificate) → IsVerifyInput files words mesh first second shown
      → AnswersTo files (judgement mesh first second shown) status text
  judged_so mesh first second shown input =
      judgement_answered files (verify files input.mesh_name input.walks_name input.certificate_name) (judgement mesh first second shown)
      status text (judged_input files words mesh first second shown input)
      (answered input.mesh_name input.walks_name input.certificate_name input.words_are)

  judged_list : (mesh : FaceList) (first second : List ℕ) (list : PeakedMoves)
      → IsVerifyInput files words mesh first second (certificates.Moves list)
      → IsAnswerOf (Pass (verdict_answer (verdict_of mesh first second list))) status text
  judged_list mesh first second list input =
      (judged_so mesh first second (certificates.Moves list) input).exact tt
      (Pass (verdict_answer (verdict_of mesh first second list))) refl

  -- what is answered of a list of moves, where the words are answered by the check
  pub verified : IsVerified files words status text
  verified = record {
    judged = λ mesh first second list input. let a = judged_list mesh first second list input in (a.status_is, a.text_is);
    accepted = λ mesh first second list input. yes_exactly status mesh first second list
        (judged_list mesh first second list input).status_is;
  }

  judged_denial : (mesh : FaceList) (first second : List ℕ) (denial : Denial) (verdict : DenialVerdict)
      → IsVerifyInput files words mesh first second (certificates.Denial denial) → IsDenialVerdict mesh first second denial verdict
      → (status ≡ denial_status verdict) × IsText (denial_line verdict) text
  judged_denial mesh first second denial verdict input is =
      let a = (judged_so mesh first second (certificates.Denial denial) input).exact tt
      (Pass (denial_answer verdict)) (verdict, refl, is) in
      (a.status_is, a.text_is)

  denial_told : (mesh : FaceList) (first second : List ℕ) (denial : Denial)
      → IsVerifyInput files words mesh first second (certificates.Denial denial)
      → (verdict : DenialVerdict) × IsDenialVerdict mesh first second denial verdict × (status ≡ denial_status verdict)
      × IsText (denial_line verdict) text
  denial_told mesh first second denial input =
      let a = judged_so mesh first second (certificates.Denial denial) input in
      judged_end mesh first second denial a.outcome status text a.is_outcome a.is_answer

  -- what is answered of a denial, where the words are answered by the check
  pub denial_verified : IsDenialVerified files words status text
  denial_verified = record {
    different = λ mesh first second denial input yes homotopic.
        let told = denial_told mesh first second denial input in
        let holds = holds_where_yes mesh first second denial told.0 told.1 (sym told.2 ∙ yes) in
        let pair = (held files input.walks_name (SpellsPair mesh first second) input.walks_file).holds in
        denial_excludes mesh first second denial
        (mesh_valid files input.mesh_name mesh (mesh_passes files input.mesh_name mesh input.mesh_file)) pair.are.first_walk holds
        homotopic;
    accepted = λ mesh first second denial input. (
      λ yes. let told = denial_told mesh first second denial input in holds_where_yes mesh first second denial told.0 told.1
          (sym told.2 ∙ yes),
      λ holds. (judged_denial mesh first second denial verdicts.Accepted input holds).0,
    );
    judged = denial_told;
    exactly = judged_denial;
  }
