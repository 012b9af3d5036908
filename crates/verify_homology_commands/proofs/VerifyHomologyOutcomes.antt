-- `verify-homology` in the words of the mesh.
use Rattle.verify_homology_commands.proofs.Common.{IsJudgedBy, judged_by, judgement_answered, IsSound, sound-then, sound-meant, sound-file, held, meant_told, Answer, Refuse, Pass, SpellsPair, face_number, edge_number, IsVerdict, HomologyCert, HomologyVerdict, cert_of_text, ◌≡◌, inr, ℕ, List, [], ◌∷◌, codes, refl, sym, ◌∙◌, subst, Option, Files, FaceList, walk_at, verify_homology, homology_verdict_status, homology_verdict_line, homology_verdict_answer, fault_line, homology_judgement, homology_certificate_in, ShownBy, IsInput, IsHomologyVerified}
use Rattle.commands.proofs.MeshTexts.{mesh_valid}
use Rattle.commands.proofs.Rows.{sound-mesh, sound-pair}
use Rattle.commands.specs.Outcomes.{Outcome, AnswersTo, IsAnswerOf}
use Rattle.commands.specs.declared.status.Status.{Status}
use Rattle.commands.specs.declared.status.Status.TheVariants.{Yes}
use Rattle.homology.proofs.PairingLemmas.{refuted}
use Rattle.homology.specs.declared.verdict.HomologyVerdict.TheVariants.{Face, Edge, Sum, Zero, Accepted}
use Rattle.std.specs.Prelude.{Ok}
use Rattle.homology.specs.declared.certificate.HomologyCert.TheVariants as certificates
use Rattle.commands.specs.declared.refusal.Input.TheVariants as inputs
use Rattle.verify_homology_commands.proofs.SomeVerdicts.{sound-judgement}

pub sound-certificate : (files : Option Files) (name : List ℕ) → IsSound files (homology_certificate_in files name)
sound-certificate files name =
    sound-then files _ _ (sound-file files name inputs.Certificate) (λ bytes _. sound-meant files fault_line (cert_of_text bytes))

pub sound-verify_homology : (files : Option Files) (mesh walks certificate : List ℕ)
    → IsSound files (verify_homology files mesh walks certificate)
sound-verify_homology files mesh walks certificate =
    sound-then files _ _ (sound-mesh files mesh)
    (λ faces h. sound-then files _ _ (sound-pair files walks faces)
    (λ pair _. sound-then files _ _ (sound-certificate files certificate)
    (λ shown _. sound-judgement files faces (walk_at pair 0) (walk_at pair 1) shown (mesh_valid files mesh faces h))))

-- the bytes of the certificate's file
abbrev Spells : HomologyCert → List ℕ → Type 0
Spells certificate bytes = cert_of_text bytes ≡ Ok certificate

-- as the judgement ends, the command does
judged_input : (files : Option Files) (words : List (List ℕ)) (mesh : FaceList) (first second : List ℕ) (shown : HomologyCert)
    (input : IsInput files words mesh first second shown)
    → IsJudgedBy files (verify_homology files input.mesh_name input.walks_name input.certificate_name)
    (homology_judgement mesh first second shown)
judged_input files words mesh first second shown input =
    judged_by (codes "verify-homology") Spells files (homology_certificate_in files) homology_judgement (sound-certificate files)
    (λ name told. (told, λ bytes _. meant_told files fault_line (cert_of_text bytes)))
    (λ name certificate h.
    let file = held files name (Spells certificate) h in inr (file.bytes, file.passes inputs.Certificate, rw file.holds refl))
    (λ _ _ _ _. tt) words mesh first second shown input

-- a judgement is its verdict
judged_end : (mesh : FaceList) (first second : List ℕ) (shown : HomologyCert) (outcome : Outcome) (status : Status) (text : List ℕ)
    → (homology_judgement mesh first second shown).Ends outcome → IsAnswerOf outcome status text
    → (verdict : HomologyVerdict) × IsVerdict mesh first second shown verdict × (status ≡ homology_verdict_status verdict)
    × (text ≡ homology_verdict_line verdict)
judged_end mesh first second shown (Refuse texts) status text p answer = absurd p
judged_end mesh first second shown (Pass x) status text p answer =
    let here : IsAnswerOf (Pass (homology_verdict_answer p.0)) status text =
    subst (λ (y : Answer). IsAnswerOf (Pass y) status text) p.1 answer in
    (p.0, p.2, here.status_is, here.text_is)

-- the status is yes only where the certificate is accepted
yes_accepted : (verdict : HomologyVerdict) → homology_verdict_status verdict ≡ Yes → verdict ≡ Accepted
yes_accepted (Face face) e = cc
yes_accepted (Edge low high) e = cc
yes_accepted (Sum face) e = cc
yes_accepted Zero e = cc
yes_accepted Accepted e = refl

-- what an accepted certificate shows
shown_by : (mesh : FaceList) (first second bytes : List ℕ) (shown : HomologyCert) → SpellsPair mesh first second bytes
    → IsVerdict mesh first second shown Accepted → ShownBy mesh first second shown
shown_by mesh first second bytes (certificates.Chain lines) pair is = (face_number lines, is.1)
shown_by mesh first second bytes (certificates.Cocycle lines) pair is = λ homologous.
    refuted mesh (edge_number lines) first second pair.are.first_walk pair.are.second_walk is.1 is.2 homologous.0 homologous.1

module _ (files : Option Files) (words : List (List ℕ)) (status : Status) (text : List ℕ)
    (answered : (mesh walks certificate : List ℕ) → words ≡ codes "verify-homology" ∷ mesh ∷ walks ∷ certificate ∷ []
    → AnswersTo files (verify_homology files mesh walks certificate) status text) where
  -- such an input is answered by the judgement on it
  judged_so : (mesh : FaceList) (first second : List ℕ) (shown : HomologyCert) → IsInput files words mesh first second shown
      → AnswersTo files (homology_judgement mesh first second shown) status text
  judged_so mesh first second shown input =
      judgement_answered files (verify_homology files input.mesh_name input.walks_name input.certificate_name)
      (homology_judgement mesh first second shown) status text (judged_input files words mesh first second shown input)
      (answered input.mesh_name input.walks_name input.certificate_name input.words_are)

  verdict_so : (mesh : FaceList) (first second : List ℕ) (shown : HomologyCert) → IsInput files words mesh first second shown
      → (verdict : HomologyVerdict) × IsVerdict mesh first second shown verdict × (status ≡ homology_verdict_status verdict)
      × (text ≡ homology_verdict_line verdict)
  verdict_so mesh first second shown input =
      let a = judged_so mesh first second shown input in
      judged_end mesh first second shown a.outcome status text a.is_outcome a.is_answer

  -- what is answered, where the words are answered by the check
  pub homology_verified : IsHomologyVerified files words status text
  homology_verified = record {
    exactly = λ mesh first second shown verdict input is.
        let a = (judged_so mesh first second shown input).exact tt (Pass (homology_verdict_answer verdict)) (verdict, refl, is) in
        (a.status_is, a.text_is);
    judged = verdict_so;
    homologous = λ mesh first second shown input yes.
        let told = verdict_so mesh first second shown input in
        let file = held files input.walks_name (SpellsPair mesh first second) input.walks_file in
        shown_by mesh first second file.bytes shown file.holds
        (subst (IsVerdict mesh first second shown) (yes_accepted told.0 (sym told.2 ∙ yes)) told.1);
  }
