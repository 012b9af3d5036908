-- What a certificate that convinces is written as spells it again, and `verify` accepts it.
use Rattle.verify_commands.proofs.Common.{Pass, as_certificate, certificate_behind, certificate_of, SpellsCertificate, Outcome, IsAnswerOf, Certificate, Moves, Denial, MOST_BYTES, Status, Yes, accepted_exactly, verdict_of, Verdict, Accepted, ◌≡◌, ℕ, ◌^◌, ◌<◌, ◌≤◌, List, [], length, length-append, refl, sym, ap, subst, arith, Option, Some, Result, Ok, Err, Files, FaceList, IsFaceList, HasFileSize, PeakedMoves, IsWalk, verify, judgement, IsVerifyInput, verdict_answer, denial_answer, head_of_text, moves_of_text, with_peak, list_behind, list_of_text, denial_text, denial_of_lines, denial_behind, denial_of_text, list_text, CertHead, CertFault}
use Rattle.commands.specs.Certificates.{Convinces, IsPeakLow, decision_line, certificate_text}
use Rattle.commands.specs.Lines.{line}
use Rattle.std.specs.Prelude.{codes}
use Rattle.surf_model.specs.declared.decisions.Answer.TheVariants.{Homotopic, Different}
use Rattle.walk_files.proofs.DenialRoundTrip.{denial_of_text-answered}
use Rattle.walk_files.proofs.RoundTrip.{list_of_text-answered}
use Rattle.labellings.specs.declared.denial.Denial as denials
use Rattle.walk_files.specs.declared.certificate.CertHead.TheVariants as heads
use Rattle.labellings.specs.declared.verdict.DenialVerdict.TheVariants as verdicts
use Rattle.verify_commands.proofs.FittingDenials.{denial_fits}
use Rattle.verify_commands.proofs.FittingMoves.{list_fits}
use Rattle.verify_commands.proofs.VerifyRows.{sound-verify}
use Rattle.verify_commands.proofs.VerifyOutcomes.{judged_input}

-- ---- the certificate of a text that is a list, and of one that is a denial

as_list : (read : Result PeakedMoves CertFault) (list : PeakedMoves) → Some read ≡ Some (Ok list)
    → as_certificate Moves read ≡ Ok (Moves list)
as_list (Err fault) list e = cc
as_list (Ok other) list e = let same : other ≡ list = cc in ap (λ (l : PeakedMoves). Ok (Moves l)) same

spelled_list : (text : List ℕ) (list : PeakedMoves) → list_of_text text ≡ Some (Ok list) → certificate_of text ≡ Ok (Moves list)
spelled_list text list e = by_head (head_of_text text) e
  where
    by_head : (head : Result CertHead CertFault) → list_behind head text ≡ Some (Ok list) → certificate_behind head text ≡ Ok (Moves list)
    by_head (Err fault) f = cc
    by_head (Ok (heads.Moves count peak)) f = as_list (with_peak peak (moves_of_text count text)) list f
    by_head (Ok (heads.Labels degree)) f = cc

as_denial : (read : Result denials.Denial CertFault) (denial : denials.Denial) → Some read ≡ Some (Ok denial)
    → as_certificate Denial read ≡ Ok (Denial denial)
as_denial (Err fault) denial e = cc
as_denial (Ok other) denial e = let same : other ≡ denial = cc in ap (λ (d : denials.Denial). Ok (Denial d)) same

spelled_denial : (text : List ℕ) (denial : denials.Denial) → denial_of_text text ≡ Some (Ok denial)
    → certificate_of text ≡ Ok (Denial denial)
spelled_denial text denial e = by_head (head_of_text text) e
  where
    by_head : (head : Result CertHead CertFault) → denial_behind head text ≡ Some (Ok denial)
        → certificate_behind head text ≡ Ok (Denial denial)
    by_head (Err fault) f = cc
    by_head (Ok (heads.Moves count peak)) f = cc
    by_head (Ok (heads.Labels degree)) f = as_denial (denial_of_lines degree text) denial f

-- a certificate that convinces is spelled by its text
pub spelled : (mesh : FaceList) (first second : List ℕ) (shown : Certificate) → IsFaceList mesh → HasFileSize mesh → IsWalk mesh first
    → length first < 2 ^ 32 → length second < 2 ^ 32 → Convinces mesh first second shown → IsPeakLow shown
    → length (certificate_text shown) ≤ MOST_BYTES → SpellsCertificate shown (certificate_text shown)
spelled mesh first second (Moves list) valid small walk few_first few_second h peak short =
    let part = length-append (decision_line Homotopic) (list_text list) in
    spelled_list (certificate_text (Moves list)) list
    (list_of_text-answered list (list_fits mesh first second list valid small walk h (omega (arith, peak)) (omega (arith, part, short))))
spelled mesh first second (Denial denial) valid small walk few_first few_second h peak short =
    let part = length-append (decision_line Different) (denial_text denial) in
    spelled_denial (certificate_text (Denial denial)) denial
    (denial_of_text-answered denial (denial_fits mesh first second denial h (omega (arith, part, short)) few_first few_second))

-- ---- the verdict

module _ (files : Option Files) (words : List (List ℕ)) (mesh : FaceList) (first second : List ℕ) where
  -- as the judgement ends, each outcome of the command is
  one_end : (shown : Certificate) (outcome target : Outcome) (input : IsVerifyInput files words mesh first second shown)
      → (judgement mesh first second shown).Ends target
      → (verify files input.mesh_name input.walks_name input.certificate_name).Ends outcome → outcome ≡ target
  one_end shown outcome target input ends is =
      let by = judged_input files words mesh first second shown input in
      (sound-verify files input.mesh_name input.walks_name input.certificate_name).one by.told outcome target is (by.made target ends)

  -- a certificate that convinces is accepted
  pub accepted : (shown : Certificate) (outcome : Outcome) (status : Status) (answer : List ℕ) → Convinces mesh first second shown
      → (input : IsVerifyInput files words mesh first second shown)
      → (verify files input.mesh_name input.walks_name input.certificate_name).Ends outcome → IsAnswerOf outcome status answer
      → (status ≡ Yes) × (answer ≡ line (codes "accepted") [])
  accepted (Moves list) outcome status answer h input is told =
      let verdict : verdict_of mesh first second list ≡ Accepted =
      (accepted_exactly mesh first second list (verdict_of mesh first second list) refl).1 (h.leads, omega (arith, h.peak)) in
      let target : Outcome = Pass (verdict_answer Accepted) in
      let same = one_end (Moves list) outcome target input
      (ap (λ (v : Verdict). let e : Outcome = Pass (verdict_answer v) in e) (sym verdict)) is in
      let a : IsAnswerOf target status answer = subst (λ (o : Outcome). IsAnswerOf o status answer) same told in
      (a.status_is, a.text_is)
  accepted (Denial denial) outcome status answer h input is told =
      let target : Outcome = Pass (denial_answer verdicts.Accepted) in
      let same = one_end (Denial denial) outcome target input (verdicts.Accepted, refl, h) is in
      let a : IsAnswerOf target status answer = subst (λ (o : Outcome). IsAnswerOf o status answer) same told in
      (a.status_is, a.text_is)
