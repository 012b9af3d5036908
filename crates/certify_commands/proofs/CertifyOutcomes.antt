-- `certify` in the words of the mesh.
use Rattle.certify_commands.proofs.Common.{certify, IsCertifyInput, IsWithinLimits, IsCertificatePrinted, IsCertified, certify_limits, limit_fault, limit_word, certified, certificate_answer, behind, refused_behind, yes_or_no, none_over, refused_beyond, sound-pass_unless, unless_told, IsSound, sound-then, held, Answer, Exactly, decision_status, Refuse, Pass, ◌≡◌, ℕ, List, [], ◌∷◌, codes, refl, sym, ap, ◌∙◌, subst, ◌↔◌, Option, Some, Files, FaceList, Homotopic, walk_at}
use Rattle.commands.proofs.RightAnswers.{refused_so, yes_exactly}
use Rattle.commands.proofs.Rows.{IsOutcomeOf, sound-pair}
use Rattle.commands.specs.Outcomes.{Outcome, AnswersTo, IsAnswerOf}
use Rattle.commands.specs.declared.status.Status.{Status}
use Rattle.commands.specs.declared.status.Status.TheVariants.{Yes, Refused}
use Rattle.surface_commands.proofs.SurfaceRows.{outcome_of_pair, sound-surface_in}
use Rattle.surface_commands.specs.Surface.{surface}
use Rattle.surf_model.specs.declared.decisions.Answer as deciding
use Rattle.surf_model.specs.declared.decisions.Answer.TheVariants as answers
use Rattle.certify_commands.proofs.Certifying.{after_pair, after_limits, limited, sound-certified}

pub sound-certify : (held : Option Files) (mesh walks : List ℕ) → IsSound held (certify held mesh walks)
sound-certify held mesh walks =
    sound-then held _ _ (sound-surface_in held mesh)
    (λ surface _. sound-then held _ _ (sound-pair held walks surface)
    (λ pair _. sound-then held _ _ (sound-pass_unless held (λ line. Exactly line)
    (limit_fault surface (walk_at pair 0) (walk_at pair 1)) pair)
    (λ _ _. sound-certified held surface (walk_at pair 0) (walk_at pair 1))))

-- what the end of the check tells
pub record IsAnsweredSo (mesh : FaceList) (first second : List ℕ) (status : Status) (text : List ℕ) : Type 0 where
  pub answered : IsCertificatePrinted mesh first second status text
  pub exactly : (status ≡ Yes) ↔ Homotopic mesh first second

by_certified : (mesh : FaceList) (first second : List ℕ) (outcome : Outcome) (status : Status) (text : List ℕ)
    → (certified mesh first second).Ends outcome
    → IsAnswerOf outcome status text → IsAnsweredSo mesh first second status text
by_certified mesh first second (Refuse texts) status text p answer = absurd p
by_certified mesh first second (Pass x) status text p answer =
    let here : IsAnswerOf (Pass (certificate_answer mesh first second p.0)) status text =
    subst (λ (y : Answer). IsAnswerOf (Pass y) status text) p.1 answer in
    let shown = here.text_is in
    record {
      answered =
          record {
            shown = shown.0;
            convinces = shown.1.0;
            low = shown.1.1;
            short = shown.1.2;
            status_is = here.status_is ∙ ap decision_status (sym shown.2);
            text_is = shown.3;
          };
      exactly = yes_exactly yes_or_no decision_status refl refl p.0 status here.status_is p.2;
    }

-- ---- such an input, where the words are answered by the check

module _ (files : Option Files) (words : List (List ℕ)) (status : Status) (text : List ℕ)
    (answered : (mesh walks : List ℕ) → words ≡ codes "certify" ∷ mesh ∷ walks ∷ []
    → AnswersTo files (certify files mesh walks) status text)
    (mesh : FaceList) (first second : List ℕ) (input : IsCertifyInput files words mesh first second) where
  two : List (List ℕ)
  two = first ∷ second ∷ []

  -- what is answered is an outcome of the checks behind the walks
  behind_walks : IsOutcomeOf (after_pair mesh two) status text
  unfolding two
  behind_walks = outcome_of_pair (codes "certify") files words mesh first second status text after_pair answered input

  answers_input : IsWithinLimits mesh first second → IsAnsweredSo mesh first second status text
  unfolding two
  answers_input within =
      let a = behind_walks in
      by_certified mesh first second a.outcome status text
      (behind files (limited mesh two) (after_limits mesh two) two a.outcome
      (sound-pass_unless files (λ line. Exactly line) (limit_fault mesh first second) two)
      (unless_told files (λ line. Exactly line) (limit_fault mesh first second) two)
      (rw (none_over certify_limits limit_word mesh first second within.sides within.few) refl)
      a.is_outcome) a.is_answer

  refuses_input : (line : List ℕ) → limit_fault mesh first second ≡ Some line → (status ≡ Refused) × (text ≡ line)
  unfolding two
  refuses_input line e =
      let a = behind_walks in
      refused_so line a.outcome status text
      (refused_behind files (limited mesh two) (after_limits mesh two) (Exactly line) a.outcome
      (sound-pass_unless files (λ line. Exactly line) (limit_fault mesh first second) two)
      (unless_told files (λ line. Exactly line) (limit_fault mesh first second) two) (rw e refl) a.is_outcome) a.is_answer

-- what `certify` is for, where the words are answered by its check
pub certified_so : (files : Option Files) (words : List (List ℕ)) (status : Status) (text : List ℕ)
    → ((mesh walks : List ℕ) → words ≡ codes "certify" ∷ mesh ∷ walks ∷ [] → AnswersTo files (certify files mesh walks) status text)
    → IsCertified files words status text
certified_so files words status text answered =
    record {
      answered = λ mesh first second input within. (so mesh first second input within).answered;
      exactly = λ mesh first second input within. (so mesh first second input within).exactly;
      beyond = refused_beyond certify_limits limit_word (IsCertifyInput files words) status text
          (refuses_input files words status text answered);
    }
  where
    so : (mesh : FaceList) (first second : List ℕ) → IsCertifyInput files words mesh first second → IsWithinLimits mesh first second
        → IsAnsweredSo mesh first second status text
    so = answers_input files words status text answered
