-- How the checks of `homology` end, and what they leave to be answered.
use Rattle.homology_commands.proofs.Common.{sound-pair, Check, Refuse, Pass, HomologyAnswer, Homologous, NotHomologous, homology_status, pair_in, Outcome, IsAnswerOf, Status, AreHomologous, homology, homology_answer, homology_shown, IsHomologyPrinted, ◌≡◌, ◌⊎◌, inl, inr, ℕ, List, refl, sym, ap, ◌∙◌, subst, Option, Files, FaceList, walk_at, sound-surface_in}
use Rattle.commands.proofs.RightAnswers.{yes_exactly}
use Rattle.commands.proofs.Sound.{IsSound, IsYesOrNo, sound-decided_by, sound-then}
use Rattle.commands.specs.Answers.{Answer}
use Rattle.commands.specs.declared.status.Status.TheVariants.{Yes}
use Rattle.std.specs.Prelude.{◌↔◌}
use Rattle.surface_commands.specs.SurfaceInput.{surface_in}

-- ---- an answer

either_answer : (answer : HomologyAnswer) → (answer ≡ Homologous) ⊎ (answer ≡ NotHomologous)
either_answer Homologous = inl refl
either_answer NotHomologous = inr refl

differs : NotHomologous ≡ Homologous → ⊥
differs e = cc

yes_or_no : IsYesOrNo Homologous NotHomologous
yes_or_no = record { either = either_answer; differ = differs }

sound-shown : (held : Option Files) (mesh : FaceList) (first second : List ℕ) → IsSound held (homology_shown mesh first second)
sound-shown held mesh first second =
    sound-decided_by held yes_or_no (homology_answer mesh first second) (AreHomologous mesh first second)

-- what is answered is a certificate, and yes exactly where the walks are homologous
pub record IsRightAnswer (mesh : FaceList) (first second : List ℕ) (status : Status) (text : List ℕ) : Type 0 where
  pub printed : IsHomologyPrinted mesh first second status text
  pub exactly : (status ≡ Yes) ↔ AreHomologous mesh first second

pub right_answer : (mesh : FaceList) (first second : List ℕ) (outcome : Outcome) (status : Status) (text : List ℕ)
    → (homology_shown mesh first second).Ends outcome → IsAnswerOf outcome status text → IsRightAnswer mesh first second status text
right_answer mesh first second (Refuse texts) status text p answer = absurd p
right_answer mesh first second (Pass x) status text p answer =
    let here : IsAnswerOf (Pass (homology_answer mesh first second p.0)) status text =
    subst (λ (y : Answer). IsAnswerOf (Pass y) status text) p.1 answer in
    let t = here.text_is in
    record {
      printed = record {
        shown = t.0;
        shows = t.1;
        status_is = here.status_is ∙ ap homology_status (sym t.2);
        text_is = t.3;
      };
      exactly = yes_exactly yes_or_no homology_status refl refl p.0 status here.status_is p.2;
    }

-- ---- the parts of the command

-- what is looked at behind the walks
abbrev pub after_pair : FaceList → List (List ℕ) → Check Answer
after_pair surface pair = homology_shown surface (walk_at pair 0) (walk_at pair 1)

pub sound-homology : (held : Option Files) (mesh walks : List ℕ) → IsSound held (homology held mesh walks)
sound-homology held mesh walks =
    sound-then held _ _ (sound-surface_in held mesh)
    (λ surface _. sound-then held _ _ (sound-pair held walks surface)
    (λ pair _. sound-shown held surface (walk_at pair 0) (walk_at pair 1)))
