-- How the checks of `decide` end, and `decide` in the words of the mesh.
use Rattle.pair_commands.proofs.Common.{IsSound, sound-then, Answer, Check, Refuse, Pass, Yes, decide, all_decided, decisions_answer, TellsDecisions, IsDecided, IsDecideInput, IsHomotopic, SpellsPairs, pairs_in, ◌≡◌, ℕ, List, [], ◌∷◌, codes, sym, ◌∙◌, subst, Option, All, Files, FaceList, WalkPair, walks_in_pairs, WalkText}
use Rattle.commands.specs.Outcomes.{Outcome, AnswersTo, IsAnswerOf}
use Rattle.commands.specs.declared.status.Status.{Status}
use Rattle.std.specs.Prelude.{◌↔◌}
use Rattle.surface_commands.proofs.SurfaceRows.{outcome_behind, sound-surface_in}
use Rattle.pair_commands.proofs.PairChecks.{sound-pairs_in, pairs_in_told, spelled_pairs}
use Rattle.pair_commands.proofs.PairDecisions.{all_yes, sound-all_decided}

-- ---- the parts of the command

-- what is looked at behind the walks
abbrev pub after_pairs : FaceList → WalkText → Check Answer
after_pairs surface text = all_decided surface (walks_in_pairs text.walks)

pub sound-decide : (held : Option Files) (mesh walks : List ℕ) → IsSound held (decide held mesh walks)
sound-decide held mesh walks =
    sound-then held _ _ (sound-surface_in held mesh)
    (λ surface _. sound-then held _ _ (sound-pairs_in held walks surface)
    (λ text _. sound-all_decided held surface (walks_in_pairs text.walks)))

-- ---- what is answered

-- the answer of decisions that are right
answered_right : (mesh : FaceList) (pairs : List WalkPair) (outcome : Outcome) (status : Status) (text : List ℕ)
    → (all_decided mesh pairs).Ends outcome → IsAnswerOf outcome status text → TellsDecisions mesh pairs status text
answered_right mesh pairs (Refuse texts) status text p answer = absurd p
answered_right mesh pairs (Pass x) status text p answer =
    let here : IsAnswerOf (Pass (decisions_answer p.0)) status text = subst (λ (y : Answer). IsAnswerOf (Pass y) status text) p.1 answer in
    record { decisions = p.0; right = p.2; text_is = here.text_is; status_is = here.status_is }

yes_all : (mesh : FaceList) (pairs : List WalkPair) (status : Status) (text : List ℕ) → TellsDecisions mesh pairs status text
    → (status ≡ Yes) ↔ All (IsHomotopic mesh) pairs
yes_all mesh pairs status text h =
    let all = all_yes mesh pairs h.decisions h.right in ((λ e. all.0 (sym h.status_is ∙ e)), (λ homotopic. h.status_is ∙ all.1 homotopic))

-- what `decide` is for, where the words are answered by its check
pub decided_so : (files : Option Files) (words : List (List ℕ)) (status : Status) (text : List ℕ)
    → ((mesh walks : List ℕ) → words ≡ codes "decide" ∷ mesh ∷ walks ∷ [] → AnswersTo files (decide files mesh walks) status text)
    → IsDecided files words status text
decided_so files words status text answered =
    record {
      answered = right;
      exactly = λ mesh pairs input. yes_all mesh pairs status text (right mesh pairs input);
    }
  where
    right : (mesh : FaceList) (pairs : List WalkPair) → IsDecideInput files words mesh pairs → TellsDecisions mesh pairs status text
    right mesh pairs input =
        let spelled = spelled_pairs files input.walks_name mesh pairs input.walks_file in
        let a = outcome_behind (codes "decide") (SpellsPairs mesh pairs) files words mesh status text (pairs_in files) after_pairs spelled.0
        answered input (sound-pairs_in files input.walks_name mesh) (pairs_in_told files input.walks_name mesh) spelled.1 in
        subst (λ (ps : List WalkPair). TellsDecisions mesh ps status text) (sym spelled.2)
        (answered_right mesh (walks_in_pairs spelled.0.walks) a.outcome status text a.is_outcome a.is_answer)
