-- `decide-open` and `certify-open` in the words of the mesh.
use Rattle.open_commands.proofs.Common.{IsRightAnswer, right_answer, behind, refused_behind, sound-decided, none_over, refused_beyond, refused_so, IsOutcomeOf, spelled_pair, IsSound, held, sound-then, Answer, Exactly, Check, Passes, IsTold, ◌>>=◌, decided, pair_in, SpellsMesh, SpellsPair, Outcome, AnswersTo, IsAnswerOf, Status, Refused, IsCertifiedOpen, decided_with_list, certify_open, IsDecidedOpen, decide_open, IsOpenInput, IsRefusedLarge, IsWithinOpenLimits, Question, open_limit_fault, open_limit_word, open_limits, open_pair_in, ◌≡◌, inr, ℕ, List, [], ◌∷◌, codes, refl, Option, Some, Files, FaceList}
use Rattle.open_commands.proofs.Listing.{IsRightList, right_list, sound-listed}
use Rattle.open_commands.proofs.OpenInputs.{spelled_open, pair_files_told, pair_passes, sound-open_pair_in}

-- the checks of the two commands have an end, and one where their files are told
pub sound-decide_open : (held : Option Files) (mesh walks : List ℕ) → IsSound held (decide_open held mesh walks)
sound-decide_open held mesh walks =
    sound-then held _ _ (sound-open_pair_in held mesh walks) (λ asked _. sound-decided held asked.mesh asked.first asked.second)

pub sound-certify_open : (held : Option Files) (mesh walks : List ℕ) → IsSound held (certify_open held mesh walks)
sound-certify_open held mesh walks =
    sound-then held _ _ (sound-open_pair_in held mesh walks) (λ asked _. sound-listed held asked.mesh asked.first asked.second)

-- ---- such an input, for a command that makes its answer of the surface and the walks

module _ (next : Question → Check Answer) (keyword : List ℕ) (files : Option Files) (words : List (List ℕ)) (mesh : FaceList)
    (first second : List ℕ) (input : IsOpenInput keyword files words mesh first second) where
  asked : Question
  asked = record { mesh = mesh; first = first; second = second }

  told : (open_pair_in files input.mesh_name input.walks_name).EachFile (IsTold files)
  told =
      pair_files_told files input.mesh_name input.walks_name (held files input.mesh_name (SpellsMesh mesh) input.mesh_file).told
      (held files input.walks_name (SpellsPair mesh first second) input.walks_file).told

  passes : Passes (pair_in files input.walks_name mesh) (first ∷ second ∷ [])
  passes = spelled_pair files input.walks_name mesh first second input.walks_file

  -- within the limits the answer is made
  pub made : (outcome : Outcome) → IsWithinOpenLimits mesh first second
      → (open_pair_in files input.mesh_name input.walks_name >>= next).Ends outcome
      → (next (record { mesh = mesh; first = first; second = second })).Ends outcome
  unfolding asked
  made outcome within is =
      behind files (open_pair_in files input.mesh_name input.walks_name) next asked outcome
      (sound-open_pair_in files input.mesh_name input.walks_name) told
      (pair_passes files input.mesh_name input.walks_name mesh (first ∷ second ∷ [])
      (spelled_open files input.mesh_name mesh input.mesh_file input.is_open input.is_orientable) passes
      (none_over open_limits open_limit_word mesh first second within.sides within.few)) is

  -- beyond them it is refused
  pub refused : (outcome : Outcome) (status : Status) (text line : List ℕ) → open_limit_fault mesh first second ≡ Some line
      → (open_pair_in files input.mesh_name input.walks_name >>= next).Ends outcome → IsAnswerOf outcome status text
      → (status ≡ Refused) × (text ≡ line)
  refused outcome status text line e is answer =
      refused_so line outcome status text
      (refused_behind files (open_pair_in files input.mesh_name input.walks_name) next (Exactly line) outcome
      (sound-open_pair_in files input.mesh_name input.walks_name) told
      (inr (
        mesh,
        spelled_open files input.mesh_name mesh input.mesh_file input.is_open input.is_orientable,
        inr (first ∷ second ∷ [], passes, rw e refl),
      )) is) answer

-- ---- all such inputs, where the words are answered by the check

module _ (next : Question → Check Answer) (keyword : List ℕ) (files : Option Files) (words : List (List ℕ)) (status : Status)
    (text : List ℕ)
    (answered : (mesh walks : List ℕ) → words ≡ keyword ∷ mesh ∷ walks ∷ []
    → AnswersTo files (open_pair_in files mesh walks >>= next) status text) where
  -- within the limits it is an outcome of what is made
  pub within_limits : (mesh : FaceList) (first second : List ℕ) → IsOpenInput keyword files words mesh first second
      → IsWithinOpenLimits mesh first second
      → IsOutcomeOf (next (record { mesh = mesh; first = first; second = second })) status text
  within_limits mesh first second input within =
      let a = answered input.mesh_name input.walks_name input.words_are in
      record {
        outcome = a.outcome;
        is_outcome = made next keyword files words mesh first second input a.outcome within a.is_outcome;
        is_answer = a.is_answer;
      }

  refused_with : (mesh : FaceList) (first second : List ℕ) → IsOpenInput keyword files words mesh first second → (line : List ℕ)
      → open_limit_fault mesh first second ≡ Some line → (status ≡ Refused) × (text ≡ line)
  refused_with mesh first second input line e =
      let a = answered input.mesh_name input.walks_name input.words_are in
      refused next keyword files words mesh first second input a.outcome status text line e a.is_outcome a.is_answer

  -- beyond them it is refused
  pub beyond_limits : IsRefusedLarge keyword files words status text
  beyond_limits = refused_beyond open_limits open_limit_word (IsOpenInput keyword files words) status text refused_with

-- ---- the two commands

-- what comes behind the pair
abbrev pub then_decided : Question → Check Answer
then_decided asked = decided asked.mesh asked.first asked.second

abbrev pub then_listed : Question → Check Answer
then_listed asked = decided_with_list asked.mesh asked.first asked.second

pub decided_open_so : (files : Option Files) (words : List (List ℕ)) (status : Status) (text : List ℕ)
    → ((mesh walks : List ℕ) → words ≡ codes "decide-open" ∷ mesh ∷ walks ∷ [] → AnswersTo files (decide_open files mesh walks) status text)
    → IsDecidedOpen files words status text
decided_open_so files words status text answered =
    record {
      answered = λ mesh first second input within. (right mesh first second input within).answered;
      exactly = λ mesh first second input within. (right mesh first second input within).exactly;
      beyond = beyond_limits then_decided (codes "decide-open") files words status text answered;
    }
  where
    right : (mesh : FaceList) (first second : List ℕ) → IsOpenInput (codes "decide-open") files words mesh first second
        → IsWithinOpenLimits mesh first second → IsRightAnswer mesh first second status text
    right mesh first second input within =
        let a = within_limits then_decided (codes "decide-open") files words status text answered mesh first second input within in
        right_answer mesh first second a.outcome status text a.is_outcome a.is_answer

pub certified_open_so : (files : Option Files) (words : List (List ℕ)) (status : Status) (text : List ℕ)
    → ((mesh walks : List ℕ) → words ≡ codes "certify-open" ∷ mesh ∷ walks ∷ []
    → AnswersTo files (certify_open files mesh walks) status text)
    → IsCertifiedOpen files words status text
certified_open_so files words status text answered =
    record {
      answered = λ mesh first second input within. (right mesh first second input within).answered;
      exactly = λ mesh first second input within. (right mesh first second input within).exactly;
      beyond = beyond_limits then_listed (codes "certify-open") files words status text answered;
    }
  where
    right : (mesh : FaceList) (first second : List ℕ) → IsOpenInput (codes "certify-open") files words mesh first second
        → IsWithinOpenLimits mesh first second → IsRightList mesh first second status text
    right mesh first second input within =
        let a = within_limits then_listed (codes "certify-open") files words status text answered mesh first second input within in
        right_list mesh first second a.outcome status text a.is_outcome a.is_answer
