-- Commands that read a mesh, two walks of it and a certificate: as the judgement on the certificate ends, the command does.
use Rattle.commands.proofs.Common.{Answer, Check, Passes, IsTold, Holds, ◌>>=◌, IsInputWith, mesh_in, pair_in, SpellsPair, Outcome, AnswersTo, Status, ◌≡◌, inl, inr, ℕ, zero, suc, ◌<◌, List, [], ◌∷◌, subst, arith, cases_lt, Option, Files, FaceList, walk_at}
use Rattle.commands.proofs.Deciding.{behind}
use Rattle.commands.proofs.Rows.{behind_pair, pair_told, mesh_told, mesh_passes, spelled_pair}
use Rattle.commands.proofs.Sound.{IsSound, held}

-- below a bound there is a least number of which something fails, or it holds of all
pub first_failing : (n : ℕ) (P : ℕ → Type 0) → ((k : ℕ) → k < n → (P k → ⊥) → ((j : ℕ) → j < k → P j) → ⊥)
    → (((j : ℕ) → j < n → P j) → ⊥) → ⊥
first_failing zero P none some = some (λ j l. absurd (omega arith))
first_failing (suc n) P none some =
    first_failing n P (λ k l fails before. none k (omega arith) fails before)
    (λ all. none n (omega arith) (λ here. some (λ j l. elim (cases_lt j n) [
      | inl below ↦ all j below
      | inr end ↦ let same : n ≡ j = omega arith in subst P same here
    ])) all)

-- each file that the command looks at is told, and it ends as the judgement does
pub record IsJudgedBy (files : Option Files) (command judgement : Check Answer) : Type 0 where
  pub told : command.EachFile (IsTold files)
  pub made : (outcome : Outcome) → judgement.Ends outcome → command.Ends outcome
  pub behind : (outcome : Outcome) → command.Ends outcome → judgement.Ends outcome

-- what answers the command answers the judgement
pub judgement_answered : (files : Option Files) (command judgement : Check Answer) (status : Status) (text : List ℕ)
    → IsJudgedBy files command judgement → AnswersTo files command status text → AnswersTo files judgement status text
judgement_answered files command judgement status text by a =
    record {
      outcome = a.outcome;
      is_outcome = by.behind a.outcome a.is_outcome;
      is_answer = a.is_answer;
      exact = λ _ other ends. a.exact by.told other (by.made other ends);
    }

module _ {C : Type 0} (keyword : List ℕ) (Spells : C → List ℕ → Type 0) (files : Option Files) (certificate_in : List ℕ → Check C)
    (judgement : FaceList → (first second : List ℕ) → C → Check Answer) (sound : (name : List ℕ) → IsSound files (certificate_in name))
    (told : (name : List ℕ) → IsTold files name → (certificate_in name).EachFile (IsTold files))
    (spelled : (name : List ℕ) (shown : C) → Holds files name (Spells shown) → Passes (certificate_in name) shown)
    (judged : (mesh : FaceList) (first second : List ℕ) (shown : C) → (judgement mesh first second shown).EachFile (IsTold files))
    (words : List (List ℕ)) (mesh : FaceList) (first second : List ℕ) (shown : C)
    (input : IsInputWith keyword (Spells shown) files words mesh first second) where
  -- what is looked at behind the walks
  abbrev after_pair : FaceList → List (List ℕ) → Check Answer
  after_pair faces pair = certificate_in input.certificate_name >>= judgement faces (walk_at pair 0) (walk_at pair 1)

  -- where the files spell them, the judgement on this certificate is the one
  pub judged_by : IsJudgedBy files (mesh_in files input.mesh_name >>= (λ faces. pair_in files input.walks_name faces >>= after_pair faces))
      (judgement mesh first second shown)
  judged_by =
      let walks_told = (held files input.walks_name (SpellsPair mesh first second) input.walks_file).told in
      let certificate_told =
      told input.certificate_name (held files input.certificate_name (Spells shown) input.certificate_file).told in
      let passed = spelled input.certificate_name shown input.certificate_file in
      record {
        told = (
          mesh_told files input.mesh_name mesh input.mesh_file,
          λ faces _. (
            pair_told files input.walks_name faces walks_told,
            λ pair _. (certificate_told, λ other _. judged faces (walk_at pair 0) (walk_at pair 1) other),
          ),
        );
        made = λ outcome h.
            inr (
              mesh,
              mesh_passes files input.mesh_name mesh input.mesh_file,
              inr (
                first ∷ second ∷ [],
                spelled_pair files input.walks_name mesh first second input.walks_file,
                inr (shown, passed, h),
              ),
            );
        behind = λ outcome is.
            behind files (certificate_in input.certificate_name) (judgement mesh first second) shown outcome
            (sound input.certificate_name) certificate_told passed
            (behind_pair files input.mesh_name input.walks_name mesh first second after_pair outcome input.mesh_file input.walks_file is);
      }
