-- Commands on surfaces: the check of each has an end, and one where its files are told; and what comes behind a surface and its walks.
use Rattle.surface_commands.proofs.Common.{mesh_valid, sound-mesh, sound-pair, mesh_passes, spelled_pair, pair_told, IsOutcomeOf, IsSound, sound-then, sound-pass, meant_told, held, Answer, Check, Passes, Holds, IsTold, ◌>>=◌, IsInputOnSurface, pair_in, SpellsMesh, SpellsPair, AnswersTo, Status, ◌≡◌, inr, ℕ, List, ◌∷◌, sym, subst, [], Option, Files, FaceList, IsOrientableSurface, surface, surface_in, MOST_COMPONENTS}
use Rattle.commands.proofs.Deciding.{behind}
use Rattle.commands.specs.Refusals.{off_line}
use Rattle.off_reader.specs.OffTexts.{meaning_of}
use Rattle.surface_commands.proofs.Measuring.{with_few, sound-numbers, sound-genera, surface_passed, as_passes}
use Rattle.surface_commands.proofs.Surfaces.{sound-as_surface, sound-few, few_passed}

pub sound-surface_in : (held : Option Files) (name : List ℕ) → IsSound held (surface_in held name)
sound-surface_in held name =
    sound-then held _ _ (sound-mesh held name)
    (λ mesh h. sound-as_surface held mesh (mesh_valid held name mesh h))

pub sound-surface : (held : Option Files) (name : List ℕ) → IsSound held (surface held name)
sound-surface held name =
    sound-then held _ _ (sound-surface_in held name)
    (λ mesh h. let is = surface_passed held name mesh h in
    sound-then held _ _ (sound-few held MOST_COMPONENTS mesh is.0)
    (λ few p. subst after (sym (few_passed MOST_COMPONENTS mesh few p))
    (sound-then held _ _ (sound-numbers held mesh is.0)
    (λ numbers _. sound-then held _ _ (sound-genera held mesh is.0 is.1) (λ genera _. sound-pass held _)))))
  where
    after : FaceList → Type 0
    after few = IsSound held (with_few few)

pub surface_told : (files : Option Files) (name : List ℕ) → IsTold files name → (surface_in files name).EachFile (IsTold files)
surface_told files name told = ((told, λ bytes _. meant_told files off_line (meaning_of bytes)), λ _ _. (tt, λ _ _. tt))

-- a file that spells a surface passes it
pub spelled_surface : (files : Option Files) (name : List ℕ) (mesh : FaceList) → Holds files name (SpellsMesh mesh)
    → IsOrientableSurface mesh → Passes (surface_in files name) mesh
spelled_surface files name mesh h is = inr (mesh, mesh_passes files name mesh h, as_passes mesh is)

-- where words that stand for a surface and walks of it are answered by their check, they are by what comes behind the walks
pub outcome_behind : {A : Type 0} (keyword : List ℕ) (AreSuch : List ℕ → Type 0) (files : Option Files) (words : List (List ℕ))
    (mesh : FaceList) (status : Status) (text : List ℕ) (walks_in : List ℕ → FaceList → Check A) (next : FaceList → A → Check Answer)
    (walks : A)
    → ((mesh_name walks_name : List ℕ) → words ≡ keyword ∷ mesh_name ∷ walks_name ∷ []
    → AnswersTo files (surface_in files mesh_name >>= (λ surface. walks_in walks_name surface >>= next surface)) status text)
    → (input : IsInputOnSurface keyword AreSuch files words mesh) → IsSound files (walks_in input.walks_name mesh)
    → (IsTold files input.walks_name → (walks_in input.walks_name mesh).EachFile (IsTold files))
    → Passes (walks_in input.walks_name mesh) walks → IsOutcomeOf (next mesh walks) status text
outcome_behind keyword AreSuch files words mesh status text walks_in next walks answered input sound told passes =
    let a = answered input.mesh_name input.walks_name input.words_are in
    record {
      outcome = a.outcome;
      is_outcome =
          behind files (walks_in input.walks_name mesh) (next mesh) walks a.outcome sound
          (told (held files input.walks_name AreSuch input.walks_file).told) passes
          (behind files (surface_in files input.mesh_name) (λ surface. walks_in input.walks_name surface >>= next surface) mesh a.outcome
          (sound-surface_in files input.mesh_name)
          (surface_told files input.mesh_name (held files input.mesh_name (SpellsMesh mesh) input.mesh_file).told)
          (spelled_surface files input.mesh_name mesh input.mesh_file input.is_surface) a.is_outcome);
      is_answer = a.is_answer;
    }

-- the same of two walks with common ends
pub outcome_of_pair : (keyword : List ℕ) (files : Option Files) (words : List (List ℕ)) (mesh : FaceList) (first second : List ℕ)
    (status : Status) (text : List ℕ) (next : FaceList → List (List ℕ) → Check Answer)
    → ((mesh_name walks_name : List ℕ) → words ≡ keyword ∷ mesh_name ∷ walks_name ∷ []
    → AnswersTo files (surface_in files mesh_name >>= (λ surface. pair_in files walks_name surface >>= next surface)) status text)
    → IsInputOnSurface keyword (SpellsPair mesh first second) files words mesh
    → IsOutcomeOf (next mesh (first ∷ second ∷ [])) status text
outcome_of_pair keyword files words mesh first second status text next answered input =
    outcome_behind keyword (SpellsPair mesh first second) files words mesh status text (pair_in files) next (first ∷ second ∷ []) answered
    input (sound-pair files input.walks_name mesh) (pair_told files input.walks_name mesh)
    (spelled_pair files input.walks_name mesh first second input.walks_file)
