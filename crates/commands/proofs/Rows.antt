-- The files that commands look at: the check of each has an end, and one where its files are told.
use Rattle.commands.proofs.Common.{Answer, Check, End, Passes, Holds, IsTold, ◌>>=◌, IsInputWith, mesh_in, pair_in, SpellsMesh, SpellsPair, Outcome, IsAnswerOf, off_line, pair_line, MOST_BYTES, Status, meaning_of, inr, ℕ, ◌≤◌, List, ◌∷◌, length, refl, [], Option, Some, None, IsSomeAnd, Files, file_of, FaceList, IsPair, pair_fault}
use Rattle.walk_files.proofs.PairLemmas.{none_of_pair}
use Rattle.commands.specs.declared.refusal.Input.TheVariants as inputs
use Rattle.commands.proofs.Deciding.{behind}
use Rattle.commands.proofs.Sound.{IsSound, sound-then, sound-meant, sound-file, meant_told, held}
use Rattle.commands.proofs.WalkInputs.{sound-walks, walks_passed, walks_told}

-- ---- the files

pub sound-mesh : (held : Option Files) (name : List ℕ) → IsSound held (mesh_in held name)
sound-mesh held name = sound-then held _ _ (sound-file held name inputs.Mesh) (λ bytes _. sound-meant held off_line (meaning_of bytes))

pub sound-pair : (held : Option Files) (name : List ℕ) (mesh : FaceList) → IsSound held (pair_in held name mesh)
sound-pair held name mesh = sound-walks pair_line (pair_fault mesh) held name

pub some_and : {A : Type 0} (o : Option A) (P Q : A → Type 0) → ((x : A) → P x → Q x) → IsSomeAnd o P → IsSomeAnd o Q
some_and None P Q more h = h
some_and (Some x) P Q more h = more x h

-- where such bytes are so, a certificate with such bytes is one with bytes that are so
unfoldable pub input_so : (keyword : List ℕ) (AreSuch AreSo : List ℕ → Type 0) (files : Option Files) (words : List (List ℕ))
    (mesh : FaceList) (first second : List ℕ)
    → ((bytes : List ℕ) → AreSuch bytes → AreSo bytes) → IsInputWith keyword AreSuch files words mesh first second
    → IsInputWith keyword AreSo files words mesh first second
input_so keyword AreSuch AreSo files words mesh first second so h =
    record {
      mesh_name = h.mesh_name;
      walks_name = h.walks_name;
      certificate_name = h.certificate_name;
      words_are = h.words_are;
      mesh_file = h.mesh_file;
      walks_file = h.walks_file;
      certificate_file =
          some_and (file_of files h.certificate_name) (λ bytes. (length bytes ≤ MOST_BYTES) × AreSuch bytes)
          (λ bytes. (length bytes ≤ MOST_BYTES) × AreSo bytes) (λ bytes file. (file.0, so bytes file.1)) h.certificate_file;
    }

-- ---- files that are told

pub mesh_told : (files : Option Files) (name : List ℕ) (mesh : FaceList) → Holds files name (SpellsMesh mesh)
    → (mesh_in files name).EachFile (IsTold files)
mesh_told files name mesh h = ((held files name (SpellsMesh mesh) h).told, λ bytes _. meant_told files off_line (meaning_of bytes))

-- the file passes its mesh
pub mesh_passes : (files : Option Files) (name : List ℕ) (mesh : FaceList) → Holds files name (SpellsMesh mesh)
    → Passes (mesh_in files name) mesh
mesh_passes files name mesh h =
    let file = held files name (SpellsMesh mesh) h in
    inr (file.bytes, file.passes inputs.Mesh, rw file.holds refl)

-- a file that spells two walks of the mesh with common ends passes them
pub spelled_pair : (files : Option Files) (name : List ℕ) (mesh : FaceList) (first second : List ℕ)
    → Holds files name (SpellsPair mesh first second)
    → Passes (pair_in files name mesh) (first ∷ second ∷ [])
spelled_pair files name mesh first second h =
    let file = held files name (SpellsPair mesh first second) h in
    let spelled = file.holds in
    let pair : List (List ℕ) = first ∷ second ∷ [] in
    let is_pair : IsPair mesh pair =
    record { first = first; second = second; two = refl; are = spelled.are } in
    walks_passed pair_line (pair_fault mesh) files name file.bytes pair (file.passes inputs.Walks) spelled.text
    (none_of_pair mesh pair is_pair)

pub pair_told : (files : Option Files) (name : List ℕ) (mesh : FaceList) → IsTold files name
    → (pair_in files name mesh).EachFile (IsTold files)
pair_told files name mesh told = walks_told pair_line (pair_fault mesh) files name told

-- the status and the text are those of an outcome of the check
pub record IsOutcomeOf (check : Check Answer) (status : Status) (text : List ℕ) : Type 0 where
  pub outcome : Outcome
  pub is_outcome : check.Ends outcome
  pub is_answer : IsAnswerOf outcome status text

-- what comes behind a mesh and two walks of it, which their files spell
pub behind_pair : {B : Type 0} (files : Option Files) (mesh_name walks_name : List ℕ) (mesh : FaceList) (first second : List ℕ)
    (next : FaceList → List (List ℕ) → Check B) (end : End B) → Holds files mesh_name (SpellsMesh mesh)
    → Holds files walks_name (SpellsPair mesh first second)
    → (mesh_in files mesh_name >>= (λ faces. pair_in files walks_name faces >>= next faces)).Ends end
    → (next mesh (first ∷ second ∷ [])).Ends end
behind_pair files mesh_name walks_name mesh first second next end mesh_file walks_file is =
    behind files (pair_in files walks_name mesh) (next mesh) (first ∷ second ∷ []) end (sound-pair files walks_name mesh)
    (pair_told files walks_name mesh (held files walks_name (SpellsPair mesh first second) walks_file).told)
    (spelled_pair files walks_name mesh first second walks_file)
    (behind files (mesh_in files mesh_name) (λ faces. pair_in files walks_name faces >>= next faces) mesh end (sound-mesh files mesh_name)
    (mesh_told files mesh_name mesh mesh_file) (mesh_passes files mesh_name mesh mesh_file) is)
