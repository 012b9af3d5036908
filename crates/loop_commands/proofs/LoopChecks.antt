-- How the check of two closed walks ends.
use Rattle.loop_commands.proofs.Common.{IsSound, held, sound-walks, walks_passed, walks_told, Passes, Holds, IsTold, SpellsLoops, loops_line, loops_in, ℕ, List, [], ◌∷◌, refl, Option, Files, FaceList, IsClosedPair, loops_fault}
use Rattle.walk_files.proofs.ClosedPairLemmas.{none_of_loops}
use Rattle.commands.specs.declared.refusal.Input.TheVariants as inputs

-- the check has an end, and one where its file is told
pub sound-loops_in : (held : Option Files) (name : List ℕ) (mesh : FaceList) → IsSound held (loops_in held name mesh)
sound-loops_in held name mesh = sound-walks loops_line (loops_fault mesh) held name

pub loops_in_told : (files : Option Files) (name : List ℕ) (mesh : FaceList) → IsTold files name
    → (loops_in files name mesh).EachFile (IsTold files)
loops_in_told files name mesh told = walks_told loops_line (loops_fault mesh) files name told

-- a file that spells two closed walks of the mesh passes them
pub spelled_loops : (files : Option Files) (name : List ℕ) (mesh : FaceList) (first second : List ℕ)
    → Holds files name (SpellsLoops mesh first second)
    → Passes (loops_in files name mesh) (first ∷ second ∷ [])
spelled_loops files name mesh first second h =
    let file = held files name (SpellsLoops mesh first second) h in
    let spelled = file.holds in
    let pair : List (List ℕ) = first ∷ second ∷ [] in
    let closed : IsClosedPair mesh pair =
    record { first = first; second = second; two = refl; first_closed = spelled.first_closed; second_closed = spelled.second_closed } in
    walks_passed loops_line (loops_fault mesh) files name file.bytes pair (file.passes inputs.Walks) spelled.text
    (none_of_loops mesh pair closed)
