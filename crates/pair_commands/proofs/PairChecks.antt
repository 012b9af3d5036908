-- How the check of pairs of walks ends.
use Rattle.pair_commands.proofs.Common.{IsSound, sound-file, sound-then, sound-meant, sound-pass_unless, held, meant_told, unless_told, Check, Refuse, Passes, Holds, IsTold, file, meant, ◌>>=◌, SpellsPairs, come_in_pairs, pairs_line, pairs_in, ◌≡◌, inl, inr, ℕ, List, refl, Option, None, Result, Files, FaceList, WalkPair, ArePairs, walks_in_pairs, pairs_fault, WalkText}
use Rattle.commands.proofs.Checking.{stops_next}
use Rattle.commands.proofs.WalkInputs.{was_read}
use Rattle.commands.specs.Inputs.{text_in}
use Rattle.commands.specs.Refusals.{numbers_line}
use Rattle.commands.specs.Stops.{Stops}
use Rattle.commands.specs.declared.stop.Stop.{Stop}
use Rattle.commands.specs.declared.stop.Stop.TheVariants.{Refused, ReadFault, OutOfMemory}
use Rattle.walk_files.proofs.PairListLemmas.{none_of_pairs}
use Rattle.walk_files.specs.WalkTexts.{walk_text_of}
use Rattle.walk_files.specs.declared.fault.WalkFault.{WalkFault}
use Rattle.commands.specs.declared.refusal.Input.TheVariants as inputs

-- what is looked at of a text, and behind the bytes of a walk file
abbrev after_text : FaceList → WalkText → Check WalkText
after_text mesh text = come_in_pairs mesh text

abbrev after_bytes : FaceList → List ℕ → Check WalkText
after_bytes mesh bytes = meant (numbers_line inputs.Walks) (walk_text_of bytes) >>= after_text mesh

-- a walk file that passes
pub pairs_pass : (held : Option Files) (name : List ℕ) (mesh : FaceList) (bytes : List ℕ) (text : WalkText)
    → Passes (file held name inputs.Walks) bytes → Passes (meant (numbers_line inputs.Walks) (walk_text_of bytes)) text
    → pairs_fault mesh text ≡ None → Passes (pairs_in held name mesh) text
pairs_pass held name mesh bytes text p q f = inr (bytes, p, inr (text, q, rw f refl))

-- a walk file that is refused before its pairs are looked at
pub text_stop : (held : Option Files) (name : List ℕ) (mesh : FaceList) (stop : Stop) → Stops (text_in held name) stop
    → Stops (pairs_in held name mesh) stop
text_stop held name mesh (Refused text) h = (h.0, refused h.1, h.2)
  where
    refused : (text_in held name).Ends (Refuse h.0) → (pairs_in held name mesh).Ends (Refuse h.0)
    refused (inl first) = inl first
    refused (inr second) = inr (second.0, second.1, inl (h.0, second.2, refl))
text_stop held name mesh ReadFault h = tt
text_stop held name mesh OutOfMemory h = tt

-- and one whose pairs are refused
pub list_stop : (held : Option Files) (name : List ℕ) (mesh : FaceList) (text : WalkText) (stop : Stop) → Passes (text_in held name) text
    → Stops (come_in_pairs mesh text) stop → Stops (pairs_in held name mesh) stop
list_stop held name mesh text stop p h =
    let read = was_read held name text p in
    stops_next (file held name inputs.Walks) (after_bytes mesh) read.bytes stop read.file
    (stops_next (meant (numbers_line inputs.Walks) (walk_text_of read.bytes)) (after_text mesh) text stop read.meaning h)

-- and one that passes
pub list_pass : (held : Option Files) (name : List ℕ) (mesh : FaceList) (text : WalkText) → Passes (text_in held name) text
    → ArePairs mesh text → Passes (pairs_in held name mesh) text
list_pass held name mesh text p pairs =
    let read = was_read held name text p in
    pairs_pass held name mesh read.bytes text read.file read.meaning (none_of_pairs mesh text pairs)

pub sound-pairs_in : (held : Option Files) (name : List ℕ) (mesh : FaceList) → IsSound held (pairs_in held name mesh)
sound-pairs_in held name mesh =
    sound-then held _ _ (sound-file held name inputs.Walks)
    (λ bytes _. sound-then held _ _ (sound-meant held (numbers_line inputs.Walks) (walk_text_of bytes))
    (λ text _. sound-pass_unless held (pairs_line text.version) (pairs_fault mesh text) text))

texts_told : (files : Option Files) (mesh : FaceList) (read : Result WalkText WalkFault)
    → (meant (numbers_line inputs.Walks) read >>= after_text mesh).EachFile (IsTold files)
texts_told files mesh read = (
  meant_told files (numbers_line inputs.Walks) read,
  λ text _. unless_told files (pairs_line text.version) (pairs_fault mesh text) text,
)

pub pairs_in_told : (files : Option Files) (name : List ℕ) (mesh : FaceList) → IsTold files name
    → (pairs_in files name mesh).EachFile (IsTold files)
pairs_in_told files name mesh told = (told, λ bytes _. texts_told files mesh (walk_text_of bytes))

-- a file that spells pairs of walks of the mesh passes a text of these pairs
pub spelled_pairs : (files : Option Files) (name : List ℕ) (mesh : FaceList) (pairs : List WalkPair)
    → Holds files name (SpellsPairs mesh pairs)
    → (text : WalkText) × Passes (pairs_in files name mesh) text × (pairs ≡ walks_in_pairs text.walks)
spelled_pairs files name mesh pairs h =
    let file = held files name (SpellsPairs mesh pairs) h in
    let spelled = file.holds in (
      spelled.text,
      pairs_pass files name mesh file.bytes spelled.text (file.passes inputs.Walks) (rw spelled.text_is refl)
          (none_of_pairs mesh spelled.text spelled.are_pairs),
      spelled.pairs_are,
    )
