-- How the check of a walk file ends, whatever is looked for in its walks.
use Rattle.commands.proofs.Common.{Texts, IsText, Check, Passes, IsTold, file, meant, pass_unless, ◌>>=◌, text_in, walks_unless, numbers_line, Stops, Tells, bytes_of, Stop, ReadFault, OutOfMemory, ◌≡◌, inl, inr, ℕ, List, refl, subst, Option, Some, None, Result, Ok, Err, Files, walk_text_of, walks_of, walks_in}
use Rattle.commands.specs.declared.stop.Stop.TheVariants.{Refused}
use Rattle.walk_files.specs.WalkLists.{WalkText}
use Rattle.walk_files.specs.declared.fault.WalkFault.{WalkFault}
use Rattle.commands.proofs.Checking.{stops_first, stops_next, stopped_where, told_stops}
use Rattle.commands.proofs.Sound.{IsSound, sound-file, sound-then, sound-meant, sound-pass_unless, meant_told, unless_told}
use Rattle.commands.specs.declared.refusal.Input.TheVariants as inputs

-- ---- what a text stands for

-- where a text passes, its walks do
walks_pass : (line_of : WalkFault → Texts) (read : Result WalkText WalkFault) (text : WalkText) → Passes (meant line_of read) text
    → Passes (meant line_of (walks_in read)) text.walks
walks_pass line_of (Ok found) text h = let same : text ≡ found = cc in cc
walks_pass line_of (Err fault) text h = cc

-- and what stops the one stops the other
walks_stop : (line_of : WalkFault → Texts) (read : Result WalkText WalkFault) (stop : Stop) → Stops (meant line_of read) stop
    → Stops (meant line_of (walks_in read)) stop
walks_stop line_of (Ok found) (Refused text) h = let e = h.1 in cc
walks_stop line_of (Err fault) (Refused text) h =
    let e = h.1 in
    let same : h.0 ≡ line_of fault = cc in (line_of fault, refl, subst (λ (t : Texts). IsText t (bytes_of text)) same h.2)
walks_stop line_of read ReadFault h = tt
walks_stop line_of read OutOfMemory h = tt

-- a text that was read: its bytes, and their meaning
pub record WasRead (held : Option Files) (name : List ℕ) (text : WalkText) : Type 0 where
  pub bytes : List ℕ
  pub file : Passes (file held name inputs.Walks) bytes
  pub meaning : Passes (meant (numbers_line inputs.Walks) (walk_text_of bytes)) text

pub was_read : (held : Option Files) (name : List ℕ) (text : WalkText) → Passes (text_in held name) text → WasRead held name text
was_read held name text (inl refused) = absurd (let wrong = refused.2 in cc)
was_read held name text (inr passed) = record { bytes = passed.0; file = passed.1; meaning = passed.2 }

-- ---- the walks, unless there is a fault of some kind in them

module _ {F : Type 0} (line_of : F → Texts) (fault_in : List (List ℕ) → Option F) (held : Option Files) (name : List ℕ) where
  -- what is looked at behind the bytes
  abbrev after_bytes : List ℕ → Check (List (List ℕ))
  after_bytes bytes = meant (numbers_line inputs.Walks) (walks_of bytes) >>= (λ walks. pass_unless line_of (fault_in walks) walks)

  -- the text is refused
  pub text_stops : (stop : Stop) → Stops (text_in held name) stop → Stops (walks_unless line_of fault_in held name) stop
  text_stops stop h =
      elim (stopped_where (file held name inputs.Walks) (λ bytes. meant (numbers_line inputs.Walks) (walk_text_of bytes)) stop h) [
        | inl first ↦ stops_first (file held name inputs.Walks) after_bytes stop first
        | inr second ↦
            stops_next (file held name inputs.Walks) after_bytes second.0 stop second.1
            (stops_first (meant (numbers_line inputs.Walks) (walks_of second.0)) (λ walks. pass_unless line_of (fault_in walks) walks) stop
            (walks_stop (numbers_line inputs.Walks) (walk_text_of second.0) stop second.2))
      ]

  -- there is a fault in its walks
  pub fault_stops : (text : WalkText) (fault : F) (stop : Stop) → Passes (text_in held name) text → fault_in text.walks ≡ Some fault
      → Tells (line_of fault) stop → Stops (walks_unless line_of fault_in held name) stop
  fault_stops text fault stop p f h =
      let read = was_read held name text p in
      told_stops (line_of fault) (walks_unless line_of fault_in held name) stop
      (inr (
        read.bytes,
        read.file,
        inr (text.walks, walks_pass (numbers_line inputs.Walks) (walk_text_of read.bytes) text read.meaning, rw f refl),
      )) h

  -- there is none
  pub text_passes : (text : WalkText) → Passes (text_in held name) text → fault_in text.walks ≡ None
      → Passes (walks_unless line_of fault_in held name) text.walks
  text_passes text p f =
      let read = was_read held name text p in
      inr (
        read.bytes,
        read.file,
        inr (text.walks, walks_pass (numbers_line inputs.Walks) (walk_text_of read.bytes) text read.meaning, rw f refl),
      )

  -- the same, where the bytes are known to spell the walks
  pub walks_passed : (bytes : List ℕ) (walks : List (List ℕ)) → Passes (file held name inputs.Walks) bytes → walks_of bytes ≡ Ok walks
      → fault_in walks ≡ None → Passes (walks_unless line_of fault_in held name) walks
  walks_passed bytes walks p e f = inr (bytes, p, inr (walks, rw e refl, rw f refl))

  pub sound-walks : IsSound held (walks_unless line_of fault_in held name)
  sound-walks =
      sound-then held _ _ (sound-file held name inputs.Walks)
      (λ bytes _. sound-then held _ _ (sound-meant held (numbers_line inputs.Walks) (walks_of bytes))
      (λ walks _. sound-pass_unless held line_of (fault_in walks) walks))

  pub walks_told : IsTold held name → (walks_unless line_of fault_in held name).EachFile (IsTold held)
  walks_told told = (
    told,
    λ bytes _. (
      meant_told held (numbers_line inputs.Walks) (walks_of bytes),
      λ walks _. unless_told held line_of (fault_in walks) walks,
    ),
  )
