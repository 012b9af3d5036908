-- Bytes of a file that come one by one, or piece by piece.
use Rattle.file_pieces.proofs.Common.{Reading, Reads, bytes_left, read_so_far, ◌≡◌, ℕ, suc, ◌+◌, true, List, [], ◌∷◌, ◌++◌, length, take, drop, Option, None, Some, IfSome, MatchOption, refl, sym, ap, subst, ◌∙◌, arith, drop-drop, take-append-drop, common_steps, IsTrue, is_filled}
use Rattle.std.specs.Prelude.{◌<◌}

-- what holds of what a shelf holds, where it tells so
pub told : {A : Type 0} (P : A → Type 0) (o : Option A) → ((x : A) → o ≡ Some x → P x) → IfSome o P
told P None holds = tt
told P (Some x) holds = holds x refl

pub at_told : {A : Type 0} (P : A → Type 0) (o : Option A) (x : A) → o ≡ Some x → IfSome o P → P x
at_told P o x is holds = subst (λ p. IfSome p P) is holds

-- the first byte that is kept is the first that is left
front : (xs : List ℕ) (byte : ℕ) (kept : List ℕ) → byte ∷ kept ≡ take (suc (length kept)) xs
    → (xs ≡ byte ∷ drop 1 xs) × (kept ≡ take (length kept) (drop 1 xs))
front [] byte kept is = cc
front (x ∷ xs) byte kept is = grind arith

record TakesByte (old new : Reading) (file : List ℕ) (byte : ℕ) : Type 0 where
  reads : Reads new file
  first : bytes_left old file ≡ byte ∷ bytes_left new file

takes_byte : (old : Reading) (file : List ℕ) (byte : ℕ) (kept : List ℕ) → Reads old file → old.kept ≡ byte ∷ kept → (old.ended ≡ true → ⊥)
    → TakesByte old (record old { place = old.place + 1; kept = kept }) file byte
takes_byte old file byte kept reads is more =
    let parts = front (bytes_left old file) byte kept
    (sym is ∙ reads.kept ∙ ap (λ (k : List ℕ). take (length k) (bytes_left old file)) is) in
    let rest : drop 1 (bytes_left old file) ≡ drop (old.place + 1) file = drop-drop 1 old.place file in
    record {
      reads = grind arith;
      first = parts.0 ∙ ap (λ t. byte ∷ t) rest;
    }

-- where a byte is kept, the file has not ended
not_ended : (reading : Reading) (file : List ℕ) (byte : ℕ) (kept : List ℕ) → Reads reading file → reading.kept ≡ byte ∷ kept
    → reading.ended ≡ true → ⊥
not_ended reading file byte kept reads is ended = omega (arith, reads.within, reads.whole ended, ap (λ (k : List ℕ). length k) is)

-- what a call says that took a byte or found none
abbrev pub Taken : Reading → Reading → Option ℕ → List ℕ → Type 0
Taken old new byte file =
    Reads old file → Reads new file × MatchOption byte (bytes_left old file ≡ []) (λ b. bytes_left old file ≡ b ∷ bytes_left new file)

-- the next byte was taken
pub next_byte : (old mid new : Reading) (file : List ℕ) (byte : Option ℕ) → mid.place ≡ old.place → Reads mid file
    → (mid.kept ≡ [] → mid.ended ≡ true)
    → MatchOption byte ((mid.kept ≡ []) × (new ≡ mid))
    (λ b. (mid.kept ≡ b ∷ new.kept) × (new ≡ record mid { place = mid.place + 1; kept = new.kept }))
    → Reads new file × MatchOption byte (bytes_left old file ≡ []) (λ b. bytes_left old file ≡ b ∷ bytes_left new file)
next_byte old mid new file None same reads ends took = grind (arith, common_steps)
next_byte old mid new file (Some b) same reads ends took =
    let takes : TakesByte mid (record mid { place = mid.place + 1; kept = new.kept }) file b =
    takes_byte mid file b new.kept reads took.0 (not_ended mid file b new.kept reads took.0) in (
      subst (λ (r : Reading). Reads r file) (sym took.1) takes.reads,
      ap (λ p. drop p file) (sym same) ∙ takes.first ∙ ap (λ (r : Reading). b ∷ bytes_left r file) (sym took.1),
    )

-- all bytes that are kept were passed over
pub pass_kept-reads : (old new : Reading) (file : List ℕ) → new ≡ record old { place = read_so_far old; kept = [] } → Reads old file
    → (old.ended ≡ true → ⊥) → Reads new file
pass_kept-reads old new file is reads more = grind arith

-- those, and the others
pub kept_and_others : (reading : Reading) (file : List ℕ) → Reads reading file
    → bytes_left reading file ≡ reading.kept ++ drop (read_so_far reading) file
kept_and_others reading file reads =
    sym (take-append-drop (length reading.kept) (bytes_left reading file))
    ∙ ap (λ t. t ++ drop (length reading.kept) (bytes_left reading file)) (sym reads.kept)
    ∙ ap (λ t. reading.kept ++ t) (drop-drop (length reading.kept) reading.place file)

-- those that are kept were gathered
pub gathered : (old mid new : Reading) (file before after all kept : List ℕ) → Reads old file
    → before ++ bytes_left old file ≡ all → after ≡ before ++ kept → kept ≡ old.kept
    → mid ≡ record old { place = read_so_far old; kept = [] } → new.place ≡ mid.place → after ++ bytes_left new file ≡ all
gathered old mid new file before after all kept reads so_far more same passed stays = grind (arith, common_steps, kept_and_others)

-- bytes were read that were not looked at yet
pub filled_kept : (reading : Reading) → reading.place < read_so_far reading → IsTrue (is_filled reading.kept)
filled_kept reading more = by_cases reading.kept more
  where
    by_cases : (kept : List ℕ) → reading.place < reading.place + length kept → IsTrue (is_filled kept)
    by_cases [] more = absurd (omega (arith, more))
    by_cases (byte ∷ kept) more = refl
