-- A line of which all bytes are kept, up to its line feed.
use Rattle.file_pieces.proofs.Common.{LinesReading, IsOneLine, ReadsLine, Reading, Reads, bytes_left, read_so_far, ◌≡◌, ℕ, suc, ◌+◌, ◌-◌, ◌<◌, ◌≤◌, Bool, true, List, ◌∷◌, ◌++◌, length, take, drop, sym, ap, ap₂, subst, ◌∙◌, arith, append_assoc, drop-drop, slice_index, is_filled, words_here}
use Rattle.std.proofs.Math.Nat.{min-le_left}
use Rattle.std.proofs.Math.Seq.{drop-cons}
use Rattle.std.proofs.lemmas.List.{length-drop, length-take, drop-take, take-append-drop}
use Rattle.std.specs.Prelude.{Some}
use Rattle.file_pieces.proofs.ReadingLemmas.{kept_and_others}
use Rattle.file_pieces.proofs.SameLemmas.{SameLine-refl}
use Rattle.file_pieces.proofs.FileLineLemmas.{line_found}

-- a reading that stands at this place, with these bytes kept
abbrev pub standing : (limit : ℕ) (ended : Bool) (place : ℕ) (kept : List ℕ) → Reading
standing limit ended place kept = record { limit = limit; place = place; kept = kept; ended = ended }

-- some of those that are kept were passed over
pub pass_some : (limit before at filled count : ℕ) (piece : List ℕ) (ended : Bool)
    → count ≤ length (take (filled - at) (drop at piece))
    → standing limit ended (before + (at + count)) (take (filled - (at + count)) (drop (at + count) piece))
    ≡ standing limit ended (before + at + count) (drop count (take (filled - at) (drop at piece)))
pass_some limit before at filled count piece ended some =
    let few : count ≤ filled - at = omega (
      arith,
      some,
      length-take (filled - at) (drop at piece),
      min-le_left (filled - at) (length
          (drop at piece)),
    ) in
    let parts : filled - at ≡ count + (filled - (at + count)) = omega (arith, few) in
    let same : take (filled - (at + count)) (drop (at + count) piece) ≡ drop count (take (filled - at) (drop at piece)) =
    ap (take (filled - (at + count))) (sym (drop-drop count at piece))
    ∙ sym (drop-take count (filled - (at + count)) (drop at piece))
    ∙ ap (λ n. drop count (take n (drop at piece))) (sym parts) in
    let place : before + (at + count) ≡ before + at + count = omega arith in
    ap (standing limit ended (before + (at + count))) same
    ∙ ap (λ p. standing limit ended p (drop count (take (filled - at) (drop at piece)))) place

-- a line that is kept up to its line feed was passed over
pub pass_line-reads : (old new : Reading) (file : List ℕ) (len : ℕ) → new ≡ record old {
  place = old.place + (len + 1);
  kept = drop (len
      + 1) old.kept;
}
    → len < length old.kept → Reads old file → Reads new file
pass_line-reads old new file len is within reads =
    let all : ℕ = length old.kept in
    let more : all ≡ len + 1 + (all - (len + 1)) = omega (arith, within) in
    let rest : length (drop (len + 1) old.kept) ≡ all - (len + 1) = length-drop (len + 1) old.kept in
    subst (λ (r : Reading). Reads r file) (sym is) (record {
      within = omega (arith, reads.within, within, rest);
      kept = ap (drop (len + 1)) (reads.kept ∙ ap (λ n. take n (bytes_left old file)) more)
          ∙ drop-take (len + 1) (all - (len + 1)) (bytes_left old file)
          ∙ ap (take (all - (len + 1))) (drop-drop (len + 1) old.place file)
          ∙ ap (λ n. take n (drop (old.place + (len + 1)) file)) (sym rest);
      whole = λ ended. absurd (omega (arith, reads.within, reads.whole ended, within));
    })

-- the line, its line feed, and what lies behind them
parted : (kept : List ℕ) (len : ℕ) → len < length kept → slice_index kept len ≡ 10
    → kept ≡ take len kept ++ 10 ∷ drop (len + 1) kept
parted kept len within feed =
    sym (take-append-drop len kept)
    ∙ ap (λ t. take len kept ++ t) (drop-cons kept len 0 within ∙ ap₂ (λ (b n : ℕ). b ∷ drop n kept) feed next)
  where
    next : suc len ≡ len + 1
    next = omega arith

pub passes_line : (old new : LinesReading) (file : List ℕ) (len : ℕ)
    → new.reading ≡ record old.reading { place = old.reading.place + (len + 1); kept = drop (len + 1) old.reading.kept }
    → new.number ≡ old.number + 1 → len < length old.reading.kept → slice_index old.reading.kept len ≡ 10
    → IsOneLine (take len old.reading.kept) → is_filled (words_here (take len old.reading.kept)) ≡ true → Reads old.reading file
    → ReadsLine old.number (bytes_left old.reading file) (Some old.number) (words_here (take len old.reading.kept)) new.number
    (bytes_left new.reading file)
passes_line old new file len is next within feed alone filled reads =
    let line : List ℕ = take len old.reading.kept in
    let others : List ℕ = drop (read_so_far old.reading) file in
    let all : bytes_left old.reading file ≡ line ++ 10 ∷ (drop (len + 1) old.reading.kept ++ others) =
    kept_and_others old.reading file reads ∙ ap (λ t. t ++ others) (parted old.reading.kept len within feed)
    ∙ append_assoc line (10 ∷ drop (len + 1) old.reading.kept) others in
    let so_far : read_so_far new.reading ≡ read_so_far old.reading =
    ap read_so_far is ∙ omega (arith, within, length-drop (len + 1) old.reading.kept) in
    let behind_it : bytes_left new.reading file ≡ drop (len + 1) old.reading.kept ++ others =
    kept_and_others new.reading file (pass_line-reads old.reading new.reading file len is within reads)
    ∙ ap (λ n. new.reading.kept ++ drop n file) so_far ∙ ap (λ (r : Reading). r.kept ++ others) is in
    rw (all, behind_it) (line_found old.number new.number line (drop (len + 1) old.reading.kept ++ others) (words_here line) alone
    (SameLine-refl (words_here line)) filled next)
