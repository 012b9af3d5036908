-- Moves whose lines lie whole in the bytes that are at hand.
use Rattle.std.specs.Prelude.{◌≡◌, ℕ, ◌<◌, true, not, List, [], ◌∷◌, ◌++◌, length, take, flat_map, slice_index, Option, Some, All}
use Rattle.std.specs.List.{list_all}
use Rattle.text_scan.specs.Lines.{is_filled}
use Rattle.text_scan.specs.Steps.{ends_word}
use Rattle.text_scan.specs.Unread.{words_here}
use Rattle.file_pieces.specs.FileLines.{IsOneLine}
use Rattle.surf_model.specs.declared.moves.Move.{Move}
use Rattle.walk_files.specs.Certificates.{move_of}

-- the first line of these bytes, which has so many before its line feed, is this move
pub record IsMoveLine (bytes : List ℕ) (len : ℕ) (mv : Move) : Type 0 where
  pub within : len < length bytes
  pub feed : slice_index bytes len ≡ 10
  pub alone : IsOneLine (take len bytes)
  pub move : move_of (words_here (take len bytes)) ≡ Some mv

-- one or more bytes, none of which ends a word
pub record IsPlainWord (word : List ℕ) : Type 0 where
  pub filled : is_filled word ≡ true
  pub inside : list_all (λ byte. not (ends_word byte)) word ≡ true

-- words, each behind a single blank
abbrev pub spaced : List (List ℕ) → List ℕ
spaced words = flat_map (λ word. 32 ∷ word) words

-- at the front stands a word behind a single blank, and `read` takes it for this value
pub record BeginsWithWord {A : Type 0} (read : List ℕ → Option A) (bytes : List ℕ) (found : A) (after : List ℕ) : Type 0 where
  pub word : List ℕ
  pub parts : bytes ≡ 32 ∷ (word ++ after)
  pub plain : IsPlainWord word
  pub value : read word ≡ Some found

-- the same of several words
pub record BeginsWithWords {A : Type 0} (read : List (List ℕ) → Option A) (bytes : List ℕ) (found : A) (after : List ℕ) : Type 0 where
  pub words : List (List ℕ)
  pub parts : bytes ≡ spaced words ++ after
  pub plain : All IsPlainWord words
  pub value : read words ≡ Some found

-- a text in one line whose words are this move
pub record IsMoveText (line : List ℕ) (mv : Move) : Type 0 where
  pub alone : IsOneLine line
  pub move : move_of (words_here line) ≡ Some mv

-- at the front stands such a text, and it remains one with a carriage return behind it
pub record BeginsWithMove (bytes : List ℕ) (mv : Move) (after : List ℕ) : Type 0 where
  pub line : List ℕ
  pub parts : bytes ≡ line ++ after
  pub plain : IsMoveText line mv
  pub returned : IsMoveText (line ++ 13 ∷ []) mv
