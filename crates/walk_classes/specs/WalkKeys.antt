-- The key of a walk on a surface of which words are asked.
use Rattle.std.specs.Prelude.{◌≡◌, ℕ, List, slice_index, Option, MatchOption}
use Rattle.component_deciding.specs.WordFinders.{IsWordIn, mesh_of_finder}
use Rattle.component_deciding.specs.declared.word_finder.WordFinder.{WordFinder}
use Rattle.surf_model.specs.Walks.{darts, IsWalk}
use Rattle.turn_words.specs.declared.word.Word.{Word}
use Rattle.walk_classes.specs.Keys.{word_of_key}
use Rattle.walk_classes.specs.declared.key.Key.{Key}

-- the list is a walk, and the key has its ends and its word
pub record IsKeyOf (finder : WordFinder) (walk : List ℕ) (key : Key) : Type 0 where
  pub is_walk : IsWalk (mesh_of_finder finder) walk
  pub start : key.start.0 ≡ slice_index walk 0
  pub end : key.end.0 ≡ slice_index walk (darts walk)
  pub word : IsWordIn finder walk (word_of_key key.word)

-- nothing, where the list is no walk; else its key
abbrev pub IsKeyFound : WordFinder → List ℕ → Option Key → Type 0
IsKeyFound finder walk found = MatchOption found (IsWalk (mesh_of_finder finder) walk → ⊥) (IsKeyOf finder walk)

-- a finder with the same mesh, of which each walk has the words that it had
pub record HasKept (before after : WordFinder) : Type 0 where
  pub mesh : mesh_of_finder after ≡ mesh_of_finder before
  pub words : (walk : List ℕ) (word : Word) → IsWordIn before walk word → IsWordIn after walk word
