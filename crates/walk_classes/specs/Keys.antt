-- Keys of walks, and the order in which a map has them.
use Rattle.std.specs.Prelude.{◌≡◌}
use Rattle.std.specs.declared.cmp.Ordering.{Ordering}
use Rattle.turn_words.specs.declared.word.Word.{Word}
use Rattle.turn_words.specs.declared.word.Word.TheVariants as words
use Rattle.walk_classes.specs.declared.key.Key.{Key}
use Rattle.walk_classes.specs.declared.key.WordKey.{WordKey}
use Rattle.walk_classes.specs.declared.key.WordKey.TheVariants.{Turns, Flat}
use Rattle.walk_classes.specs.contracts.key.KeyOrd.TheImpl as key_ord

-- how `cmp` orders two keys
abbrev pub key_order : Key → Key → Ordering
key_order = (key_ord.ghosts).cmp

-- the word that a key has
abbrev pub word_of_key : WordKey → Word
word_of_key (Turns turns) = words.Turns turns.items
word_of_key (Flat x y) = words.Flat x y

-- two keys that tell the same: the ends are the same, and so are the words
pub record AreSameKeys (one other : Key) : Type 0 where
  pub start : one.start.0 ≡ other.start.0
  pub end : one.end.0 ≡ other.end.0
  pub word : word_of_key one.word ≡ word_of_key other.word
