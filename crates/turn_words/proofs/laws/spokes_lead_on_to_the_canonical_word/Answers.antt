use Rattle.turn_words.proofs.Common.{ℕ, ◌<◌, ◌++◌, length, subst, IsCanonicalOf, HyperState, empty_state, hyper_next, turn_word_of}
use Rattle.std.proofs.lemmas.List.Elements.{All-append}
use Rattle.turn_words.proofs.Led.{led-append}
use Rattle.turn_words.proofs.Spokes.{canonical}
use Rattle.turn_words.proofs.laws.spokes_lead_on_to_the_canonical_word.Goals as goal

pub returns : goal.returns
returns c = λ places before spokes own below more.
    subst (λ (s : HyperState). IsCanonicalOf (length places) (turn_word_of places (before ++ spokes)) s.word)
    (led-append hyper_next places empty_state before spokes)
    (canonical places (before ++ spokes) own (All-append (λ (spoke : ℕ). spoke < length places) before spokes below more))
