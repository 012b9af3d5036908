use Rattle.walk_translate.proofs.Common.{◌≡◌, true, false, refl, ◌↔◌, Homotopic}
use Rattle.walk_translate.proofs.DecidingLemmas.{labels_decide, equal_decides, unequal_decides}
use Rattle.walk_translate.proofs.deciding.answer_by.Goals.{After-are_same_words}
use Rattle.walk_translate.proofs.deciding.answer_by.Goals as goal

-- the words decide
decides : (c : After-are_same_words) → Homotopic c.args.surface.now.mesh c.args.first.now c.args.second.now
    ↔ (c.in_ok-one.one ≡ c.in_ok-other.other)
decides c =
    labels_decide c.args.surface.now c.args.labels.now c.args.first.now c.args.second.now c.in_ok-one.one c.in_ok-other.other
    c.in_ok-one.ensures.oriented c.requires.labels
    (record { first_walk = c.requires.first; second_walk = c.requires.second; ends = c.requires.ends }) c.in_ok-one.ensures.word
    c.in_ok-other.ensures.word

pub returns-then-are_same_words : goal.returns-then-are_same_words
returns-then-are_same_words c =
    equal_decides _ (decides (goal.at.returns-then-are_same_words c).After-are_same_words) (c.if-are_same_words.ensures.0 refl) refl

pub returns : goal.returns
returns c =
    unequal_decides _ (decides (goal.at.returns c).After-are_same_words)
    (λ e. let same : false ≡ true = c.if-are_same_words.ensures.1 e in cc) refl
