use Rattle.turn_words.proofs.Common.{arith, ◌≡◌, ◌∙◌, ap, ap₂, length, reverse, HyperView, turn_to, value_at, add, minus, put}
use Rattle.turn_words.proofs.Acts.{notes-put, change-below, belongs-next}
use Rattle.turn_words.proofs.hyper.HyperForm.act.Goals as goal
use Rattle.turn_words.proofs.hyper.HyperForm.act.Goals.{After-sum_modulo-turn, After-put_uncounted-put}

turn : (g : _) (c : After-sum_modulo-turn g) → c.sum_modulo-turn.result ≡ turn_to c.args.wheel.now c.args.self.now.state c.args.spoke.0
turn g c = grind arith

-- the word to which the turn is put
before : (g : _) (c : After-put_uncounted-put g) → c.reserve.new.self.word ≡ c.args.self.now.state.word
before g c = c.in_ok-reserve.ensures.word ∙ ap (λ (v : HyperView). v.state.word) c.self.view_is

change : (g : _) (c : After-put_uncounted-put g) →
    c.put_uncounted-put.result.change ≡ (put (length c.args.wheel.now) (reverse c.args.self.now.state.word) c.sum_modulo-turn.result).change
change g c = grind (arith, put, before)

pub negative_modulo-requires : goal.negative_modulo-requires
negative_modulo-requires g c = grind (arith, turn, change-below, change)

pub returns-clause-notes : goal.returns-clause-notes
returns-clause-notes g c = grind (arith, turn, before, notes-put)

pub returns-clause-belongs : goal.returns-clause-belongs
returns-clause-belongs g c =
    let places = c.args.wheel.now in
    let state = c.args.self.now.state in
    let degree = c.degree-degree.ensures.degree in
    let is_put = (goal.at.returns-clause-belongs g c).After-put_uncounted-put in
    let turned = turn g (goal.at.returns-clause-belongs g c).After-sum_modulo-turn in
    let left : reverse c.put_uncounted-put.new.word.word ≡ (put (length places) (reverse state.word) c.sum_modulo-turn.result).word =
    c.put_uncounted-put.ensures.word ∙ ap₂ (λ d w. (put d (reverse w) c.sum_modulo-turn.result).word) degree (before g is_put) in
    let number : c.sum_modulo-self-inside.result ≡ add (length places)
    (value_at places c.put_uncounted-put.new.word.word c.args.spoke.0) (minus (length places) c.put_uncounted-put.result.change) =
    c.sum_modulo-self-inside.ensures.sum ∙ ap (λ d. add d c.value_of-value.result c.negative_modulo.result) degree
    ∙ ap₂ (add (length places)) c.value_of-value.ensures.value
    (c.negative_modulo.ensures.negative ∙ ap (λ d. minus d c.put_uncounted-put.result.change) degree) in
    belongs-next places state c.args.spoke.0 c.sum_modulo-turn.result c.put_uncounted-put.new.word.word c.put_uncounted-put.result.change
    c.sum_modulo-self-inside.result c.requires.belongs c.requires.spoke turned left (change g is_put) number
