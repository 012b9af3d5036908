use Rattle.file_pieces.proofs.Common.{ShortText, Stands, true, [], ◌∷◌, ◌++◌, ap, ◌∙◌, subst, sym}
use Rattle.file_pieces.proofs.ShortLemmas.{stands_blank, stands_hash, stands_word}
use Rattle.file_pieces.proofs.short_line.ShortLine.push.Goals as goal

pub returns-then-is_blank : goal.returns-then-is_blank
returns-then-is_blank c = λ bytes stands.
    let i = c.self.inside in
    let now : ShortText = record { done = i.done.items; word = i.word.items; closed = i.closed; begun = i.begun } in
    stands_blank now c.end_word.new.self bytes c.args.byte c.if-self.false (sym c.is_blank.ensures ∙ c.if-is_blank.true)
    c.end_word.ensures.ended c.end_word.ensures.word c.end_word.ensures.begun
    (subst (λ (l : ShortText). Stands l bytes) (sym c.self.view_is) stands)

pub returns-then-byte-eq35 : goal.returns-then-byte-eq35
returns-then-byte-eq35 c = λ bytes stands.
    let i = c.self.inside in
    let j = c.self-then-byte-eq35.inside in
    let now : ShortText = record { done = i.done.items; word = i.word.items; closed = i.closed; begun = i.begun } in
    let mid : ShortText = c.end_word-then-byte-eq35.new.self in
    let new : ShortText = record { done = j.done.items; word = j.word.items; closed = true; begun = j.begun } in
    subst (λ b. Stands new (bytes ++ b ∷ [])) (sym c.if-byte-eq35.true)
    (stands_hash now mid new bytes c.if-self.false c.end_word-then-byte-eq35.ensures.ended
    (ap (λ (l : ShortText). let closed : ShortText = record l { closed = true } in closed) c.self-then-byte-eq35.view_is)
    c.end_word-then-byte-eq35.ensures.begun (subst (λ (l : ShortText). Stands l bytes) (sym c.self.view_is) stands))

pub returns-else-byte-eq35 : goal.returns-else-byte-eq35
returns-else-byte-eq35 c = λ bytes stands.
    let i = c.self.inside in
    let now : ShortText = record { done = i.done.items; word = i.word.items; closed = i.closed; begun = i.begun } in
    stands_word now c.push_in_word.new.self bytes c.args.byte c.if-self.false
    (ap (λ (l : ShortText). l.closed) c.push_in_word.ensures.others ∙ c.if-self.false)
    (ap (λ (l : ShortText). l.begun) c.push_in_word.ensures.others) c.push_in_word.ensures.same
    (subst (λ (l : ShortText). Stands l bytes) (sym c.self.view_is) stands)
