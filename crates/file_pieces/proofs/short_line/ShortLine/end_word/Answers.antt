use Rattle.file_pieces.proofs.Common.{ShortText, HasEnded, arith, ◌≡◌, ◌+◌, true, [], ◌∷◌, ◌++◌, eqb, refl, ap, ◌∙◌, subst, sym, common_steps, is_filled}
use Rattle.file_pieces.proofs.ShortLemmas.{has_ended, none_ended, short_ended, filled_word}
use Rattle.file_pieces.proofs.short_line.ShortLine.end_word.Goals as goal

pub returns-then-is_empty-clause-ended : goal.returns-then-is_empty-clause-ended
returns-then-is_empty-clause-ended c = grind (arith, common_steps, none_ended)

-- the text behind the word that has ended
text : (c : goal.After-self-2-1) → c.push.new.self.items ≡ (c.self.inside.done.items ++ c.self.inside.word.items) ++ 32 ∷ []
text c = grind arith

some_begun : (c : goal.After-self-2-1) → is_filled c.self.inside.word.items ≡ true
some_begun c = filled_word c.self.inside.word.items (sym c.is_empty.ensures ∙ c.if-is_empty.false)

pub invariant_of-self : goal.invariant_of-self
invariant_of-self c =
    rw c.clear.ensures
    (short_ended (record {
      done = c.self.inside.done.items;
      word = c.self.inside.word.items;
      closed = c.self.inside.closed;
      begun = c.self.inside.begun;
    }) c.self.inside.words c.push.new.self.items (eqb (c.self.inside.words + 1) 7) c.self.invariant
    (ap (λ (l : ShortText). l.closed) c.self.view_is ∙ c.requires) (some_begun c) (text c) refl)

pub returns-clause-ended : goal.returns-clause-ended
returns-clause-ended c =
    let new : ShortText = record {
      done = c.push.new.self.items;
      word = c.clear.new.self.items;
      closed = eqb (c.self.inside.words + 1) 7;
      begun = c.self.inside.begun;
    } in
    subst (λ (l : ShortText). HasEnded l.done l.word new) c.self.view_is
    (rw c.clear.ensures
    (has_ended (record {
      done = c.self.inside.done.items;
      word = c.self.inside.word.items;
      closed = c.self.inside.closed;
      begun = c.self.inside.begun;
    }) c.self.inside.words c.push.new.self.items (eqb (c.self.inside.words + 1) 7) c.self.invariant (some_begun c) (text c) refl))
