-- What a put means for a state, and for a recorder.
use Rattle.turn_words.proofs.Common.{◌≡◌, ℕ, ◌<◌, arith, sym, ◌∙◌, ap, List, [], ◌∷◌, ◌++◌, length, reverse, Option, Some, common_steps, reverse-reverse, append-nil, HyperState, turn_to, value_at, hyper_next, BelongsTo, LeadOn, good_word, turn_below, next_belongs, put-good, add, minus, put_steps, put, with_steps, TellsMore, next_changed, after_word_steps, Step}
use Rattle.turn_words.proofs.Telling.{tells-steps}
use Rattle.turn_words.proofs.Reaching.{IsNextBelow, put-reached}

abbrev state-of : List ℕ → ℕ → HyperState
state-of w n = record { word = w; number = n }

-- the steps of a put lead on
pub puts-lead : (places : List ℕ) (s : HyperState) (i : ℕ) → BelongsTo places s
    → LeadOn places s i (put_steps (length places) (reverse s.word) (turn_to places s i))
puts-lead places s i b =
    let d = length places in
    let t = turn_to places s i in
    let good = good_word places s b in
    let front : (w : List ℕ) → IsNextBelow d w →
    after_word_steps d (put_steps d (reverse s.word) t) (s.word ++ (t ∷ w)) ≡ Some (reverse (put d (reverse s.word) t).word
    ++ next_changed d (put d (reverse s.word) t).change w)
    = λ w below. ap (λ u. after_word_steps d (put_steps d (reverse s.word) t) (u ++ (t ∷ w))) (sym (reverse-reverse s.word))
    ∙ put-reached d b.own.five (reverse s.word) t w good below in
    record {
      alone = front [] tt ∙ ap Some (append-nil _);
      in_front = λ turn turns below. front (turn ∷ turns) below;
    }

pub notes-put : (places : List ℕ) (s : HyperState) (i t : ℕ) (o p : Option (List Step)) → BelongsTo places s → t ≡ turn_to places s i →
    p ≡ with_steps o (put_steps (length places) (reverse s.word) t) → TellsMore (LeadOn places s i) o p
notes-put places s i t o p b turn e = grind (arith, tells-steps, puts-lead)

pub change-below : (places : List ℕ) (s : HyperState) (i t : ℕ) → BelongsTo places s → i < length places → t ≡ turn_to places s i
    → (put (length places) (reverse s.word) t).change < length places
change-below places s i t b below turn =
    let turn_fits = turn_below places s i b below in
    (put-good (length places) b.own.five (reverse s.word) t (good_word places s b) (omega arith)).1

-- the fields that a put leaves are the state that the spoke leads to
pub state-next : (places : List ℕ) (s : HyperState) (i t : ℕ) (new : List ℕ) (change number : ℕ) → t ≡ turn_to places s i →
    reverse new ≡ (put (length places) (reverse s.word) t).word → change ≡ (put (length places) (reverse s.word) t).change →
    number ≡ add (length places) (value_at places new i) (minus (length places) change) → state-of new number ≡ hyper_next places s i
state-next places s i t new change number turn left is e = grind (arith, common_steps, put)

pub belongs-next : (places : List ℕ) (s : HyperState) (i t : ℕ) (new : List ℕ) (change number : ℕ) → BelongsTo places s
    → i < length places → t ≡ turn_to places s i →
    reverse new ≡ (put (length places) (reverse s.word) t).word → change ≡ (put (length places) (reverse s.word) t).change →
    number ≡ add (length places) (value_at places new i) (minus (length places) change) → BelongsTo places (state-of new number)
belongs-next places s i t new change number b below turn left is e =
    rw (state-next places s i t new change number turn left is e) (next_belongs places s i b below)
