-- Spokes put one after another, in two lists.
use Rattle.turn_words.proofs.Common.{◌≡◌, ℕ, refl, sym, ◌∙◌, ap, List, [], ◌∷◌, ◌++◌, append_assoc, append-nil, led, NotesAlong, Step}

module _ {State : Type 0} (next : List ℕ → State → ℕ → State) (places : List ℕ) where
  -- where two lists lead, one put after the other
  pub led-append : (s : State) (first second : List ℕ) → led next places s (first ++ second) ≡ led next places (led next places s first)
      second
  led-append s [] second = refl
  led-append s (spoke ∷ first) second = led-append (next places s spoke) first second

  -- what they note
  pub notes-append : (Notes : List ℕ → State → ℕ → List Step → Type 0) (s : State) (first second : List ℕ) (a b : List Step) →
      NotesAlong next Notes places s first a → NotesAlong next Notes places (led next places s first) second b
      → NotesAlong next Notes places s (first ++ second) (a ++ b)
  notes-append Notes s [] second a b none more = rw none more
  notes-append Notes s (spoke ∷ first) second a b notes more = (
    notes.0,
    notes.1 ++ b,
    ap (λ steps. steps ++ b) notes.2 ∙ append_assoc notes.0 notes.1 b,
    notes.3,
    notes-append Notes (next places s spoke) first second notes.1 b notes.4 more,
  )
