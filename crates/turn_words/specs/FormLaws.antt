-- What each form keeps to. A wheel is its list of places, and `next places state spoke` is the state that a spoke put
-- last leads to.
use Rattle.std.specs.Prelude.{◌≡◌, ℕ, ◌+◌, ◌<◌, ◌≤◌, List, [], ◌∷◌, ◌++◌, length, slice_index}
use Rattle.turn_words.specs.Modulo.{add, minus}
use Rattle.turn_words.specs.declared.step.Step.{Step}

-- the spokes `a, a + 1` and the spokes `c + 1, c` are the two sides of a quad
pub record IsQuad (places : List ℕ) (a c : ℕ) : Type 0 where
  pub a_below : a < length places
  pub c_below : c < length places
  pub a_place : slice_index places (add (length places) c 1) ≡ add (length places) (slice_index places a) (minus (length places) 1)
  pub c_place : slice_index places (add (length places) a 1) ≡ add (length places) (slice_index places c) (minus (length places) 1)

-- the state of the empty word belongs to each wheel of the form, and is at the vertex
pub record StartsWell {State : Type 0} (IsOwn : List ℕ → Type 0) (Belongs : List ℕ → State → Type 0) (IsAtVertex : State → Type 0)
    (size : State → ℕ) (empty : State) : Type 0 where
  pub belongs : (places : List ℕ) → IsOwn places → Belongs places empty
  pub at_vertex : IsAtVertex empty
  pub size_zero : size empty ≡ 0

-- a spoke leads to a state of the same wheel, two spokes lead from the vertex to the vertex, and a spoke adds one at
-- most to the size
pub record StaysWell {State : Type 0} (Belongs : List ℕ → State → Type 0) (IsAtVertex : State → Type 0) (size : State → ℕ)
    (next : List ℕ → State → ℕ → State) : Type 0 where
  pub belongs : (places : List ℕ) (s : State) (i : ℕ) → Belongs places s → i < length places → Belongs places (next places s i)
  pub at_vertex : (places : List ℕ) (s : State) (i j : ℕ) → Belongs places s → IsAtVertex s → i < length places → j < length places
      → IsAtVertex (next places (next places s i) j)
  pub size_grows : (places : List ℕ) (s : State) (i : ℕ) → Belongs places s → i < length places → size (next places s i) ≤ size s + 1

-- the first law: a spoke put twice in a row gives the state back
abbrev pub ThereAndBack : {State : Type 0} → (List ℕ → State → Type 0) → (List ℕ → State → ℕ → State) → Type 0
ThereAndBack {State} Belongs next =
    (places : List ℕ) (s : State) (i : ℕ) → Belongs places s → i < length places → next places (next places s i) i ≡ s

-- the second law: from the vertex, the two sides of a quad give equal states
abbrev pub AcrossQuads : {State : Type 0} → (List ℕ → State → Type 0) → (State → Type 0) → (List ℕ → State → ℕ → State) → Type 0
AcrossQuads {State} Belongs IsAtVertex next =
    (places : List ℕ) (s : State) (a c : ℕ) → Belongs places s → IsAtVertex s → IsQuad places a c →
    next places (next places s a) (add (length places) a 1) ≡ next places (next places s (add (length places) c 1)) c

-- where a list of spokes, put one after another, leads a state
abbrev pub led : {State : Type 0} → (List ℕ → State → ℕ → State) → List ℕ → State → List ℕ → State
led next places s [] = s
led next places s (spoke ∷ spokes) = led next places (next places s spoke) spokes

-- the steps that are noted where a list of spokes is put: those of the first spoke, and then those of the others.
-- `Notes places s spoke steps` holds of the steps that one spoke may note
abbrev pub NotesAlong : {State : Type 0} → (List ℕ → State → ℕ → State) → (List ℕ → State → ℕ → List Step → Type 0)
    → List ℕ → State → List ℕ → List Step → Type 0
NotesAlong next Notes places s [] steps = steps ≡ []
NotesAlong next Notes places s (spoke ∷ spokes) steps =
    (first : List Step) × (later : List Step) × (steps ≡ first ++ later) × Notes places s spoke first
    × NotesAlong next Notes places (next places s spoke) spokes later
