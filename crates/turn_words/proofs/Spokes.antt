-- A list of spokes leads to the canonical word of its turn word, and the steps that are noted along it lead there too.
use Rattle.turn_words.proofs.Common.{◌≡◌, ℕ, ◌+◌, ◌%◌, ◌==◌, ◌<◌, ◌⊎◌, arith, refl, sym, ◌∙◌, ap, Bool, true, false, not, List, [], ◌∷◌, ◌++◌, All, length, reverse, Some, eq-eqb, ne_eqb, append-nil, IsCanonicalOf, IsTurnWord, led, NotesAlong, HyperState, empty_state, value_at, turn_to, put_spoke, hyper_next, IsHyperWheel, BelongsTo, LeadOn, in-range-from, all-from, good_word, turn_below, next_belongs, length-next, hyper_starts, InRange, put-good, add-cases, minus-cases, add-lt, minus-lt, add, minus, put_steps, put, place_round, turns_after, turn_word_of, turns_from, next_changed, after_word_steps, IsWheel, Step}
use Rattle.turn_words.proofs.Reaching.{IsNextBelow, next-below, after_steps-append}
use Rattle.turn_words.proofs.Acts.{puts-lead}

place-below : (places : List ℕ) (at_vertex : Bool) (i : ℕ) → IsWheel places → i < length places
    → place_round places at_vertex i < length places
place-below places true i wheel below = wheel.inside i below
place-below places false i wheel below = below

pub turns-in-range : (places : List ℕ) (at_vertex : Bool) (last : ℕ) (spokes : List ℕ) → IsWheel places → last < length places
    → InRange (length places) spokes →
    InRange (length places) (turns_after places at_vertex last spokes)
turns-in-range places at_vertex last [] wheel below s = tt
turns-in-range places at_vertex last (i ∷ spokes) wheel below s = (
  add-lt (length places) _ _ (place-below places at_vertex i wheel s.0)
      (minus-lt (length places) _ (place-below places at_vertex last wheel below)),
  turns-in-range places (not at_vertex) i spokes wheel s.0 s.1,
)

word-in-range : (places spokes : List ℕ) → IsWheel places → InRange (length places) spokes
    → InRange (length places) (turn_word_of places spokes)
word-in-range places [] wheel s = tt
word-in-range places (i ∷ spokes) wheel s = (wheel.inside i s.0, turns-in-range places false i spokes wheel s.0 s.1)

pub turns : (places spokes : List ℕ) → IsHyperWheel places → All (λ spoke. spoke < length places) spokes
    → IsTurnWord (length places) (turn_word_of places spokes)
turns places spokes own s = grind (arith, all-from, word-in-range, in-range-from)

-- where a word stands: at the vertex or in the middle
abbrev pub Stands : List ℕ → Bool → Type 0
Stands word true = length word % 2 ≡ 0
Stands word false = length word % 2 ≡ 1

stands-is : (word : List ℕ) (at_vertex : Bool) → Stands word at_vertex → (length word % 2 == 0) ≡ at_vertex
stands-is word true e = eq-eqb (length word % 2) 0 e
stands-is word false e = ne_eqb (length word % 2) 0 (λ zero. absurd (omega arith))

-- each word stands somewhere
stands : (word : List ℕ) → Stands word (length word % 2 == 0)
stands word = grind arith

stands-value : (places word : List ℕ) (at_vertex : Bool) (i : ℕ) → Stands word at_vertex
    → value_at places word i ≡ place_round places at_vertex i
stands-value places word at_vertex i e = ap (λ a. place_round places a i) (stands-is word at_vertex e)

stands-next : (w v : List ℕ) (at_vertex : Bool) → Stands w at_vertex → (length v ≡ length w + 1) ⊎ (length v + 1 ≡ length w)
    → Stands v (not at_vertex)
stands-next w v true e h = omega arith
stands-next w v false e h = omega arith

-- the turn against the number is the turn against the last spoke, changed
turned : (d v l n : ℕ) → v < d → l < d → n < d → add d v (minus d (add d l (minus d n))) ≡ add d (add d v (minus d l)) n
turned d v l n hv hl hn = grind (arith, add-lt, minus-lt, minus-cases, add-cases)

-- a state whose number is counted from the last spoke reads the turns after it
pub record Counts (places : List ℕ) (s : HyperState) (at_vertex : Bool) (last n : ℕ) : Type 0 where
  pub belongs : BelongsTo places s
  pub stands : Stands s.word at_vertex
  pub last_below : last < length places
  pub n_below : n < length places
  pub number : s.number ≡ add (length places) (place_round places at_vertex last) (minus (length places) n)

-- the state after a spoke counts from it
pub counts-next : (places : List ℕ) (s : HyperState) (at_vertex : Bool) (i : ℕ) → BelongsTo places s → Stands s.word at_vertex
    → i < length places →
    Counts places (hyper_next places s i) (not at_vertex) i (put (length places) (reverse s.word) (turn_to places s i)).change
counts-next places s at_vertex i b stands below =
    let next_stands = stands-next s.word (hyper_next places s i).word at_vertex stands (length-next places s i b) in
    record {
      belongs = next_belongs places s i b below;
      stands = next_stands;
      last_below = below;
      n_below = (put-good (length places) b.own.five (reverse s.word) (turn_to places s i) (good_word places s b)
          (turn_below places s i b below)).1;
      number = grind (arith, put, stands-value);
    }

-- the turn after the last spoke, changed, is the turn against the number
pub counts-turn : (places : List ℕ) (s : HyperState) (at_vertex : Bool) (last n i : ℕ) → Counts places s at_vertex last n
    → i < length places →
    add (length places) (add (length places) (place_round places at_vertex i)
    (minus (length places) (place_round places at_vertex last))) n ≡ turn_to places s i
counts-turn places s at_vertex last n i c below = grind (arith, stands-value, turned, place-below)

-- the turns after the last spoke, the first of them changed, are those from the state
counts-from : (places : List ℕ) (s : HyperState) (at_vertex : Bool) (last n : ℕ) (spokes : List ℕ) → Counts places s at_vertex last n
    → InRange (length places) spokes →
    next_changed (length places) n (turns_after places at_vertex last spokes) ≡ turns_from places s spokes
counts-from places s at_vertex last n [] c range = refl
counts-from places s at_vertex last n (i ∷ spokes) c range = grind (arith, counts-turn, stands-is)

-- the steps of a spoke lead on, in front of the turns of those that come next
lead-front : (places : List ℕ) (s : HyperState) (i : ℕ) (steps : List Step) (w : List ℕ) → LeadOn places s i steps
    → IsNextBelow (length places) w →
    after_word_steps (length places) steps (s.word ++ (turn_to places s i ∷ w)) ≡ Some ((hyper_next places s i).word
    ++ next_changed (length places) (put_spoke places s i).change w)
lead-front places s i steps [] l below = l.alone ∙ ap Some (sym (append-nil (put_spoke places s i).word))
lead-front places s i steps (y ∷ w) l below = l.in_front y w below

lead-to-next : (places : List ℕ) (s : HyperState) (i : ℕ) (spokes : List ℕ) (steps : List Step) → BelongsTo places s
    → InRange (length places) (i ∷ spokes) → LeadOn places s i steps →
    after_word_steps (length places) steps (s.word ++ turns_from places s (i ∷ spokes))
    ≡ Some ((hyper_next places s i).word ++ turns_from places (hyper_next places s i) spokes)
lead-to-next places s i spokes steps b range l = grind (arith, next-below, turns-in-range, counts-next, stands, lead-front, counts-from)

-- the steps that are noted along spokes lead from the state's word, with their turns behind it, to the word of the last state
pub along : (places : List ℕ) (s : HyperState) (spokes : List ℕ) (steps : List Step) → BelongsTo places s
    → InRange (length places) spokes → NotesAlong hyper_next LeadOn places s spokes steps →
    after_word_steps (length places) steps (s.word ++ turns_from places s spokes) ≡ Some (led hyper_next places s spokes).word
along places s [] steps b range notes = rw notes (ap Some (append-nil s.word))
along places s (i ∷ spokes) steps b range notes =
    let d = length places in
    let whole = s.word ++ turns_from places s (i ∷ spokes) in
    ap (λ z. after_word_steps d z whole) notes.2
    ∙ after_steps-append d notes.0 notes.1 whole _ (lead-to-next places s i spokes notes.0 b range notes.3)
    ∙ along places (hyper_next places s i) spokes notes.1 (next_belongs places s i b range.0) range.1 notes.4

-- spokes lead each state to the canonical word of its word with their turns behind it
pub leads : (places : List ℕ) (s : HyperState) (spokes : List ℕ) → BelongsTo places s → InRange (length places) spokes
    → IsCanonicalOf (length places) (s.word ++ turns_from places s spokes) (led hyper_next places s spokes).word
leads places s [] b range = record { is_canonical = b.canonical; reached = ([], ap Some (append-nil s.word)) }
leads places s (i ∷ spokes) b range =
    let steps = put_steps (length places) (reverse s.word) (turn_to places s i) in
    let first = lead-to-next places s i spokes steps b range (puts-lead places s i b) in
    let rest = leads places (hyper_next places s i) spokes (next_belongs places s i b range.0) range.1 in
    record {
      is_canonical = rest.is_canonical;
      reached = (steps ++ rest.reached.0, after_steps-append (length places) steps rest.reached.0 _ _ first ∙ rest.reached.1);
    }

-- from the state of the empty word, the turns are the turn word
turn-word-from : (places spokes : List ℕ) → IsHyperWheel places → InRange (length places) spokes
    → turns_from places empty_state spokes ≡ turn_word_of places spokes
turn-word-from places [] own range = refl
turn-word-from places (i ∷ spokes) own range = grind (arith, minus-cases, add-cases)

pub notes-lead : (places spokes : List ℕ) (steps : List Step) → IsHyperWheel places → All (λ spoke. spoke < length places) spokes →
    NotesAlong hyper_next LeadOn places empty_state spokes steps
    → after_word_steps (length places) steps (turn_word_of places spokes) ≡ Some (led hyper_next places empty_state spokes).word
notes-lead places spokes steps own all notes =
    let range = in-range-from (length places) spokes all in grind (arith, turn-word-from, along)

pub canonical : (places spokes : List ℕ) → IsHyperWheel places → All (λ spoke. spoke < length places) spokes →
    IsCanonicalOf (length places) (turn_word_of places spokes) (led hyper_next places empty_state spokes).word
canonical places spokes own all =
    let range = in-range-from (length places) spokes all in
    rw (← turn-word-from places spokes own range) (leads places empty_state spokes (hyper_starts.belongs places own) range)
