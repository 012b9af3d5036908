-- On a full wheel the number of a state that was reached from the start belongs to its word: elementary steps lead from the turn words of
-- all lists that lead there to that word, and what these are made of, spurs and quads, keeps the state.
use Rattle.joined_loops.proofs.Common.{KeepsSteps, LeadAlike, states-keep, IsFullWheel, ◌≡◌, ℕ, ◌<◌, ◌≤◌, arith, refl, sym, ◌∙◌, ap, subst, Bool, true, false, List, [], ◌∷◌, ◌++◌, All, length, All-append, All-nil, All-cons, led-append, canonical, led, HyperState, IsEven, empty_state, hyper_next, BelongsTo, hyper_starts, hyper_stays, hyper_there_and_back, hyper_across, InRange, add-cases, minus-cases, add-lt, minus-lt, add, minus, place_round, turn_word_of, Reaches}
use Rattle.joined_loops.proofs.FullWheels.{same_lists}

module _ (d : ℕ) (five : 5 ≤ d) where
  pub take-back : (a b : ℕ) → a < d → b < d → add d a (minus d (add d a (minus d b))) ≡ b
  take-back a b ha hb = grind (arith, add-lt, minus-lt, minus-cases, add-cases)

  pub less-none : (a : ℕ) → a < d → add d a (minus d 0) ≡ a
  less-none a h = let zero_in : 0 < d = omega arith in omega (arith, minus-cases d 0 zero_in, add-cases d a (minus d 0))

  -- a number is told by a turn to it
  pub same-turn : (x y z : ℕ) → x < d → y < d → z < d → add d x (minus d z) ≡ add d y (minus d z) → x ≡ y
  same-turn x y z hx hy hz e = omega (arith, minus-cases d z hz, add-cases d x (minus d z), add-cases d y (minus d z))

-- a spoke is told by its place
pub by-round : (places : List ℕ) → IsFullWheel places → (v : Bool) (i j : ℕ) → i < length places → j < length places →
    place_round places v i ≡ place_round places v j → i ≡ j
by-round places full true i j hi hj e = full.own.wheel.once i j hi hj e
by-round places full false i j hi hj e = e

-- lists that lead each state alike
abbrev pub Alike : List ℕ → Bool → List ℕ → List ℕ → Type 0
Alike places = LeadAlike BelongsTo IsEven (λ s. length s.word) hyper_next hyper_stays hyper_there_and_back hyper_across places

pub alike-keep : (places : List ℕ) → KeepsSteps places (Alike places)
alike-keep places = states-keep BelongsTo IsEven (λ s. length s.word) hyper_next hyper_stays hyper_there_and_back hyper_across places

-- lists of spokes that lead from the start to one word lead to one state
pub one-state : (places first second : List ℕ) → IsFullWheel places → All (λ spoke. spoke < length places) first →
    All (λ spoke. spoke < length places) second →
    (led hyper_next places empty_state first).word ≡ (led hyper_next places empty_state second).word →
    led hyper_next places empty_state first ≡ led hyper_next places empty_state second
one-state places first second full below other_below e =
    let word : List ℕ = (led hyper_next places empty_state second).word in
    let one : Reaches (length places) (turn_word_of places first) word =
    subst (Reaches (length places) (turn_word_of places first)) e (canonical places first full.own below).reached in
    let alike : Alike places true first second =
    same_lists places full (Alike places) (alike-keep places) first second word below other_below one
    (canonical places second full.own other_below).reached in
    alike empty_state (record { belongs = hyper_starts.belongs places full.own; vertex = refl })

-- a state that spokes lead to from the start
pub record Reached (places : List ℕ) (s : HyperState) : Type 0 where
  pub spokes : List ℕ
  pub below : All (λ spoke. spoke < length places) spokes
  pub is : s ≡ led hyper_next places empty_state spokes

pub start-reached : (places : List ℕ) → Reached places empty_state
start-reached places = record { spokes = []; below = All-nil (λ spoke. spoke < length places); is = refl }

pub next-reached : (places : List ℕ) (s : HyperState) (i : ℕ) → Reached places s → i < length places →
    Reached places (hyper_next places s i)
next-reached places s i h i_in = record {
  spokes = h.spokes ++ i ∷ [];
  below = All-append (λ spoke. spoke < length places) h.spokes (i ∷ []) h.below
      (All-cons (λ spoke. spoke < length places) i [] i_in (All-nil (λ spoke. spoke < length places)));
  is = ap (λ t. hyper_next places t i) h.is ∙ sym (led-append hyper_next places empty_state h.spokes (i ∷ []));
}

pub led-reached : (places : List ℕ) (s : HyperState) (spokes : List ℕ) → Reached places s → InRange (length places) spokes →
    Reached places (led hyper_next places s spokes)
led-reached places s [] h i = h
led-reached places s (x ∷ spokes) h i = led-reached places (hyper_next places s x) spokes (next-reached places s x h i.0) i.1

-- reached states of one word have one number
pub one-number : (places : List ℕ) → IsFullWheel places → (s t : HyperState) → Reached places s → Reached places t → s.word ≡ t.word →
    s.number ≡ t.number
one-number places full s t h k e = grind (arith, one-state)
