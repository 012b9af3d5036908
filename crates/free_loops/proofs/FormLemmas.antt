-- The cyclic form of a closed walk, by way of its canonical word: elementary steps lead from the turn word of the quad path to that
-- word, so loop steps lead from the quad path to the word's spokes.
use Rattle.free_loops.proofs.Common.{IsCyclicFormOf, quad_path_below, IsGood, LabellingView, quad_path, IsWordOf, leads-on, IsLoop, IsFullWheel, IsCyclicallyCanonical, LoopLeads, ◌≡◌, ℕ, ◌%◌, ◌<◌, List, length, ap, sym, ◌∙◌, subst, All, FaceList, led, turn_word_of, Reaches, Turns}
use Rattle.joined_loops.proofs.Going.{led-even}
use Rattle.turn_words.proofs.Spokes.{turns, canonical}
use Rattle.turn_words.proofs.Unique.{unique}
use Rattle.turn_words.specs.Canonical.{IsCanonicalOf}
use Rattle.turn_words.specs.HyperStates.{IsEven, empty_state, hyper_next}
use Rattle.turn_words.specs.Lemmas.HyperLaws.{hyper_starts}
use Rattle.free_loops.proofs.ClosedLoopLemmas.{even_path}
use Rattle.free_loops.proofs.SpellingLemmas.{as_many}
use Rattle.free_loops.proofs.WordStepLemmas.{reached_leads}

module _ (mesh : FaceList) (labelling : LabellingView) (good : IsGood mesh labelling) (full : IsFullWheel labelling.places) where
  word_over_places : (walk word : List ℕ) → IsWordOf mesh labelling walk (Turns word)
      → IsCanonicalOf (length labelling.places) (turn_word_of labelling.places (quad_path mesh labelling walk)) word
  word_over_places walk word h =
      subst (λ n. IsCanonicalOf n (turn_word_of labelling.places (quad_path mesh labelling walk)) word) (sym good.shape.each_spoke) h.1

  even_word : (walk word : List ℕ) → IsWordOf mesh labelling walk (Turns word) → length word % 2 ≡ 0
  even_word walk word h =
      let places : List ℕ = labelling.places in
      let path : List ℕ = quad_path mesh labelling walk in
      let below : All (λ i. i < length places) path = quad_path_below mesh labelling good walk in
      let state : IsEven (led hyper_next places empty_state path) =
      led-even places empty_state path (hyper_starts.belongs places full.own) hyper_starts.at_vertex
      (record { below = below; even = even_path mesh labelling walk }) in
      let is : word ≡ (led hyper_next places empty_state path).word =
      unique (length places) (turn_word_of places path) word (led hyper_next places empty_state path).word
      (turns places path full.own below) (word_over_places walk word h) (canonical places path full.own below) in
      subst (λ (w : List ℕ). length w % 2 ≡ 0) (sym is) state

  pub spelled_loop : (walk word path : List ℕ) → IsWordOf mesh labelling walk (Turns word) → All (λ i. i < length labelling.places) path
      → turn_word_of labelling.places path ≡ word → IsLoop labelling.places path
  spelled_loop walk word path h below is =
      let long : length word ≡ length path = ap length (sym is) ∙ as_many labelling.places path in
      record { below = below; even = subst (λ n. n % 2 ≡ 0) long (even_word walk word h) }

  pub cyclic_form_is : (walk word path form : List ℕ) → IsWordOf mesh labelling walk (Turns word)
      → All (λ i. i < length labelling.places) path → turn_word_of labelling.places path ≡ word
      → IsLoop labelling.places form → IsCyclicallyCanonical labelling.places form → LoopLeads labelling.places path form
      → IsCyclicFormOf mesh labelling walk form
  cyclic_form_is walk word path form h below is loop canonical leads =
      let places : List ℕ = labelling.places in
      let quad : List ℕ = quad_path mesh labelling walk in
      let reached : Reaches (length places) (turn_word_of places quad) (turn_word_of places path) =
      subst (Reaches (length places) (turn_word_of places quad)) (sym is) (word_over_places walk word h).reached in
      record {
        loop = loop;
        leads = leads-on places quad path form
            (reached_leads places full quad path (quad_path_below mesh labelling good walk) below reached) leads;
        canonical = canonical;
      }
