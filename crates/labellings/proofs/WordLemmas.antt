-- The word of a walk, from the state to which the spokes of the walk lead.
use Rattle.labellings.proofs.Common.{flat_next, Vector, origin, IsGood, LabellingView, quad_path, IsWordOf, ◌≡◌, ℕ, ◌≤◌, List, sym, ◌∙◌, subst, ℤ, FaceList, canonical, IsCanonicalOf, led, empty_state, hyper_next, turn_word_of, Turns, Flat}
use Rattle.labellings.proofs.WalkWordLemmas.{quad_path_below, quad_path_leads_to_sum, hyper_wheel_of_good}

-- for five spokes or more, the state to which the spokes lead has the word
pub turns_word : (mesh : FaceList) (labelling : LabellingView) (walk word : List ℕ) → IsGood mesh labelling → 5 ≤ labelling.degree
    → word ≡ (led hyper_next labelling.places empty_state (quad_path mesh labelling walk)).word → IsWordOf mesh labelling walk (Turns word)
turns_word mesh labelling walk word good five e =
    let path : List ℕ = quad_path mesh labelling walk in (
      five,
      subst (λ (w : List ℕ). IsCanonicalOf labelling.degree (turn_word_of labelling.places path) w) (sym e)
          (subst (λ n. IsCanonicalOf n (turn_word_of labelling.places path) (led hyper_next labelling.places empty_state path).word)
          good.shape.each_spoke
          (canonical labelling.places path (hyper_wheel_of_good mesh labelling good five) (quad_path_below mesh labelling good walk))),
    )

abbrev pub vector : ℤ → ℤ → Vector
vector x y = record { x = x; y = y }

-- for four, the point to which they lead is the word
pub flat_word : (mesh : FaceList) (labelling : LabellingView) (walk : List ℕ) (x y : ℤ) → labelling.degree ≡ 4
    → vector x y ≡ led flat_next labelling.places origin (quad_path mesh labelling walk) → IsWordOf mesh labelling walk (Flat x y)
flat_word mesh labelling walk x y four e = (four, e ∙ quad_path_leads_to_sum mesh labelling walk)
