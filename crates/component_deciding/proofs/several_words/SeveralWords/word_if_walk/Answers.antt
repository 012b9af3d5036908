use Rattle.component_deciding.proofs.Common.{IsOwnLabelled, IsWordAmong, SeveralView, labelled_at, unboxed, ◌≡◌, ◌<◌, ℕ, length, get_or, set, get_or-set_same, sym, ◌∙◌, ap, subst, arith, both_ways, get_or_read, IfOk-weaker, None, Some, IsWordFound}
use Rattle.component_deciding.proofs.WordLemmas.{IsLabelledMore, labelled_more, sphere_found, word_found, words_stay}
use Rattle.component_deciding.proofs.several_words.SeveralWords.word_if_walk.Goals.{After-drop-own-inside-2}
use Rattle.component_deciding.proofs.several_words.SeveralWords.word_if_walk.Goals as goal

pub returns-then-is_sphere-clause-word : goal.returns-then-is_sphere-clause-word
returns-then-is_sphere-clause-word c =
    let apart = c.self.inside.apart in
    let place : ℕ = c.in-Some.place in
    let at : get_or apart.parts.places (get_or c.args.walk.now 0 0) 0 ≡ place =
    ap (λ (v : ℕ). get_or apart.parts.places v 0) (sym c.at.ensures) ∙ c.in-Some.ensures.1 in
    let within : place < length apart.parts.components =
    omega (arith, c.in-Some.ensures.1, c.self.invariant.apart.parts.places.below c.at.result.0 c.in-Some.ensures.0) in
    subst (λ (s : SeveralView). IsWordFound s.apart.mesh.faces (IsWordAmong s) c.args.walk.now c.word_on_sphere.result) c.self.view_is
    (sphere_found (record { apart = apart; labelled = c.self.inside.labelled.items }) place c.args.walk.now c.word_on_sphere.result
    c.self.invariant within at (c.is_sphere.ensures.0 c.if-is_sphere.true) c.word_on_sphere.ensures)

pub returns-in-Some-index-clause-word : goal.returns-in-Some-index-clause-word
returns-in-Some-index-clause-word c =
    let apart = c.self.inside.apart in
    let walk = c.args.walk.now in
    let place : ℕ = c.in-Some.place in
    let labels = c.self.inside.labelled.items in
    let several : SeveralView = record { apart = apart; labelled = labels } in
    let at : get_or apart.parts.places (get_or walk 0 0) 0 ≡ place =
    ap (λ (v : ℕ). get_or apart.parts.places v 0) (sym c.at.ensures) ∙ c.in-Some.ensures.1 in
    let within : place < length apart.parts.components =
    omega (arith, c.in-Some.ensures.1, c.self.invariant.apart.parts.places.below c.at.result.0 c.in-Some.ensures.0) in
    let inside : place < length labels = subst (λ (n : ℕ). place < n) (sym c.self.invariant.each) within in
    let there : labelled_at several place ≡ Some c.deref.result.now =
    ap unboxed (sym (get_or_read labels place c.index.result.now inside c.index.ensures None) ∙ c.in-Some-index.is)
    ∙ ap Some (sym c.deref.ensures) in
    let here = rw c.in-Some-2.is at c.in_ok-own.ensures in
    IfOk-weaker c.word_if_walk.result _ _
    (λ found told.
    subst (λ (s : SeveralView). IsWordFound s.apart.mesh.faces (IsWordAmong s) walk found) c.self.view_is
    (word_found several place c.deref.result.now walk c.in-Some-2.own found c.self.invariant within at here there told))
    c.word_if_walk.ensures

-- the labels that are kept are those of the component
own_labels : (c : After-drop-own-inside-2) → IsOwnLabelled c.self.inside.apart c.in-Some.place c.in_ok-kept.kept.value
own_labels c =
    subst (IsOwnLabelled c.self.inside.apart c.in-Some.place) (sym c.in_ok-kept.ensures.ok) (record {
      labels = c.in_ok-labelled.ensures.labels;
      mesh = c.in_ok-labelled.ensures.mesh;
      no_sphere = λ sphere. both_ways c.is_sphere.result c.if-is_sphere.false (c.is_sphere.ensures.1 sphere);
    })

within : (c : After-drop-own-inside-2) → c.in-Some.place < length c.self.inside.apart.parts.components
within c = omega (arith, c.in-Some.ensures.1, c.self.invariant.apart.parts.places.below c.at.result.0 c.in-Some.ensures.0)

-- it alone has got labels
more : (c : After-drop-own-inside-2) → IsLabelledMore c.in-Some.place
    (record { apart = c.self.inside.apart; labelled = c.self.inside.labelled.items })
    (record { apart = c.self.inside.apart; labelled = set c.self.inside.labelled.items c.in-Some.place (Some c.in_ok-kept.kept) })
more c =
    let labels = c.self.inside.labelled.items in
    let inside : c.in-Some.place < length labels = subst (λ (n : ℕ). c.in-Some.place < n) (sym c.self.invariant.each) (within c) in
    labelled_more c.self.inside.apart labels c.in-Some.place c.in_ok-kept.kept c.self.invariant (within c)
    (sym (get_or_read labels c.in-Some.place c.index.result.now inside c.index.ensures None) ∙ c.in_default-index.is) (own_labels c)

pub invariant_of-self : goal.invariant_of-self
invariant_of-self c = (more c).labelled

pub returns-clause-kept : goal.returns-clause-kept
returns-clause-kept c = λ other word is.
    words_stay (record { apart = c.self.inside.apart; labelled = c.self.inside.labelled.items })
    (record { apart = c.self.inside.apart; labelled = set c.self.inside.labelled.items c.in-Some.place (Some c.in_ok-kept.kept) })
    c.in-Some.place other word (more c) (own_labels c).no_sphere
    (subst (λ (s : SeveralView). IsWordAmong s other word) (sym c.self.view_is) is)

pub returns-clause-word : goal.returns-clause-word
returns-clause-word c =
    let apart = c.self.inside.apart in
    let walk = c.args.walk.now in
    let place : ℕ = c.in-Some.place in
    let labels = c.self.inside.labelled.items in
    let next : SeveralView = record { apart = apart; labelled = set labels place (Some c.in_ok-kept.kept) } in
    let at : get_or apart.parts.places (get_or walk 0 0) 0 ≡ place =
    ap (λ (v : ℕ). get_or apart.parts.places v 0) (sym c.at.ensures) ∙ c.in-Some.ensures.1 in
    let inside : place < length labels = subst (λ (n : ℕ). place < n) (sym c.self.invariant.each) (within c) in
    let there : labelled_at next place ≡ Some c.in_ok-labelled.labelled =
    ap unboxed (get_or-set_same labels place (Some c.in_ok-kept.kept) None inside) ∙ ap Some c.in_ok-kept.ensures.ok in
    let here = rw c.in-Some-2.is at c.in_ok-own.ensures in
    IfOk-weaker c.word_if_walk-found.result _ _
    (λ found told.
    subst (λ (s : SeveralView). IsWordFound s.apart.mesh.faces (IsWordAmong next) walk found) c.self.view_is
    (word_found next place c.in_ok-labelled.labelled walk c.in-Some-2.own found (more c).labelled (within c) at here there told))
    c.word_if_walk-found.ensures
