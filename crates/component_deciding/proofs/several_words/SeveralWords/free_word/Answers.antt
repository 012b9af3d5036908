use Rattle.component_deciding.proofs.Common.{IsClosedWalk, IsFreeAmong, IsOwnLabelled, SeveralView, labelled_at, unboxed, own_mesh, ◌≡◌, ◌<◌, ℕ, List, length, set, get_or-set_same, sym, ap, ◌∙◌, subst, both_ways, get_or_read, None, Some, component_mesh}
use Rattle.component_deciding.proofs.FreeComponents.{StartsIn, own_closed_walk, place_within, start_below, starts_in}
use Rattle.component_deciding.proofs.FreeTold.{free_found}
use Rattle.component_deciding.proofs.WordLemmas.{IsLabelledMore, free_words_stay, labelled_more, own_labels}
use Rattle.component_deciding.proofs.several_words.SeveralWords.free_word.Goals as goal
use Rattle.component_deciding.proofs.several_words.SeveralWords.free_word.Goals.{After-part_of-place, After-deref, In_ok-kept}

-- what is said of the view, of what is inside
inside : (old view : SeveralView) (walk : List ℕ) → old ≡ view → IsClosedWalk view.apart.mesh.faces walk
    → IsClosedWalk old.apart.mesh.faces walk
inside old view walk e closed = subst (λ (s : SeveralView). IsClosedWalk s.apart.mesh.faces walk) (sym e) closed

pub part_of-place-requires : goal.part_of-place-requires
part_of-place-requires c =
    start_below c.self.inside.apart c.at.result.0 c.args.walk.now c.self.invariant.apart
    (inside _ _ c.args.walk.now c.self.view_is c.requires) c.at.ensures

here : (c : After-part_of-place) → StartsIn c.self.inside.apart c.part_of-place.result c.args.walk.now
here c =
    starts_in c.self.inside.apart c.part_of-place.result c.at.result.0 c.args.walk.now
    (inside _ _ c.args.walk.now c.self.view_is c.requires) c.at.ensures (sym c.part_of-place.ensures)

within : (c : After-part_of-place) → c.part_of-place.result < length c.self.inside.apart.parts.components
within c = place_within c.self.inside.apart c.part_of-place.result c.args.walk.now c.self.invariant.apart (here c)

inside_labels : (c : After-part_of-place) → c.part_of-place.result < length c.self.inside.labelled.items
inside_labels c = subst (λ (n : ℕ). c.part_of-place.result < n) (sym c.self.invariant.each) (within c)

-- the labels in the slot are those of the component
slot : (c : After-deref) → labelled_at (record { apart = c.self.inside.apart; labelled = c.self.inside.labelled.items })
    c.part_of-place.result ≡ Some c.deref.result.now
slot c =
    ap unboxed (sym (get_or_read c.self.inside.labelled.items c.part_of-place.result c.index.result.now
    (inside_labels (goal.at.After-deref c).After-part_of-place) c.index.ensures None) ∙ c.in-Some-index.is)
    ∙ ap Some (sym c.deref.ensures)

own : (c : After-deref) → c.deref.result.now.surface.mesh
    ≡ own_mesh (component_mesh c.self.inside.apart.mesh.faces c.self.inside.apart.parts c.part_of-place.result)
own c =
    (own_labels (record { apart = c.self.inside.apart; labelled = c.self.inside.labelled.items }) c.part_of-place.result
    c.deref.result.now c.self.invariant (within (goal.at.After-deref c).After-part_of-place) (slot c)).mesh

pub free_word_on-requires : goal.free_word_on-requires
free_word_on-requires c =
    let at = goal.at.free_word_on-requires c in
    let walk = rw c.in-Some.is at c.in_ok-own.ensures in
    rw (own at.After-deref, walk.by_number)
    (own_closed_walk c.self.inside.apart c.part_of-place.result c.self.invariant.apart (within at.After-part_of-place) c.args.walk.now
    (here at.After-part_of-place))

pub free_word_on-found-requires : goal.free_word_on-found-requires
free_word_on-found-requires c =
    let at = goal.at.free_word_on-found-requires c in
    let walk = rw c.in-Some.is at c.in_ok-own.ensures in
    rw (c.in_ok-labelled.ensures.mesh, walk.by_number)
    (own_closed_walk c.self.inside.apart c.part_of-place.result c.self.invariant.apart (within at.After-part_of-place) c.args.walk.now
    (here at.After-part_of-place))

-- the labels that are kept are those of the component, and it alone has got labels
kept_labels : (c : In_ok-kept) → IsOwnLabelled c.self.inside.apart c.part_of-place.result c.in_ok-kept.kept.value
kept_labels c =
    subst (IsOwnLabelled c.self.inside.apart c.part_of-place.result) (sym c.in_ok-kept.ensures.ok) (record {
      labels = c.in_ok-labelled.ensures.labels;
      mesh = c.in_ok-labelled.ensures.mesh;
      no_sphere = λ sphere. both_ways c.is_sphere.result c.if-is_sphere.false (c.is_sphere.ensures.1 sphere);
    })

more : (c : In_ok-kept) → IsLabelledMore c.part_of-place.result
    (record { apart = c.self.inside.apart; labelled = c.self.inside.labelled.items })
    (record { apart = c.self.inside.apart; labelled = set c.self.inside.labelled.items c.part_of-place.result (Some c.in_ok-kept.kept) })
more c =
    let labels = c.self.inside.labelled.items in
    let there = (goal.at.In_ok-kept c).After-part_of-place in
    labelled_more c.self.inside.apart labels c.part_of-place.result c.in_ok-kept.kept c.self.invariant (within there)
    (sym (get_or_read labels c.part_of-place.result c.index.result.now (inside_labels there) c.index.ensures None)
    ∙ c.in_default-index.is) (kept_labels c)

pub invariant_of-self : goal.invariant_of-self
invariant_of-self c = (more (goal.at.invariant_of-self c).In_ok-kept).labelled

pub returns-clause-kept : goal.returns-clause-kept
returns-clause-kept c =
    let at = (goal.at.returns-clause-kept c).In_ok-kept in
    λ other placed is.
    free_words_stay (record { apart = c.self.inside.apart; labelled = c.self.inside.labelled.items })
    (record { apart = c.self.inside.apart; labelled = set c.self.inside.labelled.items c.part_of-place.result (Some c.in_ok-kept.kept) })
    c.part_of-place.result other placed (more at) (kept_labels at).no_sphere
    (subst (λ (s : SeveralView). IsFreeAmong s other placed) (sym c.self.view_is) is)

pub returns-clause-word : goal.returns-clause-word
returns-clause-word c =
    let at = (goal.at.returns-clause-word c).In_ok-kept in
    let start = (goal.at.In_ok-kept at).After-part_of-place in
    let labels = c.self.inside.labelled.items in
    let place : ℕ = c.part_of-place.result in
    let next : SeveralView = record { apart = c.self.inside.apart; labelled = set labels place (Some c.in_ok-kept.kept) } in
    let there : labelled_at next place ≡ Some c.in_ok-labelled.labelled =
    ap unboxed (get_or-set_same labels place (Some c.in_ok-kept.kept) None (inside_labels start)) ∙ ap Some c.in_ok-kept.ensures.ok in
    free_found next place c.in_ok-labelled.labelled c.args.walk.now c.in-Some.own c.free_word_on-found.result (here start)
    (rw c.in-Some.is at c.in_ok-own.ensures) there c.free_word_on-found.ensures.place c.free_word_on-found.ensures.word
