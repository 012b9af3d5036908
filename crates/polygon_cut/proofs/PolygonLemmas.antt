-- How labels ride along the rings: along that of tree and leftover edges they stay or rise by one, along that of the tree they stay
-- or turn.
use Rattle.polygon_cut.proofs.Common.{IsPermutationBelow, step_first, reached_step, reached_refl, reached_trans, after_steps, IsReached, Rotations, IsRotationSystem, one_up, PolygonView, side_at, label_of, turned, IsFirstLeft, IsLabelled, KindLabels, ◌≡◌, ◌⊎◌, inl, inr, ℕ, zero, suc, ◌-◌, ◌<◌, Bool, true, false, not, refl, ap, sym, ◌∙◌, subst, arith, cases_eq, both_ways, nat_tests, after_permutes, go_on, turn, twin_edge, OneOfThree, tree_one, cotree_one, left_one, after_dart, MakesOneRing}

pub one_up_below : (degree i : ℕ) → i < degree → one_up degree i < degree
one_up_below degree i l = grind (arith, nat_tests)

-- two first leftover darts at or after one dart are one
first_unique : {maps : Rotations} {ring : ℕ → ℕ} {left : ℕ → Bool} {d x y : ℕ} → IsFirstLeft maps ring left d x
    → IsFirstLeft maps ring left d y → x ≡ y
first_unique {maps} {ring} {left} {d} {x} {y} h k = grind arith

-- one step on, from a dart that is not leftover
first_moved : {maps : Rotations} {ring : ℕ → ℕ} {left : ℕ → Bool} {d x : ℕ} → left (maps.edge d) ≡ false → IsFirstLeft maps ring left d x
    → IsFirstLeft maps ring left (ring d) x
first_moved {maps} {ring} {left} {d} {x} not_left h = elim (cases_eq h.steps 0) [
  | inl none ↦
      let here : d ≡ x = sym (ap (λ (k : ℕ). after_steps ring k d) none) ∙ h.leads in
      absurd (both_ways (left (maps.edge x)) (subst (λ (z : ℕ). left (maps.edge z) ≡ false) here not_left) h.is_left)
  | inr some ↦
      let count : suc (h.steps - 1) ≡ h.steps = omega (arith, some) in
      record {
        steps = h.steps - 1;
        leads = step_first ring (h.steps - 1) d ∙ ap (λ (k : ℕ). after_steps ring k d) count ∙ h.leads;
        is_left = h.is_left;
        none_before = λ k l. subst (λ (z : ℕ). left (maps.edge z) ≡ false) (sym (step_first ring k d))
            (h.none_before (suc k) (omega arith));
      }
]

-- along the ring: a dart that is not leftover keeps the label
pub label_stays : {maps : Rotations} {ring : ℕ → ℕ} {left : ℕ → Bool} {polygon : PolygonView} → IsLabelled maps ring left polygon
    → IsPermutationBelow maps.darts ring
    → (d : ℕ) → d < maps.darts → left (maps.edge d) ≡ false → label_of polygon (ring d) ≡ label_of polygon d
label_stays {ring} {polygon} h p d l not_left =
    let one = h.first (ring d) (p.within d l) in
    let two = first_moved not_left (h.first d l) in
    let same : side_at polygon (label_of polygon (ring d)) ≡ side_at polygon (label_of polygon d) = first_unique one two in
    sym (h.own_number (label_of polygon (ring d)) (h.label_below (ring d) (p.within d l))) ∙ ap (label_of polygon) same
    ∙ h.own_number (label_of polygon d) (h.label_below d l)

-- a leftover dart is the side with the number of its label
pub is_own_side : (maps : Rotations) (ring : ℕ → ℕ) (left : ℕ → Bool) (polygon : PolygonView) → IsLabelled maps ring left polygon
    → (d : ℕ) → d < maps.darts → left (maps.edge d) ≡ true → side_at polygon (label_of polygon d) ≡ d
is_own_side maps ring left polygon h d l is =
    let here : IsFirstLeft maps ring left d d = grind arith in
    first_unique (h.first d l) here

pub label_rises : {maps : Rotations} {ring : ℕ → ℕ} {left : ℕ → Bool} {polygon : PolygonView} → IsLabelled maps ring left polygon
    → (d : ℕ) → d < maps.darts → left (maps.edge d) ≡ true → label_of polygon (ring d) ≡ one_up polygon.degree (label_of polygon d)
label_rises {maps} {ring} {left} {polygon} h d l is =
    ap (λ (x : ℕ). label_of polygon (ring x)) (sym (is_own_side maps ring left polygon h d l is))
    ∙ h.along (label_of polygon d) (h.label_below d l)

pub kind_labels : {maps : Rotations} (tree cotree : ℕ → Bool) {left : ℕ → Bool} {polygon : PolygonView} → IsRotationSystem maps
    → ((d : ℕ) → d < maps.darts → OneOfThree (tree (maps.edge d)) (cotree (maps.edge d)) (left (maps.edge d)))
    → IsLabelled maps (after_dart maps (λ e. not (cotree e))) left polygon → (d : ℕ) → d < maps.darts
    → KindLabels maps tree cotree left polygon d
kind_labels {maps} tree cotree {left} {polygon} r kinds h d l = record {
  of_tree = λ is.
      let none : cotree (maps.edge d) ≡ false = (not_others (tree (maps.edge d)) (cotree (maps.edge d)) (left (maps.edge d)) (kinds d l)).0
      is in
      let no_left : left (maps.edge d) ≡ false = (not_others (tree (maps.edge d)) (cotree (maps.edge d)) (left (maps.edge d)) (kinds d l)).1
      is in
      ap (label_of polygon) (sym (go_on maps P d (ap not none))) ∙ label_stays h p d l no_left;
  of_cotree = λ is.
      let no_left : left (maps.edge d) ≡ false = (not_others (tree (maps.edge d)) (cotree (maps.edge d)) (left (maps.edge d)) (kinds d l)).2
      is in
      ap (label_of polygon) (sym (turn maps P d (ap not is))) ∙ label_stays h p d l no_left;
  of_left = λ is.
      let none : cotree (maps.edge d) ≡ false = (not_others (tree (maps.edge d)) (cotree (maps.edge d)) (left (maps.edge d)) (kinds d l)).3
      is in
      ap (label_of polygon) (sym (go_on maps P d (ap not none))) ∙ label_rises h d l is;
}
  where
    P : ℕ → Bool
    P e = not (cotree e)

    p : IsPermutationBelow maps.darts (after_dart maps P)
    p = after_permutes maps r P

    not_others : (a b c : Bool) → OneOfThree a b c → (a ≡ true → b ≡ false) × (a ≡ true → c ≡ false) × (b ≡ true → c ≡ false)
        × (c ≡ true → b ≡ false)
    not_others a b c tree_one = (λ e. refl, λ e. refl, λ e. refl, λ e. refl)
    not_others a b c cotree_one = (λ e. absurd (both_ways false refl e), λ e. refl, λ e. refl, λ e. absurd (both_ways false refl e))
    not_others a b c left_one = (λ e. refl, λ e. absurd (both_ways false refl e), λ e. absurd (both_ways false refl e), λ e. refl)

-- along the tree's ring a dart keeps its label, and a side turns
pub label_on_tree_ring : {maps : Rotations} (tree cotree : ℕ → Bool) {left : ℕ → Bool} {polygon : PolygonView} → IsRotationSystem maps
    → ((d : ℕ) → d < maps.darts → OneOfThree (tree (maps.edge d)) (cotree (maps.edge d)) (left (maps.edge d)))
    → IsLabelled maps (after_dart maps (λ e. not (cotree e))) left polygon → (d : ℕ) → d < maps.darts
    → (label_of polygon (after_dart maps tree d) ≡ label_of polygon d)
    ⊎ (label_of polygon (after_dart maps tree d) ≡ turned maps polygon (label_of polygon d))
label_on_tree_ring {maps} tree cotree {left} {polygon} r kinds h d l =
    go (tree (maps.edge d)) (cotree (maps.edge d)) (left (maps.edge d)) (kinds d l) refl refl refl
  where
    twin : ℕ
    twin = maps.twin d

    twin_in : twin < maps.darts
    twin_in = r.twin_within d l

    here : KindLabels maps tree cotree left polygon d
    here = kind_labels tree cotree r kinds h d l

    there : KindLabels maps tree cotree left polygon twin
    there = kind_labels tree cotree r kinds h twin twin_in

    go : (a b c : Bool) → OneOfThree a b c → tree (maps.edge d) ≡ a → cotree (maps.edge d) ≡ b → left (maps.edge d) ≡ c
        → (label_of polygon (after_dart maps tree d) ≡ label_of polygon d)
        ⊎ (label_of polygon (after_dart maps tree d) ≡ turned maps polygon (label_of polygon d))
    go a b c tree_one t q s = inl (ap (label_of polygon) (go_on maps tree d t) ∙ here.of_tree t)
    go a b c cotree_one t q s = inl (ap (label_of polygon) (turn maps tree d t) ∙ here.of_cotree q)
    go a b c left_one t q s =
        let own : side_at polygon (label_of polygon d) ≡ d =
        is_own_side maps (after_dart maps (λ e. not (cotree e))) left polygon h d l s in
        let twin_left : left (maps.edge twin) ≡ true = ap left (sym (twin_edge maps r d l)) ∙ s in
        inr (
        ap (label_of polygon) (turn maps tree d t) ∙ there.of_left twin_left
        ∙ ap (λ (x : ℕ). one_up polygon.degree (label_of polygon (maps.twin x))) (sym own)
        )

-- each number below the degree is reached by turning from 0
pub turning_reaches_all : {maps : Rotations} (tree cotree : ℕ → Bool) {left : ℕ → Bool} {polygon : PolygonView} → IsRotationSystem maps
    → ((d : ℕ) → d < maps.darts → OneOfThree (tree (maps.edge d)) (cotree (maps.edge d)) (left (maps.edge d)))
    → IsLabelled maps (after_dart maps (λ e. not (cotree e))) left polygon → MakesOneRing maps tree
    → (j : ℕ) → j < polygon.degree → IsReached (turned maps polygon) 0 j
turning_reaches_all {maps} tree cotree {polygon} r kinds h ring j l =
    let some : 0 < polygon.degree = omega arith in
    let from : ℕ = side_at polygon 0 in
    let from_in : from < maps.darts = (h.side_is_left 0 some).0 in
    let reached = ring from (side_at polygon j) from_in (h.side_is_left j l).0 in
    let label : IsReached (turned maps polygon) (label_of polygon from) (label_of polygon (after_steps f reached.steps from)) =
    go reached.steps from from_in in
    let start : label_of polygon from ≡ 0 = h.own_number 0 some in
    let end : label_of polygon (after_steps f reached.steps from) ≡ j = ap (label_of polygon) reached.leads ∙ h.own_number j l in
    subst (λ (x : ℕ). IsReached (turned maps polygon) x j) start (subst (IsReached (turned maps polygon) (label_of polygon from)) end label)
  where
    f : ℕ → ℕ
    f = after_dart maps tree

    p : IsPermutationBelow maps.darts f
    p = after_permutes maps r tree

    within : (k x : ℕ) → x < maps.darts → after_steps f k x < maps.darts
    within zero x m = m
    within (suc k) x m = p.within (after_steps f k x) (within k x m)

    go : (k x : ℕ) → x < maps.darts → IsReached (turned maps polygon) (label_of polygon x) (label_of polygon (after_steps f k x))
    go zero x m = reached_refl (turned maps polygon) (label_of polygon x)
    go (suc k) x m =
        let before : IsReached (turned maps polygon) (label_of polygon x) (label_of polygon (after_steps f k x)) = go k x m in
        elim (label_on_tree_ring tree cotree r kinds h (after_steps f k x) (within k x m)) [
          | inl stays ↦ subst (IsReached (turned maps polygon) (label_of polygon x)) (sym stays) before
          | inr turns ↦
              subst (IsReached (turned maps polygon) (label_of polygon x)) (sym turns)
              (reached_trans (turned maps polygon) (label_of polygon x) (label_of polygon (after_steps f k x))
              (turned maps polygon (label_of polygon (after_steps f k x))) before
              (reached_step (turned maps polygon) (label_of polygon (after_steps f k x))))
        ]
