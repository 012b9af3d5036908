-- Values of darts in a group, where each face has the value one: each dart has the value of two spokes, those of the labels at its
-- tail and at its head. First the tree and leftover edges, then the cotree, from its leaves up to the root face.
use Rattle.polygon_cut.proofs.Common.{step_first, rotation_system, darts_of, after_steps, OrientedMesh, IsOrientedSurface, Rotations, rotations_of, IsRotationSystem, ◌≡◌, ◌≢◌, ◌⊎◌, inl, inr, ℕ, zero, suc, ◌+◌, ◌<◌, ◌≤◌, Bool, true, List, ◌∷◌, length, refl, ap, sym, ◌∙◌, subst, arith, cases_eq, both_ways, Option, Some, None, IsPath, one_of_three, OneOfThree, tree_one, cotree_one, left_one, faces_upward, few_up, no_loop, SplitView, IsSplit, in_tree, in_cotree, is_left, below_edge, IsStepUp, StepsUp}
use Rattle.polygon_cut.proofs.GroupLemmas.{IsGroup, quotient, inverse_of_quotient, middle, left_factor}

-- the product of the values of k darts round a face
abbrev pub round : {X : Type 0} → (X → X → X) → X → (ℕ → X) → (ℕ → ℕ) → ℕ → ℕ → X
round mul one val next zero d = one
round mul one val next (suc k) d = mul (val d) (round mul one val next k (next d))

-- a dart with the whole round of its face, whose value is one
pub record WholeRound {X : Type 0} (Same : X → X → Type 0) (mul : X → X → X) (one : X) (val : ℕ → X) (next : ℕ → ℕ) (d : ℕ) : Type 0 where
  pub less : ℕ
  pub closes : after_steps next less (next d) ≡ d
  pub first : (k : ℕ) → k < less → after_steps next k (next d) ≢ d
  pub is_one : Same (round mul one val next (suc less) d) one

-- the value that the labels give
abbrev pub by_labels : {X : Type 0} → (X → X → X) → (X → X) → (ℕ → X) → (ℕ → ℕ) → (ℕ → ℕ) → ℕ → X
by_labels mul inv spoke label next d = quotient mul inv (spoke (label d)) (spoke (label (next d)))

-- labels telescope
pub telescopes : {X : Type 0} {Same : X → X → Type 0} {mul : X → X → X} {inv : X → X} {one : X} → IsGroup Same mul inv one
    → (val spoke : ℕ → X) (label next : ℕ → ℕ)
    → (k d : ℕ) → ((j : ℕ) → j < k → Same (val (after_steps next j d)) (by_labels mul inv spoke label next (after_steps next j d)))
    → Same (round mul one val next k d) (quotient mul inv (spoke (label d)) (spoke (label (after_steps next k d))))
telescopes {mul} {inv} {one} g val spoke label next zero d h = grind arith
telescopes {Same} {mul} {inv} {one} g val spoke label next (suc k) d h =
    let rest : Same (round mul one val next k (next d))
    (quotient mul inv (spoke (label (next d))) (spoke (label (after_steps next k (next d))))) =
    telescopes g val spoke label next k (next d)
    (λ j l. subst (λ x. Same (val x) (by_labels mul inv spoke label next x)) (sym (step_first next j d)) (h (suc j) (omega arith))) in
    let joined : Same (mul (val d) (round mul one val next k (next d)))
    (mul (by_labels mul inv spoke label next d) (quotient mul inv (spoke (label (next d))) (spoke (label (after_steps next k (next d)))))) =
    g.mul_same (val d) (by_labels mul inv spoke label next d) (round mul one val next k (next d))
    (quotient mul inv (spoke (label (next d))) (spoke (label (after_steps next k (next d))))) (h 0 (omega arith)) rest in
    let whole = g.on (mul (val d) (round mul one val next k (next d)))
    (mul (by_labels mul inv spoke label next d) (quotient mul inv (spoke (label (next d))) (spoke (label (after_steps next k (next d))))))
    (quotient mul inv (spoke (label d)) (spoke (label (after_steps next k (next d))))) joined
    (middle g (spoke (label d)) (spoke (label (next d))) (spoke (label (after_steps next k (next d))))) in
    subst (λ x. Same (mul (val d) (round mul one val next k (next d))) (quotient mul inv (spoke (label d)) (spoke (label x))))
    (step_first next k d) whole

-- the value of the last dart of a face follows from those of the others
pub last_of_face : {X : Type 0} (Same : X → X → Type 0) (mul : X → X → X) (inv : X → X) (one : X) → IsGroup Same mul inv one
    → (val spoke : ℕ → X) (label next : ℕ → ℕ)
    → (d : ℕ) → WholeRound Same mul one val next d
    → ((k : ℕ) → after_steps next k (next d) ≢ d
    → Same (val (after_steps next k (next d))) (by_labels mul inv spoke label next (after_steps next k (next d))))
    → Same (val d) (by_labels mul inv spoke label next d)
last_of_face Same mul inv one g val spoke label next d w others =
    let rest : Same (round mul one val next w.less (next d))
    (quotient mul inv (spoke (label (next d))) (spoke (label (after_steps next w.less (next d))))) =
    telescopes g val spoke label next w.less (next d) (λ j l. others j (w.first j l)) in
    let closed : Same (round mul one val next w.less (next d)) (quotient mul inv (spoke (label (next d))) (spoke (label d))) =
    subst (λ x. Same (round mul one val next w.less (next d)) (quotient mul inv (spoke (label (next d))) (spoke (label x)))) w.closes
    rest in
    let product : Same (mul (val d) (quotient mul inv (spoke (label (next d))) (spoke (label d)))) one =
    g.on (mul (val d) (quotient mul inv (spoke (label (next d))) (spoke (label d)))) (round mul one val next (suc w.less) d) one
    (g.mul_same (val d) (val d) (quotient mul inv (spoke (label (next d))) (spoke (label d))) (round mul one val next w.less (next d))
    (g.itself (val d))
    (g.turn (round mul one val next w.less (next d)) (quotient mul inv (spoke (label (next d))) (spoke (label d))) closed)) w.is_one in
    left_factor g (val d) (spoke (label (next d))) (spoke (label d)) product

-- What is known of the values of a surface's darts: twins have inverse values, each face has the value one, tree darts have it, and
-- leftover darts have the value of their labels, but for the last side, which lies in the root face.
pub record Valued {X : Type 0} (Same : X → X → Type 0) (mul : X → X → X) (inv : X → X) (one : X) (s : OrientedMesh) (split : SplitView)
    (val spoke : ℕ → X) (label : ℕ → ℕ) (last : ℕ) : Type 0 where
  pub twins : (d : ℕ) → d < darts_of s → Same (val ((rotations_of s).twin d)) (inv (val d))
  pub faces : (d : ℕ) → d < darts_of s → WholeRound Same mul one val (rotations_of s).next d
  pub of_tree : (d : ℕ) → d < darts_of s → in_tree split ((rotations_of s).edge d) ≡ true → label ((rotations_of s).next d) ≡ label d
  pub of_cotree : (d : ℕ) → d < darts_of s → in_cotree split ((rotations_of s).edge d) ≡ true
      → label ((rotations_of s).next ((rotations_of s).twin d)) ≡ label d
  pub tree_one : (d : ℕ) → d < darts_of s → in_tree split ((rotations_of s).edge d) ≡ true → Same (val d) one
  pub left : (d : ℕ) → d < darts_of s → is_left split ((rotations_of s).edge d) ≡ true → (d ≡ last → ⊥)
      → Same (val d) (by_labels mul inv spoke label (rotations_of s).next d)
  pub last_in_root : (d : ℕ) → d < darts_of s → d ≡ last → (rotations_of s).face d ≡ split.root_face

some_child : (o : Option ℕ) → (o ≡ None → ⊥) → (f : ℕ) × (o ≡ Some f)
some_child None h = absurd (h refl)
some_child (Some f) h = (f, refl)

-- a dart of a cotree edge and its twin
across_cotree : {X : Type 0} {Same : X → X → Type 0} {mul : X → X → X} {inv : X → X} {one : X} → IsGroup Same mul inv one
    → {s : OrientedMesh} {split : SplitView} {val spoke : ℕ → X}
    {label : ℕ → ℕ} {last : ℕ} → IsOrientedSurface s → Valued Same mul inv one s split val spoke label last → (d : ℕ) → d < darts_of s
    → in_cotree split ((rotations_of s).edge d) ≡ true
    → Same (val d) (by_labels mul inv spoke label (rotations_of s).next d)
    → Same (val ((rotations_of s).twin d)) (by_labels mul inv spoke label (rotations_of s).next ((rotations_of s).twin d))
across_cotree {Same} {mul} {inv} {one} g {s} {split} {val} {spoke} {label} o v d l is h =
    let maps : Rotations = rotations_of s in
    let r : IsRotationSystem maps = rotation_system s o in
    let twin : ℕ = maps.twin d in
    let twin_in : twin < darts_of s = r.twin_within d l in
    let twin_is : in_cotree split (maps.edge twin) ≡ true = ap (in_cotree split) (sym ((r.edges d twin l twin_in).1 (inr refl))) ∙ is in
    let one_end : label (maps.next twin) ≡ label d = v.of_cotree d l is in
    let other_end : label (maps.next d) ≡ label twin = grind arith in
    let turned : Same (val twin) (quotient mul inv (spoke (label (maps.next d))) (spoke (label d))) =
    g.on (val twin) (inv (val d)) (quotient mul inv (spoke (label (maps.next d))) (spoke (label d))) (v.twins d l)
    (g.on (inv (val d)) (inv (quotient mul inv (spoke (label d)) (spoke (label (maps.next d)))))
    (quotient mul inv (spoke (label (maps.next d))) (spoke (label d)))
    (g.inv_same (val d) (quotient mul inv (spoke (label d)) (spoke (label (maps.next d)))) h)
    (inverse_of_quotient Same mul inv one g (spoke (label d)) (spoke (label (maps.next d))))) in
    subst (λ x. Same (val twin) (quotient mul inv (spoke (label twin)) (spoke x))) (sym one_end)
    (subst (λ x. Same (val twin) (quotient mul inv (spoke x) (spoke (label d)))) other_end turned)

-- the dart of a cotree edge in the face below it
record Below (s : OrientedMesh) (split : SplitView) (d : ℕ) : Type 0 where
  face : ℕ
  dart : ℕ
  step : IsStepUp (rotations_of s) split face ((rotations_of s).face ((rotations_of s).twin dart)) dart
  one_edge : (rotations_of s).edge dart ≡ (rotations_of s).edge d
  is_one : (d ≡ dart) ⊎ (d ≡ (rotations_of s).twin dart)

below : {s : OrientedMesh} {split : SplitView} → IsOrientedSurface s → IsSplit s split → (d : ℕ) → d < darts_of s
    → (rotations_of s).edge d < length s.table
    → in_cotree split ((rotations_of s).edge d) ≡ true → Below s split d
below {s} {split} o t d l e_in is =
    let maps : Rotations = rotations_of s in
    let r : IsRotationSystem maps = rotation_system s o in
    let child = some_child (below_edge split (maps.edge d))
    (λ none. both_ways (in_cotree split (maps.edge d)) ((t.child_faces.none (maps.edge d) e_in).0 none) is) in
    let dart = t.child_faces.step (maps.edge d) child.0 child.1 in
    record {
      face = child.0;
      dart = dart.0;
      step = record { within = dart.1; below = ap (below_edge split) dart.2 ∙ child.1; inside = dart.3; leads = refl };
      one_edge = dart.2;
      is_one = (r.edges dart.0 d dart.1 l).0 dart.2;
    }

-- the value of a dart that is no parent dart and not the last side, in a face all of whose children are known
plain_value : {X : Type 0} (Same : X → X → Type 0) (mul : X → X → X) (inv : X → X) (one : X) → IsGroup Same mul inv one
    → (s : OrientedMesh) (split : SplitView) (val spoke : ℕ → X)
    (label : ℕ → ℕ) (last : ℕ) → IsOrientedSurface s → IsSplit s split → Valued Same mul inv one s split val spoke label last
    → (edge_in : (d : ℕ) → d < darts_of s → (rotations_of s).edge d < length s.table)
    → (d : ℕ) → d < darts_of s → (d ≡ last → ⊥)
    → ((b : Below s split d) → Same (val b.dart) (by_labels mul inv spoke label (rotations_of s).next b.dart))
    → Same (val d) (by_labels mul inv spoke label (rotations_of s).next d)
plain_value {X = X} Same mul inv one g s split val spoke label last o t v edge_in d l other known =
    by_kind (in_tree split edge) (in_cotree split edge) (is_left split edge) (one_of_three split edge) refl refl refl
  where
    maps : Rotations
    maps = rotations_of s

    edge : ℕ
    edge = (rotations_of s).edge d

    want : X
    want = by_labels mul inv spoke label (rotations_of s).next d

    by_kind : (a b c : Bool) → OneOfThree a b c → in_tree split edge ≡ a → in_cotree split edge ≡ b → is_left split edge ≡ c
        → Same (val d) want
    by_kind a b c tree_one p q w =
        let stays : label (maps.next d) ≡ label d = v.of_tree d l p in
        let nothing : Same one (quotient mul inv (spoke (label d)) (spoke (label d))) =
        g.turn (quotient mul inv (spoke (label d)) (spoke (label d))) one (g.cancels (spoke (label d))) in
        subst (λ x. Same (val d) (quotient mul inv (spoke (label d)) (spoke x))) (sym stays)
        (g.on (val d) one (quotient mul inv (spoke (label d)) (spoke (label d))) (v.tree_one d l p) nothing)
    by_kind a b c left_one p q w = v.left d l w other
    by_kind a b c cotree_one p q w =
        let down : Below s split d = below o t d l (edge_in d l) q in
        elim down.is_one [
          | inl same ↦ subst (λ x. Same (val x) (by_labels mul inv spoke label maps.next x)) (sym same) (known down)
          | inr turned ↦
              subst (λ x. Same (val x) (by_labels mul inv spoke label maps.next x)) (sym turned)
              (across_cotree g o v down.dart down.step.within (ap (in_cotree split) down.one_edge ∙ q) (known down))
        ]

-- darts of one face, step by step
stays_in_face : {s : OrientedMesh} → IsOrientedSurface s → (k d : ℕ) → d < darts_of s
    → (after_steps (rotations_of s).next k d < darts_of s)
    × ((rotations_of s).face (after_steps (rotations_of s).next k d) ≡ (rotations_of s).face d)
stays_in_face o zero d l = (l, refl)
stays_in_face {s} o (suc k) d l =
    let r : IsRotationSystem (rotations_of s) = rotation_system s o in
    let before = stays_in_face o k d l in
    let x : ℕ = after_steps (rotations_of s).next k d in
    let on : ℕ = (rotations_of s).next x in
    (r.next_within x before.0, sym ((r.faces x on before.0 (r.next_within x before.0)).1 (record { steps = 1; leads = refl })) ∙ before.1)

-- from the faces farthest from the root up: the parent dart of each face has the value of its labels
parents_known : {X : Type 0} {Same : X → X → Type 0} {mul : X → X → X} {inv : X → X} {one : X} → IsGroup Same mul inv one
    → {s : OrientedMesh} {split : SplitView} {val spoke : ℕ → X}
    {label : ℕ → ℕ} {last : ℕ} → IsOrientedSurface s → IsSplit s split → Valued Same mul inv one s split val spoke label last
    → (edge_in : (d : ℕ) → d < darts_of s → (rotations_of s).edge d < length s.table)
    → (n : ℕ) {f : ℕ} (path : List ℕ) → IsPath (StepsUp (rotations_of s) split) f path split.root_face → length s.mesh.faces ≤ length path +
    n
    → {g d : ℕ} → IsStepUp (rotations_of s) split f g d → Same (val d) (by_labels mul inv spoke label (rotations_of s).next d)
parents_known gr {s} {split} o t v edge_in zero {f} path p far step =
    absurd (let few : length path < length s.mesh.faces = few_up s split o t f path p in omega arith)
parents_known {Same} {mul} {inv} {one} gr {s} {split} {val} {spoke} {label} {last} o t v edge_in (suc n) {f} path p far {g} {d} step =
    last_of_face Same mul inv one gr val spoke label (rotations_of s).next d (v.faces d step.within) (λ k ne.
    let r : IsRotationSystem (rotations_of s) = rotation_system s o in
    let x : ℕ = after_steps (rotations_of s).next k ((rotations_of s).next d) in
    let start_in : (rotations_of s).next d < darts_of s = r.next_within d step.within in
    let here = stays_in_face o k ((rotations_of s).next d) start_in in
    let first = stays_in_face o 1 d step.within in
    let x_face : (rotations_of s).face x ≡ f = here.1 ∙ first.1 ∙ step.inside in
    plain_value Same mul inv one gr s split val spoke label last o t v edge_in x here.0
    (λ same. no_root (sym x_face ∙ v.last_in_root x here.0 same)) (λ down. elim down.is_one [
      | inl own ↦ absurd (no_own x (subst (λ y. IsStepUp (rotations_of s) split down.face ((rotations_of s).face ((rotations_of s).twin y))
          y) (sym own) down.step) here.0 x_face ne)
      | inr turned ↦
          let up : IsStepUp (rotations_of s) split down.face f down.dart = record {
            within = down.step.within;
            below = down.step.below;
            inside = down.step.inside;
            leads = ap (rotations_of s).face (sym turned) ∙ x_face;
          } in
          parents_known gr o t v edge_in n (f ∷ path) ((down.dart, up), p) (omega arith) up
    ]))
  where
    no_root : f ≡ split.root_face → ⊥
    no_root same = (faces_upward s split o t).top g (subst (λ y. StepsUp (rotations_of s) split y g) same (d, step))

    no_own : (x : ℕ) → {h : ℕ} → IsStepUp (rotations_of s) split h ((rotations_of s).face ((rotations_of s).twin x)) x → x < darts_of s
        → (rotations_of s).face x ≡ f → x ≢ d → ⊥
    no_own x {h} own x_in x_face ne =
        let r : IsRotationSystem (rotations_of s) = rotation_system s o in
        let h_is : h ≡ f = sym own.inside ∙ x_face in
        let one_edge : (rotations_of s).edge d ≡ (rotations_of s).edge x =
        t.child_faces.once ((rotations_of s).edge d) ((rotations_of s).edge x) f step.below (own.below ∙ ap Some h_is) in
        elim ((r.edges d x step.within x_in).0 one_edge) [
          | inl same ↦ ne same
          | inr turned ↦
              let loop : IsStepUp (rotations_of s) split f f d = record {
                within = step.within;
                below = step.below;
                inside = step.inside;
                leads = ap (rotations_of s).face (sym turned) ∙ x_face;
              } in
              no_loop (StepsUp (rotations_of s) split) split.root_face (faces_upward s split o t) f (d, loop) (path, p)
        ]

-- Each dart has the value of the spokes at its tail and at its head.
pub all_values : {X : Type 0} {Same : X → X → Type 0} {mul : X → X → X} {inv : X → X} {one : X} → IsGroup Same mul inv one
    → {s : OrientedMesh} {split : SplitView} {val spoke : ℕ → X}
    {label : ℕ → ℕ} {last : ℕ} → IsOrientedSurface s → IsSplit s split → Valued Same mul inv one s split val spoke label last
    → (edge_in : (d : ℕ) → d < darts_of s → (rotations_of s).edge d < length s.table)
    → (face_in : (d : ℕ) → d < darts_of s → (rotations_of s).face d < length s.mesh.faces)
    → (d : ℕ) → d < darts_of s → Same (val d) (by_labels mul inv spoke label (rotations_of s).next d)
all_values {Same} {mul} {inv} {one} g {s} {split} {val} {spoke} {label} {last} o t v edge_in face_in d l = elim (cases_eq d last) [
  | inr other ↦ plain_value Same mul inv one g s split val spoke label last o t v edge_in d l other known
  | inl is ↦
      last_of_face Same mul inv one g val spoke label (rotations_of s).next d (v.faces d l) (λ k ne.
      let r : IsRotationSystem (rotations_of s) = rotation_system s o in
      let here = stays_in_face o k ((rotations_of s).next d) (r.next_within d l) in
      plain_value Same mul inv one g s split val spoke label last o t v edge_in
      (after_steps (rotations_of s).next k ((rotations_of s).next d)) here.0 (λ same. ne (same ∙ sym is)) known)
]
  where
    known : {x : ℕ} (b : Below s split x) → Same (val b.dart) (by_labels mul inv spoke label (rotations_of s).next b.dart)
    known b =
        let f_in : b.face < length s.mesh.faces = subst (λ y. y < length s.mesh.faces) b.step.inside (face_in b.dart b.step.within) in
        let path = t.child_faces.to_root b.face f_in in
        parents_known g o t v edge_in (length s.mesh.faces) path.0 path.1 (omega arith) b.step
