-- Moves keep the state: a walk and the walk after moves lead each state at the vertex to one state. The spokes of darts act on such states.
use Rattle.labellings.proofs.Common.{IsGood, LabellingView, signs_of, tail_label, head_label, side_from, spokes, spokes_of_sides, quad_path, ◌≡◌, ◌⊎◌, inl, inr, ℕ, suc, ◌<◌, Bool, true, false, ◌&&◌, eqb, List, [], ◌∷◌, length, refl, ap, sym, ◌∙◌, subst, arith, cases_Bool, or_cases, eqb-true, and_parts, IsTrue, Contains, Option, Some, None, find, IsListed, all_listed, IsSide, tail_of, head_of, side_name, FaceList, FaceSide, IsFaceList, all_sides, joins, is_edge, apply_all, start_under, end_under, is_flipped, IsWalk, Side, led, IsEdge}
use Rattle.std.proofs.lemmas.List.Folds.{Any-from_list_any}
use Rattle.surf_model.specs.declared.moves.Move.{Move}
use Rattle.walk_actions.proofs.Actions.{acts_exactly, moves_act, crosses_any}
use Rattle.labellings.proofs.FoldLemmas.{PutLaws, pair, pair_belongs, there, run, spoked, run_walked, Darts, darts_of, once_round_face, tail_within, head_within, led-append}

-- what is found is in the list
found_in : {A : Type 0} (p : A → Bool) (xs : List A) (x : A) → find p xs ≡ Some x → Contains xs x
found_in p [] x h = cc
found_in p (y ∷ ys) x h = elim (cases_Bool (p y)) [
  | inl here ↦
      let same : y ≡ x = cc in
      (0, omega arith, same)
  | inr off ↦
      let rest : find p ys ≡ Some x = rw off at h in
      let more : Contains ys x = found_in p ys x rest in
      (suc more.0, omega (arith, more.1), more.2)
]

pub found_side : (mesh : FaceList) (labelling : LabellingView) (u v : ℕ) (x : FaceSide) → side_from mesh labelling u v ≡ Some x
    → IsSide mesh (side_name x)
unfolding side_from
found_side mesh labelling u v x h = grind (arith, found_in, all_listed)

-- a state that belongs to the wheel and is at the vertex
abbrev IsReady : {State : Type 0} → (State → Type 0) → (State → Type 0) → State → Type 0
IsReady Belongs IsAtVertex s = Belongs s × IsAtVertex s

-- an edge is that of a side, in one direction or the other
record SideBetween (mesh : FaceList) (labelling : LabellingView) (u v : ℕ) : Type 0 where
  side : Side
  side_of : IsSide mesh side
  runs :
      ((start_under mesh (signs_of labelling) side ≡ u) × (end_under mesh (signs_of labelling) side ≡ v))
      ⊎ ((start_under mesh (signs_of labelling) side ≡ v) × (end_under mesh (signs_of labelling) side ≡ u))

side_between : (mesh : FaceList) (labelling : LabellingView) (u v : ℕ) → IsTrue (is_edge mesh u v) → SideBetween mesh labelling u v
unfolding is_edge
side_between mesh labelling u v e =
    let any = Any-from_list_any (joins u v) (all_sides mesh) e in
    let is : IsListed mesh any.1 = subst (IsListed mesh) any.3 (all_listed mesh any.0 any.1 any.2) in
    let side : Side = side_name any.1 in
    let ends = ends_of any.1 (or_cases (eqb any.1.tail u && eqb any.1.head v) (eqb any.1.tail v && eqb any.1.head u) any.4) in
    record {
      side = side;
      side_of = is.side;
      runs = turned side (is_flipped (signs_of labelling) side.face.0) refl (elim ends [
        | inl p ↦ inl (sym is.tail ∙ p.0, sym is.head ∙ p.1)
        | inr p ↦ inr (sym is.tail ∙ p.0, sym is.head ∙ p.1)
      ]);
    }
  where
    ends_of : (s : FaceSide) → ((eqb s.tail u && eqb s.head v) ≡ true) ⊎ ((eqb s.tail v && eqb s.head u) ≡ true)
        → ((s.tail ≡ u) × (s.head ≡ v)) ⊎ ((s.tail ≡ v) × (s.head ≡ u))
    ends_of s h = elim h [
      | inl p ↦ (let parts = and_parts (eqb s.tail u) (eqb s.head v) p in inl (eqb-true s.tail u parts.0, eqb-true s.head v parts.1))
      | inr p ↦ (let parts = and_parts (eqb s.tail v) (eqb s.head u) p in inr (eqb-true s.tail v parts.0, eqb-true s.head u parts.1))
    ]

    turned : (side : Side) (f : Bool) → is_flipped (signs_of labelling) side.face.0 ≡ f
        → ((tail_of mesh side ≡ u) × (head_of mesh side ≡ v)) ⊎ ((tail_of mesh side ≡ v) × (head_of mesh side ≡ u))
        → ((start_under mesh (signs_of labelling) side ≡ u) × (end_under mesh (signs_of labelling) side ≡ v))
        ⊎ ((start_under mesh (signs_of labelling) side ≡ v) × (end_under mesh (signs_of labelling) side ≡ u))
    turned side true f h = rw f (elim h [ inl p ↦ inr (p.1, p.0) | inr p ↦ inl (p.1, p.0) ])
    turned side false f h = rw f h

module _ {State : Type 0} (mesh : FaceList) (labelling : LabellingView) (next : List ℕ → State → ℕ → State)
    (Belongs IsAtVertex : State → Type 0) (laws : PutLaws labelling.places next Belongs IsAtVertex)
  where
    pair_ready : (s : State) (i j : ℕ) → IsReady Belongs IsAtVertex s → i < length labelling.places → j < length labelling.places
        → IsReady Belongs IsAtVertex (pair labelling.places next s i j)
    pair_ready s i j r l m =
        (pair_belongs labelling.places next Belongs IsAtVertex laws s i j r.0 l m, laws.vertex s i j r.0 r.1 l m)

    spokes_ready : (u v : ℕ) (o other : Option FaceSide) → IsGood mesh labelling → side_from mesh labelling u v ≡ o → (s : State)
        → IsReady Belongs IsAtVertex s
        → IsReady Belongs IsAtVertex (led next labelling.places s (spokes_of_sides mesh labelling o other))
    spokes_ready u v None other good e s r = r
    spokes_ready u v (Some x) None good e s r = r
    spokes_ready u v (Some x) (Some y) good e s r =
        let side : Side = side_name x in
        let h : IsSide mesh side = found_side mesh labelling u v x e in
        elim (cases_Bool (eqb (tail_label mesh labelling side) (head_label mesh labelling side) && eqb
        (tail_label mesh labelling (side_name y)) (head_label mesh labelling (side_name y)))) [
          | inl tree ↦ rw tree r
          | inr off ↦ rw off (pair_ready s _ _ r (tail_within mesh labelling good side h) (head_within mesh labelling good side h))
        ]

    spoked_ready : (u v : ℕ) (s : State) → IsGood mesh labelling → IsReady Belongs IsAtVertex s
        → IsReady Belongs IsAtVertex (spoked mesh labelling next s u v)
    spoked_ready u v s good r = spokes_ready u v (side_from mesh labelling u v) (side_from mesh labelling v u) good refl s r

    -- a walk leads from the vertex to the vertex
    pub run_ready : IsGood mesh labelling → (walk : List ℕ) (s : State) → IsReady Belongs IsAtVertex s
        → IsReady Belongs IsAtVertex (run mesh labelling next s walk)
    run_ready good [] s r = r
    run_ready good (u ∷ []) s r = r
    run_ready good (u ∷ v ∷ walk) s r =
        subst (IsReady Belongs IsAtVertex)
        (sym (led-append next labelling.places s (spokes mesh labelling u v) (quad_path mesh labelling (v ∷ walk))))
        (run_ready good (v ∷ walk) (spoked mesh labelling next s u v) (spoked_ready u v s good r))

    -- there and back along an edge changes nothing
    there_and_back : IsFaceList mesh → IsGood mesh labelling → (u v : ℕ) (s : State) → IsEdge mesh u v → IsReady Belongs IsAtVertex s
        → spoked mesh labelling next (spoked mesh labelling next s u v) v u ≡ s
    there_and_back valid good u v s e r =
        let between : SideBetween mesh labelling u v = side_between mesh labelling u v e in
        let side : Side = between.side in
        let h : IsSide mesh side = between.side_of in
        let darts : (t : State) → IsReady Belongs IsAtVertex t → Darts mesh labelling next t side =
        λ t ready. darts_of mesh labelling next Belongs IsAtVertex laws valid good side h t ready.0 ready.1 in
        let undone : (x y i j : ℕ) → i < length labelling.places → j < length labelling.places
        → ((t : State) → IsReady Belongs IsAtVertex t → spoked mesh labelling next t x y ≡ pair labelling.places next t i j)
        → ((t : State) → IsReady Belongs IsAtVertex t → spoked mesh labelling next t y x ≡ pair labelling.places next t j i)
        → spoked mesh labelling next (spoked mesh labelling next s x y) y x ≡ s =
        λ x y i j l m forth back.
        ap (λ t. spoked mesh labelling next t y x) (forth s r) ∙ back (pair labelling.places next s i j) (pair_ready s i j r l m)
        ∙ there labelling.places next Belongs IsAtVertex laws s i j i r.0 l m ∙ laws.back s i r.0 l in
        let named : (x y : ℕ) → x ≡ u → y ≡ v → spoked mesh labelling next (spoked mesh labelling next s x y) y x ≡ s
        → spoked mesh labelling next (spoked mesh labelling next s u v) v u ≡ s =
        λ x y one two back.
        subst (λ w. spoked mesh labelling next (spoked mesh labelling next s u w) w u ≡ s) two
        (subst (λ w. spoked mesh labelling next (spoked mesh labelling next s w y) y w ≡ s) one back) in
        let a_in = tail_within mesh labelling good side h in
        let b_in = head_within mesh labelling good side h in
        elim between.runs [
          | inl p ↦
              named _ _ p.0 p.1
              (undone _ _ _ _ a_in b_in (λ t ready. (darts t ready).along) (λ t ready. (darts t ready).against))
          | inr p ↦
              named _ _ p.1 p.0
              (undone _ _ _ _ b_in a_in (λ t ready. (darts t ready).against) (λ t ready. (darts t ready).along))
        ]

    -- so moves keep the state
    pub moves_keep : IsFaceList mesh → IsGood mesh labelling → (moves : List Move) (walk after : List ℕ) → IsWalk mesh walk
        → apply_all mesh walk moves ≡ Some after → (s : State) → IsReady Belongs IsAtVertex s
        → run mesh labelling next s walk ≡ run mesh labelling next s after
    moves_keep valid good moves walk after w e s r =
        let act : State → ℕ → ℕ → State = spoked mesh labelling next in
        let ready : ℕ → State → Type 0 = λ u. IsReady Belongs IsAtVertex in
        run_walked mesh labelling next s walk
        ∙ moves_act mesh (λ (t t' : State). t ≡ t') act ready
        (acts_exactly (IsEdge mesh) act ready (λ u v t edge at. spoked_ready u v t good at) (there_and_back valid good))
        (λ f. Unit {0}) (record {
          round = λ f l may. (
            true,
            0,
            omega (arith, (valid.faces f [] l).polygon),
            λ t at.
                once_round_face mesh labelling next Belongs IsAtVertex laws valid good f l t at.0 at.1,
          );
        }) moves walk after s w (crosses_any moves) e r
        ∙ sym (run_walked mesh labelling next s after)
