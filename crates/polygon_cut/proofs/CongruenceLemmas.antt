-- What holds of walks up to any congruence, be it homotopy or spurs alone: closed walks at a root make a group, and walks are products
-- of the loops of their darts, where a way leads from each vertex to the root.
use Rattle.polygon_cut.proofs.Common.{◌≡◌, ℕ, ◌<◌, List, [], ◌∷◌, ◌++◌, length, ap, sym, ◌∙◌, subst, arith, append_assoc, append-nil, IsTrue, FaceList, is_used, IsWalk}
use Rattle.polygon_cut.proofs.GroupLemmas.{IsGroup}
use Rattle.polygon_cut.proofs.WayLemmas.{IsWay, back, way_walk, start_used, end_used, way_on, way_home, back-append, back_back, Loop, loop_mul, loop_inv, loop_one, loop_start, HasWays, loop_of}

-- A congruence of walks: an equivalence in which a part may be replaced, and in which a spur is nothing.
pub record IsWalkCongruence (mesh : FaceList) (Same : List ℕ → List ℕ → Type 0) : Type 0 where
  pub itself : (walk : List ℕ) → Same walk walk
  pub turn : (a b : List ℕ) → IsWalk mesh a → Same a b → Same b a
  pub on : (a b c : List ℕ) → Same a b → Same b c → Same a c
  pub within : (before a b after : List ℕ) → 0 < length a → Same a b → Same (before ++ a ++ after) (before ++ b ++ after)
  pub spur : (u w : ℕ) → Same (u ∷ w ∷ u ∷ []) (u ∷ [])

-- two loops are the same
abbrev pub SameLoops : {mesh : FaceList} {root : ℕ} → (List ℕ → List ℕ → Type 0) → Loop mesh root → Loop mesh root → Type 0
SameLoops {mesh} {root} Same a b = Same (root ∷ a.rest) (root ∷ b.rest)

module _ {mesh : FaceList} {Same : List ℕ → List ℕ → Type 0} (congruence : IsWalkCongruence mesh Same) where
  -- what follows the end of a way may be replaced
  pub behind : (u v : ℕ) (rest more others : List ℕ) → IsWay mesh u v rest → Same (v ∷ more) (v ∷ others)
      → Same (u ∷ (rest ++ more)) (u ∷ (rest ++ others))
  behind u v [] more others h k = subst (λ x. Same (x ∷ more) (x ∷ others)) (sym h.0) k
  behind u v (w ∷ rest) more others h k =
      simp append-nil at (congruence.within (u ∷ []) (w ∷ (rest ++ more)) (w ∷ (rest ++ others)) [] (omega arith)
      (behind w v rest more others h.1 k))

  -- and what stands before
  pub before : (u : ℕ) (rest others more : List ℕ) → Same (u ∷ rest) (u ∷ others) → Same (u ∷ (rest ++ more)) (u ∷ (others ++ more))
  before u rest others more h = congruence.within [] (u ∷ rest) (u ∷ others) more (omega arith) h

  -- there and back again
  pub there_and_home : (u v : ℕ) (rest : List ℕ) → IsWay mesh u v rest → Same (u ∷ (rest ++ back u rest)) (u ∷ [])
  there_and_home u v [] h = congruence.itself (u ∷ [])
  there_and_home u v (w ∷ rest) h =
      let shape : u ∷ w ∷ (rest ++ (back w rest ++ u ∷ [])) ≡ (u ∷ []) ++ (w ∷ (rest ++ back w rest)) ++ (u ∷ []) =
      ap (λ (l : List ℕ). u ∷ w ∷ l) (sym (append_assoc rest (back w rest) (u ∷ []))) in
      subst (λ (l : List ℕ). Same l (u ∷ [])) (sym shape)
      (congruence.on _ _ _ (congruence.within (u ∷ []) _ (w ∷ []) (u ∷ []) (omega arith) (there_and_home w v rest h.1))
      (congruence.spur u w))

  pub home_and_there : (u v : ℕ) (rest : List ℕ) → IsWay mesh u v rest → Same (v ∷ (back u rest ++ rest)) (v ∷ [])
  home_and_there u v rest h =
      subst (λ (l : List ℕ). Same (v ∷ (back u rest ++ l)) (v ∷ [])) (back_back mesh u v rest h)
      (there_and_home v u (back u rest) (way_home mesh u v rest h))

  -- the loops at a root are a group
  pub loops_are_a_group : (root : ℕ) (used : IsTrue (is_used mesh root))
      → IsGroup {X = Loop mesh root} (SameLoops Same) loop_mul loop_inv (loop_one mesh root used)
  loops_are_a_group root used = record {
    itself = λ x. congruence.itself (root ∷ x.rest);
    turn = λ x y h. congruence.turn _ _ (loop_start mesh root x) h;
    on = λ x y z h k. congruence.on _ _ _ h k;
    mul_same = λ a b x y h k.
        congruence.on _ _ _ (before root a.rest b.rest x.rest h) (behind root root b.rest x.rest y.rest b.is_way k);
    inv_same = inv_same;
    associates = λ x y z. rw append_assoc (congruence.itself (root ∷ (x.rest ++ (y.rest ++ z.rest))));
    one_left = λ x. congruence.itself (root ∷ x.rest);
    one_right = λ x. rw append-nil (congruence.itself (root ∷ x.rest));
    cancels = λ x. there_and_home root root x.rest x.is_way;
    cancels_back = λ x. home_and_there root root x.rest x.is_way;
  }
    where
      home : (x : Loop mesh root) → IsWay mesh root root (back root x.rest)
      home x = way_home mesh root root x.rest x.is_way

      -- x⁻¹ is x⁻¹ y y⁻¹, so x⁻¹ x y⁻¹, and that is y⁻¹
      inv_same : (x y : Loop mesh root) → Same (root ∷ x.rest) (root ∷ y.rest) → Same (root ∷ back root x.rest) (root ∷ back root y.rest)
      inv_same x y h =
          let turn_back : Same (root ∷ []) (root ∷ (y.rest ++ back root y.rest)) =
          congruence.turn _ _ (way_walk mesh root root _ (way_on mesh root root root y.rest (back root y.rest) y.is_way (home y)))
          (there_and_home root root y.rest y.is_way) in
          let turned : Same (root ∷ y.rest) (root ∷ x.rest) = congruence.turn _ _ (loop_start mesh root x) h in
          let start : Same (root ∷ back root x.rest) (root ∷ (back root x.rest ++ (y.rest ++ back root y.rest))) =
          simp append-nil at (behind root root (back root x.rest) [] (y.rest ++ back root y.rest) (home x) turn_back) in
          let change : Same (root ∷ (back root x.rest ++ (y.rest ++ back root y.rest)))
          (root ∷ (back root x.rest ++ (x.rest ++ back root y.rest))) =
          behind root root (back root x.rest) _ _ (home x) (before root y.rest x.rest (back root y.rest) turned) in
          let end : Same (root ∷ (back root x.rest ++ (x.rest ++ back root y.rest))) (root ∷ back root y.rest) =
          rw append_assoc at (before root (back root x.rest ++ x.rest) [] (back root y.rest) (home_and_there root root x.rest x.is_way)) in
          congruence.on _ _ _ start (congruence.on _ _ _ change end)

module _ {mesh : FaceList} {Same : List ℕ → List ℕ → Type 0} (congruence : IsWalkCongruence mesh Same) {root : ℕ} {up : ℕ → List ℕ}
    (ways : HasWays mesh root up) where
  -- up to the root, the own loop of a way, and down again, is that way
  own_loop : (u v : ℕ) (rest : List ℕ) → IsWay mesh u v rest
      → Same (u ∷ rest) (u ∷ (up u ++ ((back u (up u) ++ (rest ++ up v)) ++ back v (up v))))
  own_loop u v rest h =
      let u_way : IsWay mesh u root (up u) = ways.way u (start_used mesh u v rest h) in
      let v_way : IsWay mesh v root (up v) = ways.way v (end_used mesh u v rest h) in
      let whole : List ℕ = up u ++ ((back u (up u) ++ (rest ++ up v)) ++ back v (up v)) in
      let whole_way : IsWay mesh u v whole =
      way_on mesh u root v (up u) ((back u (up u) ++ (rest ++ up v)) ++ back v (up v)) u_way
      (way_on mesh root root v (back u (up u) ++ (rest ++ up v)) (back v (up v))
      (way_on mesh root u root (back u (up u)) (rest ++ up v) (way_home mesh u root (up u) u_way)
      (way_on mesh u v root rest (up v) h v_way)) (way_home mesh v root (up v) v_way)) in
      let shape : whole ≡ (up u ++ back u (up u)) ++ (rest ++ (up v ++ back v (up v))) = simp append_assoc in
      let front : Same (u ∷ ((up u ++ back u (up u)) ++ (rest ++ (up v ++ back v (up v))))) (u ∷ (rest ++ (up v ++ back v (up v)))) =
      before congruence u (up u ++ back u (up u)) [] (rest ++ (up v ++ back v (up v))) (there_and_home congruence u root (up u) u_way) in
      let end : Same (u ∷ (rest ++ (up v ++ back v (up v)))) (u ∷ rest) =
      subst (λ (l : List ℕ). Same (u ∷ (rest ++ (up v ++ back v (up v)))) (u ∷ l)) (append-nil rest)
      (behind congruence u v rest (up v ++ back v (up v)) [] h (there_and_home congruence v root (up v) v_way)) in
      congruence.turn _ _ (way_walk mesh u v whole whole_way)
      (subst (λ (l : List ℕ). Same (u ∷ l) (u ∷ rest)) (sym shape) (congruence.on _ _ _ front end))

  -- a way whose loop is another is that loop, up to the root before it and down again behind it
  pub by_own_loop : (u v : ℕ) (rest : List ℕ) (h : IsWay mesh u v rest) (loop : Loop mesh root)
      → SameLoops Same (loop_of mesh root up ways u v rest h) loop → Same (u ∷ rest) (u ∷ (up u ++ (loop.rest ++ back v (up v))))
  by_own_loop u v rest h loop same =
      congruence.on _ _ _ (own_loop u v rest h)
      (behind congruence u root (up u) _ _ (ways.way u (start_used mesh u v rest h))
      (before congruence root (back u (up u) ++ (rest ++ up v)) loop.rest (back v (up v)) same))

  -- ways with the same loops are the same, and the other way round
  pub from_loops : (u v : ℕ) (rest others : List ℕ) (h : IsWay mesh u v rest) (k : IsWay mesh u v others)
      → SameLoops Same (loop_of mesh root up ways u v rest h) (loop_of mesh root up ways u v others k) → Same (u ∷ rest) (u ∷ others)
  from_loops u v rest others h k same =
      let other : Loop mesh root = loop_of mesh root up ways u v others k in
      congruence.on _ _ _ (by_own_loop u v rest h other same)
      (congruence.turn _ _ (way_walk mesh u v others k) (own_loop u v others k))

  pub to_loops : (u v : ℕ) (rest others : List ℕ) (h : IsWay mesh u v rest) (k : IsWay mesh u v others) → Same (u ∷ rest) (u ∷ others)
      → SameLoops Same (loop_of mesh root up ways u v rest h) (loop_of mesh root up ways u v others k)
  to_loops u v rest others h k same =
      behind congruence root u (back u (up u)) (rest ++ up v) (others ++ up v)
      (way_home mesh u root (up u) (ways.way u (start_used mesh u v rest h)))
      (before congruence u rest others (up v) same)

  -- the loop of no dart is nothing, and that of a first dart and others is the product
  pub no_dart : (u v : ℕ) (h : IsWay mesh u v []) → SameLoops Same (loop_of mesh root up ways u v [] h) (loop_one mesh root ways.root_used)
  no_dart u v h =
      subst (λ x. Same (root ∷ (back u (up u) ++ up x)) (root ∷ [])) h.0 (home_and_there congruence u root (up u) (ways.way u h.1))

  pub first_dart : (u w v : ℕ) (rest : List ℕ) (h : IsWay mesh u v (w ∷ rest)) (one : IsWay mesh u w (w ∷ [])) (more : IsWay mesh w v rest)
      → SameLoops Same (loop_of mesh root up ways u v (w ∷ rest) h)
      (loop_mul (loop_of mesh root up ways u w (w ∷ []) one) (loop_of mesh root up ways w v rest more))
  first_dart u w v rest h one more =
      let w_way : IsWay mesh w root (up w) = ways.way w (start_used mesh w v rest more) in
      let u_home : IsWay mesh root u (back u (up u)) = way_home mesh u root (up u) (ways.way u (start_used mesh u v (w ∷ rest) h)) in
      let shape : (back u (up u) ++ (w ∷ up w)) ++ (back w (up w) ++ (rest ++ up v))
      ≡ back u (up u) ++ (w ∷ ((up w ++ back w (up w)) ++ (rest ++ up v))) = simp append_assoc in
      let contract : Same (w ∷ ((up w ++ back w (up w)) ++ (rest ++ up v))) (w ∷ (rest ++ up v)) =
      before congruence w (up w ++ back w (up w)) [] (rest ++ up v) (there_and_home congruence w root (up w) w_way) in
      let outer : Same (root ∷ (back u (up u) ++ (w ∷ ((up w ++ back w (up w)) ++ (rest ++ up v)))))
      (root ∷ (back u (up u) ++ (w ∷ (rest ++ up v)))) =
      behind congruence root u (back u (up u)) _ _ u_home (behind congruence u w (w ∷ []) _ _ one contract) in
      congruence.turn _ _ (loop_start mesh root
      (loop_mul (loop_of mesh root up ways u w (w ∷ []) one) (loop_of mesh root up ways w v rest more)))
      (subst (λ (l : List ℕ). Same (root ∷ l) (root ∷ (back u (up u) ++ (w ∷ (rest ++ up v))))) (sym shape) outer)

  -- the loop of a dart backwards
  pub dart_back : (u w : ℕ) (one : IsWay mesh u w (w ∷ [])) (other : IsWay mesh w u (u ∷ []))
      → SameLoops Same (loop_of mesh root up ways w u (u ∷ []) other) (loop_inv (loop_of mesh root up ways u w (w ∷ []) one))
  dart_back u w one other =
      let u_way : IsWay mesh u root (up u) = ways.way u (start_used mesh u w (w ∷ []) one) in
      let same : back root (back u (up u) ++ (w ∷ up w)) ≡ back w (up w) ++ (u ∷ up u) =
      back-append root (back u (up u)) (w ∷ up w) u mesh (way_home mesh u root (up u) u_way)
      ∙ ap (λ (l : List ℕ). (back w (up w) ++ u ∷ []) ++ l) (back_back mesh u root (up u) u_way)
      ∙ append_assoc (back w (up w)) (u ∷ []) (up u) in
      subst (λ (l : List ℕ). Same (root ∷ (back w (up w) ++ (u ∷ up u))) (root ∷ l)) (sym same) (congruence.itself _)

  -- a dart along the way up is nothing
  pub dart_up : (u w : ℕ) (one : IsWay mesh u w (w ∷ [])) → up u ≡ w ∷ up w
      → SameLoops Same (loop_of mesh root up ways u w (w ∷ []) one) (loop_one mesh root ways.root_used)
  dart_up u w one e =
      subst (λ (l : List ℕ). Same (root ∷ (back u (up u) ++ l)) (root ∷ [])) e
      (home_and_there congruence u root (up u) (ways.way u (start_used mesh u w (w ∷ []) one)))
