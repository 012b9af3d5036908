-- What a step of a reduction does: the moves lead on, the normal part stays normal, and less is to come.
use Rattle.free_forms.proofs.Common.{one_more, IsNormal, OpenView, HasFaceParents, Joins, IsParentEdge, parent_of, expansion, LeadsAtPeak, ReductionView, settled, whole, IsTaken, StepsBack, StepsOn, SkipsSpur, Expands, IsWayAlong, IsStep, ◌≡◌, ◌≢◌, inl, inr, ℕ, zero, suc, ◌+◌, ◌-◌, ◌<◌, ◌≤◌, Bool, not, max, List, [], ◌∷◌, ◌++◌, length, get_or, refl, ap, sym, ◌∙◌, subst, arith, append_assoc, length-append, cases_lt, common_steps, get_or_append_left, Option, Some, None, step_within, ends_differ, by_replacing, head_of, FaceList, face_at, corners_from, PeakedMoves, apply, darts, Side, Move, Remove, Across, after_back, corners_beyond, run-append, run}
use Rattle.free_forms.proofs.Expansions.{act_fully, acting, by_face, parent_face_of, acts_by_base, acts_by_expansion, IsFound, expansion_ends, from_tail, from_head, parent_in_mesh}

-- how much is to come: each dart counts as many as its expansion comes to, and one more if it has one
abbrev pub count_on : ℕ → ℕ → ℕ → ℕ
count_on s u v = suc s

abbrev pub count_in : ℕ → ℕ → ℕ
count_in f s = suc s

abbrev pub weight : OpenView → ℕ → List ℕ → ℕ
weight surface u vs = run (act_fully surface count_on count_in) zero u vs

pub run_from : (act : ℕ → ℕ → ℕ → ℕ) → ((s u v : ℕ) → act (suc s) u v ≡ suc (act s u v)) → (s u : ℕ) (vs : List ℕ)
    → run act (suc s) u vs ≡ suc (run act s u vs)
run_from act one s u [] = refl
run_from act one s u (v ∷ vs) = ap (λ (x : ℕ). run act x v vs) (one s u v) ∙ run_from act one (act s u v) v vs

by_face_from : (surface : OpenView) (inner : ℕ → ℕ → ℕ → ℕ) → ((s u v : ℕ) → inner (suc s) u v ≡ suc (inner s u v)) → (o : Option ℕ)
    → (s u v : ℕ) → by_face surface count_on count_in inner o (suc s) u v ≡ suc (by_face surface count_on count_in inner o s u v)
by_face_from surface inner one None s u v = refl
by_face_from surface inner one (Some f) s u v = run_from inner one (suc s) u (expansion surface.mesh (parent_of surface f) u)

pub count_from : (surface : OpenView) (n s u v : ℕ)
    → acting surface count_on count_in n (suc s) u v ≡ suc (acting surface count_on count_in n s u v)
count_from surface zero s u v = refl
count_from surface (suc n) s u v =
    by_face_from surface (acting surface count_on count_in n) (count_from surface n) (parent_face_of surface u v) s u v

run_grows : (act : ℕ → ℕ → ℕ → ℕ) → ((s u v : ℕ) → s < act s u v) → (s u : ℕ) (vs : List ℕ) → s ≤ run act s u vs
run_grows act more s u [] = omega arith
run_grows act more s u (v ∷ vs) = omega (arith, more s u v, run_grows act more (act s u v) v vs)

face_counts : (surface : OpenView) (inner : ℕ → ℕ → ℕ → ℕ) → ((s u v : ℕ) → s < inner s u v) → (o : Option ℕ)
    → (s u v : ℕ) → s < by_face surface count_on count_in inner o s u v
face_counts surface inner more None s u v = omega arith
face_counts surface inner more (Some f) s u v = grind (arith, run_grows)

level_counts : (surface : OpenView) (n s u v : ℕ) → s < acting surface count_on count_in n s u v
level_counts surface zero s u v = omega arith
level_counts surface (suc n) s u v =
    face_counts surface (acting surface count_on count_in n) (level_counts surface n) (parent_face_of surface u v) s u v

-- a dart off the parent edges counts one
weight_free : {surface : OpenView} (u v : ℕ) (vs : List ℕ) → HasFaceParents surface → (IsParentEdge surface u v → ⊥)
    → weight surface u (v ∷ vs) ≡ suc (weight surface v vs)
weight_free {surface} u v vs has free = grind (arith, acts_by_base, run_from, count_from)

-- a dart along a parent edge counts one more than its expansion
pub weight_parent : {surface : OpenView} {f u v : ℕ} (vs : List ℕ) → HasFaceParents surface → IsFound surface u v f
    → weight surface u (v ∷ vs) ≡ suc (weight surface u (expansion surface.mesh (parent_of surface f) u ++ vs))
weight_parent {surface} {f} {u} {v} vs has found =
    let act : ℕ → ℕ → ℕ → ℕ = act_fully surface count_on count_in in
    let way : List ℕ = expansion surface.mesh (parent_of surface f) u in
    let one : (s a b : ℕ) → act (suc s) a b ≡ suc (act s a b) = count_from surface (length surface.mesh.faces) in
    ap (λ (x : ℕ). run act x v vs) (acts_by_expansion count_on count_in has zero found)
    ∙ ap (λ (x : ℕ). run act x v vs) (run_from act one zero u way)
    ∙ run_from act one (run act zero u way) v vs
    ∙ ap (λ (x : ℕ). suc (run act (run act zero u way) x vs)) (sym (expansion_ends has found))
    ∙ ap suc (sym (run-append act zero u way vs))

-- a part of a normal walk, and one vertex more
normal_front : {surface : OpenView} (front rest : List ℕ) → IsNormal surface (front ++ rest) → IsNormal surface front
normal_front {surface} front rest h =
    let long : length (front ++ rest) ≡ length front + length rest = length-append front rest in
    let same : (k : ℕ) → k < length front → get_or (front ++ rest) k 0 ≡ get_or front k 0 = λ k l. get_or_append_left front rest 0 k l in
    record {
      no_spur = λ k l back. h.no_spur k (omega (arith, l, long)) (same k (omega arith) ∙ back ∙ sym (same (k + 2) l));
      no_parent = λ k l. subst (λ (a : ℕ). IsParentEdge surface a (get_or front (k + 1) 0) → ⊥) (same k (omega arith))
          (subst (λ (b : ℕ). IsParentEdge surface (get_or (front ++ rest) k 0) b → ⊥) (same (k + 1) l)
          (h.no_parent k (omega (arith, l, long))));
    }

seam : (front : List ℕ) (x : ℕ) (rest : List ℕ) → get_or (front ++ x ∷ rest) (length front) 0 ≡ x
seam front x rest = grind (arith, common_steps)

normal_more : {surface : OpenView} (front : List ℕ) (u v : ℕ) → IsNormal surface (front ++ u ∷ []) → (IsParentEdge surface u v → ⊥)
    → (0 < length front → get_or front (length front - 1) 0 ≢ v) → IsNormal surface ((front ++ u ∷ []) ++ v ∷ [])
normal_more {surface} front u v h free other =
    let old : List ℕ = front ++ u ∷ [] in
    let new : List ℕ = old ++ v ∷ [] in
    let n : ℕ = length front in
    let old_long : length old ≡ n + 1 = length-append front (u ∷ []) in
    let long : length new ≡ n + 2 = length-append old (v ∷ []) ∙ omega (arith, old_long) in
    let same : (k : ℕ) → k < length old → get_or new k 0 ≡ get_or old k 0 = λ k l. get_or_append_left old (v ∷ []) 0 k l in
    let last : (k : ℕ) → k ≡ n + 1 → get_or new k 0 ≡ v = λ k is. ap (λ (j : ℕ). get_or new j 0) (is ∙ sym old_long) ∙ seam old v [] in
    let before : (k : ℕ) → k ≡ n → get_or new k 0 ≡ u =
    λ k is. same k (omega (arith, is, old_long)) ∙ ap (λ (j : ℕ). get_or old j 0) is ∙ seam front u [] in
    record {
      no_spur = λ k l back. elim (cases_lt (k + 2) (n + 1)) [
        | inl less ↦
            h.no_spur k (omega (arith, less, old_long))
            (sym (same k (omega (arith, less, old_long))) ∙ back ∙ same (k + 2) (omega (arith, less, old_long)))
        | inr more ↦
            (let at : k + 2 ≡ n + 1 = omega (arith, l, more, long) in
            let place : k ≡ n - 1 = omega (arith, at) in
            let some : 0 < n = omega (arith, at) in
            other some (sym (get_or_append_left front (u ∷ []) 0 (n - 1) (omega arith)) ∙ sym (same (n - 1) (omega (arith, old_long)))
            ∙ ap (λ (j : ℕ). get_or new j 0) (sym place) ∙ back ∙ last (k + 2) at))
      ];
      no_parent = λ k l. elim (cases_lt (k + 1) (n + 1)) [
        | inl less ↦
            subst (λ (a : ℕ). IsParentEdge surface a (get_or new (k + 1) 0) → ⊥) (sym (same k (omega (arith, less, old_long))))
            (subst (λ (b : ℕ). IsParentEdge surface (get_or old k 0) b → ⊥) (sym (same (k + 1) (omega (arith, less, old_long))))
            (h.no_parent k (omega (arith, less, old_long))))
        | inr more ↦
            (let at : k ≡ n = omega (arith, l, more, long) in
            subst (λ (a : ℕ). IsParentEdge surface a (get_or new (k + 1) 0) → ⊥) (sym (before k at))
            (subst (λ (b : ℕ). IsParentEdge surface u b → ⊥) (sym (last (k + 1) (omega (arith, at)))) free))
      ];
    }

pub normal_alone : (surface : OpenView) (u : ℕ) → IsNormal surface (u ∷ [])
normal_alone surface u = grind arith

swap_ends : (mesh : FaceList) (side : Side) (u v : ℕ) → Joins mesh side u v → Joins mesh side v u
swap_ends mesh side u v h = elim h [ inl e ↦ inr e | inr e ↦ inl e ]

-- a list with one move more
abbrev noted : PeakedMoves → Move → ℕ → PeakedMoves
noted list move d = record { moves = list.moves ++ move ∷ []; peak = max list.peak d }

-- what a step has come to: the next vertex is no longer to come
pub record HasStepped (surface : OpenView) (first : List ℕ) (old : ReductionView) (next : ℕ) (new : ReductionView) : Type 0 where
  pub leads : LeadsAtPeak surface.mesh first new.list (whole new)
  pub normal : IsNormal surface (settled new)
  pub falls : weight surface new.last new.coming < weight surface old.last (next ∷ old.coming)

-- a spur goes out
spur_goes : (mesh : FaceList) (front rest : List ℕ) (here via : ℕ)
    → apply mesh (front ++ here ∷ via ∷ here ∷ rest) (Remove (length front) (record { 0 = via })) ≡ Some (front ++ here ∷ rest)
spur_goes mesh front rest here via =
    let some : 0 < length (front ++ here ∷ via ∷ here ∷ rest) = rw length-append (omega arith) in
    (by_replacing mesh (front ++ here ∷ via ∷ here ∷ rest) (front ++ here ∷ rest) (Remove (length front) (record { 0 = via })) some).1
    (record {
      before = front;
      part = here ∷ via ∷ here ∷ [];
      other = here ∷ [];
      after = rest;
      walk_is = sym (append_assoc front (here ∷ via ∷ here ∷ []) rest);
      next_is = sym (append_assoc front (here ∷ []) rest);
      place = refl;
      replaces = (here, refl, refl);
    })

stepped_back : {surface : OpenView} {first : List ℕ} {old : ReductionView} {next : ℕ} {new : ReductionView} → HasFaceParents surface
    → LeadsAtPeak surface.mesh first old.list (old.front ++ old.last ∷ next ∷ old.coming) → IsNormal surface (settled old)
    → StepsBack old next new → HasStepped surface first old next new
stepped_back {surface} {first} {old} {next} {new} has leads normal step =
    let mesh : FaceList = surface.mesh in
    let from : old.front ++ old.last ∷ next ∷ old.coming ≡ new.front ++ next ∷ old.last ∷ next ∷ new.coming =
    ap (λ (l : List ℕ). l ++ old.last ∷ next ∷ old.coming) step.front ∙ append_assoc new.front (next ∷ []) (old.last ∷ next ∷ old.coming)
    ∙ ap (λ (l : List ℕ). new.front ++ next ∷ old.last ∷ next ∷ l) (sym step.coming) in
    let to : new.front ++ next ∷ new.coming ≡ whole new = ap (λ (x : ℕ). new.front ++ x ∷ new.coming) (sym step.last) in
    let count : length new.front + length new.coming ≡ darts (new.front ++ next ∷ new.coming) =
    omega (arith, length-append new.front (next ∷ new.coming)) in
    let settled_is : settled old ≡ (new.front ++ next ∷ []) ++ old.last ∷ [] = ap (λ (l : List ℕ). l ++ old.last ∷ []) step.front in
    let parts : IsNormal surface ((new.front ++ next ∷ []) ++ old.last ∷ []) = subst (IsNormal surface) settled_is normal in
    let n : ℕ = length new.front in
    let long : length (new.front ++ next ∷ []) ≡ n + 1 = length-append new.front (next ∷ []) in
    let here : get_or ((new.front ++ next ∷ []) ++ old.last ∷ []) n 0 ≡ next =
    get_or_append_left (new.front ++ next ∷ []) (old.last ∷ []) 0 n (omega (arith, long)) ∙ seam new.front next [] in
    let there : get_or ((new.front ++ next ∷ []) ++ old.last ∷ []) (n + 1) 0 ≡ old.last =
    ap (λ (j : ℕ). get_or ((new.front ++ next ∷ []) ++ old.last ∷ []) j 0) (sym long) ∙ seam (new.front ++ next ∷ []) old.last [] in
    let free : IsParentEdge surface next old.last → ⊥ = subst (λ (a : ℕ). IsParentEdge surface a old.last → ⊥) here
    (subst (λ (b : ℕ). IsParentEdge surface (get_or ((new.front ++ next ∷ []) ++ old.last ∷ []) n 0) b → ⊥) there
    (parts.no_parent n (omega (arith, long, length-append (new.front ++ next ∷ []) (old.last ∷ []))))) in
    let free_back : IsParentEdge surface old.last next → ⊥ =
    λ edge. free (edge.0, edge.1, swap_ends mesh (parent_of surface edge.0) old.last next edge.2) in
    record {
      leads =
          subst (LeadsAtPeak mesh first new.list) to
          (one_more mesh first (new.front ++ next ∷ old.last ∷ next ∷ new.coming) (new.front ++ next ∷ new.coming)
          (Remove n (record { 0 = old.last })) old.list new.list
          (subst (LeadsAtPeak mesh first old.list) from leads) (spur_goes mesh new.front new.coming next old.last)
          (step.list ∙ ap (λ (d : ℕ). noted old.list (Remove n (record { 0 = old.last })) d) count));
      normal =
          subst (λ (x : ℕ). IsNormal surface (new.front ++ x ∷ [])) (sym step.last)
          (normal_front (new.front ++ next ∷ []) (old.last ∷ []) parts);
      falls =
          (let fewer : weight surface old.last (next ∷ old.coming) ≡ suc (weight surface next old.coming) =
          weight_free old.last next old.coming has free_back in
          let same : weight surface new.last new.coming ≡ weight surface next old.coming =
          ap (λ (x : ℕ). weight surface x new.coming) step.last ∙ ap (weight surface next) step.coming in
          omega (arith, fewer, same));
    }

stepped_on : {surface : OpenView} {first : List ℕ} {old : ReductionView} {next : ℕ} {new : ReductionView} → HasFaceParents surface
    → LeadsAtPeak surface.mesh first old.list (old.front ++ old.last ∷ next ∷ old.coming) → IsNormal surface (settled old)
    → StepsOn surface old next new → HasStepped surface first old next new
stepped_on {surface} {first} {old} {next} has leads normal step =
    subst (HasStepped surface first old next) (sym step.new_is) (record {
      leads = subst (LeadsAtPeak surface.mesh first old.list) (sym (append_assoc old.front (old.last ∷ []) (next ∷ old.coming))) leads;
      normal = normal_more old.front old.last next normal step.no_parent step.no_spur;
      falls =
          (let fewer : weight surface old.last (next ∷ old.coming) ≡ suc (weight surface next old.coming) =
          weight_free old.last next old.coming has step.no_parent in
          omega (arith, fewer));
    })

-- the way along a parent from its end u, and its expansion
record IsWay (surface : OpenView) (f u v corner : ℕ) (forward : Bool) : Type 0 where
  within : corner < length (face_at surface.mesh f)
  along : corners_from (face_at surface.mesh f) forward corner 1 ≡ u ∷ v ∷ []
  around : corners_from (face_at surface.mesh f) (not forward) corner (length (face_at surface.mesh f) - 1)
      ≡ u ∷ expansion surface.mesh (parent_of surface f) u

way_along : {surface : OpenView} {f u v : ℕ} (corner : ℕ) (forward : Bool) → HasFaceParents surface → IsFound surface u v f
    → IsWayAlong surface (parent_of surface f) u corner forward → IsWay surface f u v corner forward
way_along {surface} {f} {u} {v} corner forward has found way =
    grind (arith, head_of, ends_differ, parent_in_mesh, corners_beyond, from_tail, after_back, step_within, from_head)

face_crossed : {surface : OpenView} {f u v : ℕ} (corner : ℕ) (forward : Bool) (front rest : List ℕ) → HasFaceParents surface
    → IsFound surface u v f → IsWayAlong surface (parent_of surface f) u corner forward
    → apply surface.mesh (front ++ u ∷ v ∷ rest) (Across (length front) (record { 0 = f }) corner forward 1)
    ≡ Some (front ++ u ∷ (expansion surface.mesh (parent_of surface f) u ++ rest))
face_crossed {surface} {f} {u} {v} corner forward front rest has found way =
    let w : IsWay surface f u v corner forward = way_along corner forward has found way in
    let exp : List ℕ = expansion surface.mesh (parent_of surface f) u in
    let some : 0 < length (front ++ u ∷ v ∷ rest) = rw length-append (omega arith) in
    (by_replacing surface.mesh (front ++ u ∷ v ∷ rest) (front ++ u ∷ (exp ++ rest))
    (Across (length front) (record { 0 = f }) corner forward 1) some).1 (record {
      before = front;
      part = u ∷ v ∷ [];
      other = u ∷ exp;
      after = rest;
      walk_is = sym (append_assoc front (u ∷ v ∷ []) rest);
      next_is = sym (append_assoc front (u ∷ exp) rest);
      place = refl;
      replaces = (found.within, w.within, omega (arith, w.within), sym w.along, sym w.around);
    })

has_expanded : {surface : OpenView} {first : List ℕ} {old : ReductionView} {next : ℕ} {new : ReductionView} → HasFaceParents surface
    → LeadsAtPeak surface.mesh first old.list (old.front ++ old.last ∷ next ∷ old.coming) → IsNormal surface (settled old)
    → Expands surface old next new → HasStepped surface first old next new
has_expanded {surface} {first} {old} {next} {new} has leads normal step =
    let mesh : FaceList = surface.mesh in
    let f : ℕ = step.face in
    let found : IsFound surface old.last next f = record { within = step.within; joined = step.joined } in
    let exp : List ℕ = expansion mesh (parent_of surface f) old.last in
    let to : old.front ++ old.last ∷ (exp ++ old.coming) ≡ whole new =
    ap (λ (l : List ℕ). old.front ++ old.last ∷ l) (sym step.coming) ∙ ap (λ (x : ℕ). old.front ++ x ∷ new.coming) (sym step.last)
    ∙ ap (λ (l : List ℕ). l ++ new.last ∷ new.coming) (sym step.front) in
    let count : length new.front + length new.coming ≡ darts (old.front ++ old.last ∷ (exp ++ old.coming)) =
    omega (arith, ap (λ (l : List ℕ). length l) to, length-append new.front (new.last ∷ new.coming)) in
    record {
      leads =
          subst (LeadsAtPeak mesh first new.list) to
          (one_more mesh first (old.front ++ old.last ∷ next ∷ old.coming) (old.front ++ old.last ∷ (exp ++ old.coming))
          (Across (length old.front) (record { 0 = f }) step.corner step.forward 1) old.list new.list leads
          (face_crossed step.corner step.forward old.front old.coming has found step.way)
          (step.list ∙ ap (λ (d : ℕ). noted old.list (Across (length old.front) (record { 0 = f }) step.corner step.forward 1) d) count));
      normal =
          subst (λ (l : List ℕ). IsNormal surface (l ++ new.last ∷ [])) (sym step.front)
          (subst (λ (x : ℕ). IsNormal surface (old.front ++ x ∷ [])) (sym step.last) normal);
      falls = grind (arith, weight, weight_parent);
    }

-- a dart weighs one at least
weight_less : (surface : OpenView) (u v : ℕ) (vs : List ℕ) → weight surface v vs < weight surface u (v ∷ vs)
weight_less surface u v vs =
    let act : ℕ → ℕ → ℕ → ℕ = act_fully surface count_on count_in in
    let some : 0 < act 0 u v = level_counts surface (length surface.mesh.faces) 0 u v in
    let more : run act (act 0 u v) v vs ≡ act 0 u v + run act 0 v vs = run_more act (count_from surface (length surface.mesh.faces))
    (act 0 u v) v vs in
    omega (arith, some, more)
  where
    run_more : (act : ℕ → ℕ → ℕ → ℕ) → ((s u v : ℕ) → act (suc s) u v ≡ suc (act s u v)) → (s u : ℕ) (vs : List ℕ)
        → run act s u vs ≡ s + run act 0 u vs
    run_more act one zero u vs = omega arith
    run_more act one (suc s) u vs = omega (arith, run_from act one s u vs, run_more act one s u vs)

has_skipped : {surface : OpenView} {first : List ℕ} {old : ReductionView} {next : ℕ} {new : ReductionView}
    → LeadsAtPeak surface.mesh first old.list (old.front ++ old.last ∷ next ∷ old.coming) → IsNormal surface (settled old)
    → SkipsSpur old next new → HasStepped surface first old next new
has_skipped {surface} {first} {old} {next} {new} leads normal step =
    let mesh : FaceList = surface.mesh in
    let from : old.front ++ old.last ∷ next ∷ old.coming ≡ new.front ++ old.last ∷ next ∷ old.last ∷ new.coming =
    ap (λ (l : List ℕ). old.front ++ old.last ∷ next ∷ l) step.coming
    ∙ ap (λ (l : List ℕ). l ++ old.last ∷ next ∷ old.last ∷ new.coming) (sym step.front) in
    let to : new.front ++ old.last ∷ new.coming ≡ whole new = ap (λ (x : ℕ). new.front ++ x ∷ new.coming) (sym step.last) in
    let count : length new.front + length new.coming ≡ darts (new.front ++ old.last ∷ new.coming) =
    omega (arith, length-append new.front (old.last ∷ new.coming)) in
    record {
      leads =
          subst (LeadsAtPeak mesh first new.list) to
          (one_more mesh first (new.front ++ old.last ∷ next ∷ old.last ∷ new.coming) (new.front ++ old.last ∷ new.coming)
          (Remove (length new.front) (record { 0 = next })) old.list new.list
          (subst (LeadsAtPeak mesh first old.list) from leads) (spur_goes mesh new.front new.coming old.last next)
          (step.list ∙ ap (λ (d : ℕ). noted old.list (Remove (length new.front) (record { 0 = next })) d) count));
      normal =
          subst (λ (l : List ℕ). IsNormal surface (l ++ new.last ∷ [])) (sym step.front)
          (subst (λ (x : ℕ). IsNormal surface (old.front ++ x ∷ [])) (sym step.last) normal);
      falls =
          (let back : weight surface next old.coming ≡ weight surface next (old.last ∷ new.coming) = ap (weight surface next) step.coming in
          let same : weight surface new.last new.coming ≡ weight surface old.last new.coming =
          ap (λ (x : ℕ). weight surface x new.coming) step.last in
          omega (arith, back, same, weight_less surface old.last next old.coming, weight_less surface next old.last new.coming));
    }

-- each step does so
pub has_stepped : {surface : OpenView} {first : List ℕ} (old taken : ReductionView) (next : ℕ) (new : ReductionView)
    → HasFaceParents surface
    → LeadsAtPeak surface.mesh first old.list (whole old) → IsNormal surface (settled old) → IsTaken old next taken
    → IsStep surface taken next new → HasStepped surface first taken next new
has_stepped {surface} {first} old taken next new has leads normal is_taken step =
    let from : LeadsAtPeak surface.mesh first taken.list (taken.front ++ taken.last ∷ next ∷ taken.coming) = grind (arith, whole) in
    let part : IsNormal surface (settled taken) = subst (λ (s : ReductionView). IsNormal surface (settled s)) is_taken normal in
    elim step [
      | inl back ↦ stepped_back has from part back
      | inr more ↦ elim more [
        | inl on ↦ stepped_on has from part on
        | inr rest ↦ elim rest [
          | inl wide ↦ has_expanded has from part wide
          | inr skip ↦ has_skipped from part skip
        ]
      ]
    ]
