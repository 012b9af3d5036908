-- What two walks begin with and end with: taken off, and put back around a list of moves between what is left.
use Rattle.common_ends.proofs.Common.{AreCommonDarts, between, put_around, ◌≡◌, ℕ, ◌+◌, ◌-◌, ◌<◌, ◌≤◌, true, List, [], ◌∷◌, ◌++◌, length, take, drop, get_or, refl, ap, sym, ◌∙◌, subst, arith, append_assoc, length-append, append-nil, drop_more, drop-drop, get_or-append-add, get_or_append_left, get_or-drop, get_or-take, length-drop, length-take-le, take-append-drop, take-take, take_all, take_more, IsTrue, list_in_context, one_after_another, FaceList, is_edge, is_used, Homotopic, PeakedMoves, LeadsAtPeak, raised, all_raised, IsWalk, darts, AreWalkPair, Move, Insert, Remove, Across, VertexName}
use Rattle.common_ends.specs.declared.common_darts.CommonDarts.{CommonDarts}
use Rattle.surf_model.proofs.EdgeLemmas.{edge_swap}
use Rattle.common_ends.proofs.PeakLemmas.{greatest_raised, spur_comes, spur_goes}

-- the last entry of a walk
abbrev last_of : List ℕ → ℕ
last_of walk = get_or walk (darts walk) 0

-- a walk with a last entry
pub last_entry : (walk : List ℕ) → 0 < length walk → walk ≡ take (length walk - 1) walk ++ last_of walk ∷ []
last_entry walk some =
    let n : ℕ = length walk - 1 in
    let whole : n + 1 ≡ length walk = omega (arith, some) in
    sym (take_all (n + 1) walk (omega (arith, whole))) ∙ take_more walk n 0 (omega (arith, some))

-- homotopic walks one after another, and in a longer walk
joined : (mesh : FaceList) (a b c : List ℕ) → Homotopic mesh a b → Homotopic mesh b c → Homotopic mesh a c
joined mesh a b c h k = (h.0 ++ k.0, one_after_another mesh h.0 k.0 a b c h.1 k.1)

within : (mesh : FaceList) (front a b back : List ℕ) → 0 < length a → Homotopic mesh a b
    → Homotopic mesh (front ++ a ++ back) (front ++ b ++ back)
within mesh front a b back some h = (all_raised (length front) h.0, list_in_context mesh h.0 a b front back some h.1)

-- a part in front of a walk is one
pub walk_front : (mesh : FaceList) (front rest : List ℕ) → 0 < length front → IsWalk mesh (front ++ rest) → IsWalk mesh front
walk_front mesh front rest some w = record {
  starts = some;
  used = λ k d l.
      subst (λ (x : ℕ). IsTrue (is_used mesh x)) (get_or_append_left front rest d k l)
      (w.used k d (omega (arith, length-append front rest, l)));
  edges = λ k l.
      let one : get_or (front ++ rest) k 0 ≡ get_or front k 0 = get_or_append_left front rest 0 k (omega arith) in
      let two : get_or (front ++ rest) (k + 1) 0 ≡ get_or front (k + 1) 0 = get_or_append_left front rest 0 (k + 1) (omega arith) in
      rw (← one, ← two) (w.edges k (omega (arith, length-append front rest, l)));
}

-- a part at the end of a walk is one
pub walk_rest : (mesh : FaceList) (front rest : List ℕ) → 0 < length rest → IsWalk mesh (front ++ rest) → IsWalk mesh rest
walk_rest mesh front rest some w = record {
  starts = some;
  used = λ k d l.
      subst (λ (x : ℕ). IsTrue (is_used mesh x)) (get_or-append-add front rest k d)
      (w.used (length front + k) d (omega (arith, length-append front rest, l)));
  edges = λ k l.
      let next : length front + k + 1 ≡ length front + (k + 1) = omega arith in
      let one : get_or (front ++ rest) (length front + k) 0 ≡ get_or rest k 0 = get_or-append-add front rest k 0 in
      let two : get_or (front ++ rest) (length front + k + 1) 0 ≡ get_or rest (k + 1) 0 =
      ap (λ (n : ℕ). get_or (front ++ rest) n 0) next ∙ get_or-append-add front rest (k + 1) 0 in
      subst (λ (x : ℕ). IsTrue (is_edge mesh x (get_or rest (k + 1) 0))) one
      (subst (λ (x : ℕ). IsTrue (is_edge mesh (get_or (front ++ rest) (length front + k) 0) x)) two
      (w.edges (length front + k) (omega (arith, length-append front rest, l))));
}

-- what is alike of two parts that stand between the same
pub record AreBetweenAlike (a b : List ℕ) : Type 0 where
  pub some : 0 < length a
  pub other_some : 0 < length b
  pub starts : get_or a 0 0 ≡ get_or b 0 0
  pub ends : last_of a ≡ last_of b

-- one dart in front is taken off
front_off : (mesh : FaceList) (a b : List ℕ) (u : VertexName) → AreBetweenAlike a b → is_edge mesh (get_or a 0 0) u.0 ≡ true
    → Homotopic mesh (u.0 ∷ a) (u.0 ∷ b) → Homotopic mesh a b
front_off mesh a b u alike edge h =
    let x : ℕ = get_or a 0 0 in
    let a_is : a ≡ x ∷ drop 1 a = drop_more a 0 0 alike.some in
    let b_is : b ≡ x ∷ drop 1 b = drop_more b 0 0 alike.other_some ∙ ap (λ y. y ∷ drop 1 b) (sym alike.starts) in
    let out : Homotopic mesh a (x ∷ u.0 ∷ a) =
    subst (λ (l : List ℕ). Homotopic mesh l (x ∷ u.0 ∷ l)) (sym a_is)
    (Insert 0 u ∷ [], rw (spur_comes mesh [] (drop 1 a) x u edge) refl) in
    let home : Homotopic mesh (x ∷ u.0 ∷ b) b =
    subst (λ (l : List ℕ). Homotopic mesh (x ∷ u.0 ∷ l) l) (sym b_is) (Remove 0 u ∷ [], rw (spur_goes mesh [] (drop 1 b) x u) refl) in
    let across : Homotopic mesh (x ∷ u.0 ∷ a ++ []) (x ∷ u.0 ∷ b ++ []) =
    within mesh (x ∷ []) (u.0 ∷ a) (u.0 ∷ b) [] (omega arith) h in
    let there : Homotopic mesh (x ∷ u.0 ∷ a) (x ∷ u.0 ∷ b) =
    subst (λ (l : List ℕ). Homotopic mesh l (x ∷ u.0 ∷ b)) (append-nil (x ∷ u.0 ∷ a))
    (subst (Homotopic mesh (x ∷ u.0 ∷ a ++ [])) (append-nil (x ∷ u.0 ∷ b)) across) in
    joined mesh a (x ∷ u.0 ∷ a) b out (joined mesh (x ∷ u.0 ∷ a) (x ∷ u.0 ∷ b) b there home)

-- one dart behind is taken off
back_off : (mesh : FaceList) (a b : List ℕ) (w : VertexName) → AreBetweenAlike a b → is_edge mesh (last_of a) w.0 ≡ true
    → Homotopic mesh (a ++ w.0 ∷ []) (b ++ w.0 ∷ []) → Homotopic mesh a b
back_off mesh a b w alike edge h =
    let y : ℕ = last_of a in
    let f : List ℕ = take (length a - 1) a in
    let g : List ℕ = take (length b - 1) b in
    let a_is : a ≡ f ++ y ∷ [] = last_entry a alike.some in
    let b_is : b ≡ g ++ y ∷ [] = last_entry b alike.other_some ∙ ap (λ z. g ++ z ∷ []) (sym alike.ends) in
    let out : Homotopic mesh a (a ++ w.0 ∷ [] ++ y ∷ []) =
    subst (λ (l : List ℕ). Homotopic mesh l (l ++ w.0 ∷ [] ++ y ∷ [])) (sym a_is)
    (subst (Homotopic mesh (f ++ y ∷ [])) (regroup f y w.0) (Insert (length f) w ∷ [], rw (spur_comes mesh f [] y w edge) refl)) in
    let home : Homotopic mesh (b ++ w.0 ∷ [] ++ y ∷ []) b =
    subst (λ (l : List ℕ). Homotopic mesh (l ++ w.0 ∷ [] ++ y ∷ []) l) (sym b_is)
    (subst (λ (l : List ℕ). Homotopic mesh l (g ++ y ∷ [])) (regroup g y w.0)
    (Remove (length g) w ∷ [], rw (spur_goes mesh g [] y w) refl)) in
    let there : Homotopic mesh (a ++ w.0 ∷ [] ++ y ∷ []) (b ++ w.0 ∷ [] ++ y ∷ []) =
    within mesh [] (a ++ w.0 ∷ []) (b ++ w.0 ∷ []) (y ∷ []) (omega (arith, length-append a (w.0 ∷ []))) h in
    joined mesh a (a ++ w.0 ∷ [] ++ y ∷ []) b out
    (joined mesh (a ++ w.0 ∷ [] ++ y ∷ []) (b ++ w.0 ∷ [] ++ y ∷ []) b there home)
  where
    regroup : (f : List ℕ) (y w : ℕ) → f ++ y ∷ w ∷ y ∷ [] ≡ f ++ y ∷ [] ++ w ∷ [] ++ y ∷ []
    regroup f y w = simp append_assoc

-- what stands in front of both is taken off
fronts_off : (mesh : FaceList) (front a b : List ℕ) → AreBetweenAlike a b → IsWalk mesh (front ++ a) → Homotopic mesh (front ++ a)
    (front ++ b)
    → Homotopic mesh a b
fronts_off mesh [] a b alike w h = h
fronts_off mesh (u ∷ front) a b alike w h =
    let some : 0 < length (front ++ a) = omega (arith, length-append front a, alike.some) in
    let edge : is_edge mesh (get_or (front ++ a) 0 0) u ≡ true =
    edge_swap mesh (get_or (front ++ a) 0 0) u ∙ w.edges 0 (omega arith) in
    let rest : IsWalk mesh (front ++ a) = walk_rest mesh (u ∷ []) (front ++ a) some w in
    fronts_off mesh front a b alike rest (front_off mesh (front ++ a) (front ++ b) (record { 0 = u }) (in_front front a b alike) edge h)
  where
    starts : (front a b : List ℕ) → get_or a 0 0 ≡ get_or b 0 0 → get_or (front ++ a) 0 0 ≡ get_or (front ++ b) 0 0
    starts [] a b e = e
    starts (v ∷ front) a b e = refl

    last_behind : (front a : List ℕ) → 0 < length a → last_of (front ++ a) ≡ last_of a
    last_behind front a some =
        let at : length (front ++ a) - 1 ≡ length front + (length a - 1) = omega (arith, length-append front a) in
        ap (λ (n : ℕ). get_or (front ++ a) n 0) at ∙ get_or-append-add front a (length a - 1) 0

    in_front : (front a b : List ℕ) → AreBetweenAlike a b → AreBetweenAlike (front ++ a) (front ++ b)
    in_front front a b alike = record {
      some = omega (arith, length-append front a, alike.some);
      other_some = omega (arith, length-append front b, alike.other_some);
      starts = starts front a b alike.starts;
      ends = last_behind front a alike.some ∙ alike.ends ∙ sym (last_behind front b alike.other_some);
    }

-- what stands behind both is taken off
backs_off : (mesh : FaceList) (back a b : List ℕ) → AreBetweenAlike a b → IsWalk mesh (a ++ back) → Homotopic mesh (a ++ back) (b ++ back)
    → Homotopic mesh a b
backs_off mesh [] a b alike w h =
    subst (λ (l : List ℕ). Homotopic mesh l b) (append-nil a) (subst (Homotopic mesh (a ++ [])) (append-nil b) h)
backs_off mesh (v ∷ back) a b alike w h =
    let walk : IsWalk mesh (a ++ v ∷ [] ++ back) = subst (IsWalk mesh) (sym (append_assoc a (v ∷ []) back)) w in
    let further : Homotopic mesh (a ++ v ∷ [] ++ back) (b ++ v ∷ [] ++ back) =
    subst (λ (l : List ℕ). Homotopic mesh l (b ++ v ∷ [] ++ back)) (sym (append_assoc a (v ∷ []) back))
    (subst (Homotopic mesh (a ++ v ∷ back)) (sym (append_assoc b (v ∷ []) back)) h) in
    let longer : AreBetweenAlike (a ++ v ∷ []) (b ++ v ∷ []) = record {
      some = omega (arith, length-append a (v ∷ []));
      other_some = omega (arith, length-append b (v ∷ []));
      starts = get_or_append_left a (v ∷ []) 0 0 alike.some ∙ alike.starts ∙ sym (get_or_append_left b (v ∷ []) 0 0 alike.other_some);
      ends = last_is a v ∙ sym (last_is b v);
    } in
    let at : length a - 1 + 1 ≡ length a + 0 = omega (arith, alike.some) in
    let edge : is_edge mesh (last_of a) v ≡ true =
    ap (λ (x : ℕ). is_edge mesh x v) (sym (get_or_append_left a (v ∷ back) 0 (length a - 1) (omega (arith, alike.some))))
    ∙ ap (is_edge mesh (get_or (a ++ v ∷ back) (length a - 1) 0))
    (sym (ap (λ (n : ℕ). get_or (a ++ v ∷ back) n 0) at ∙ get_or-append-add a (v ∷ back) 0 0))
    ∙ w.edges (length a - 1) (omega (arith, length-append a (v ∷ back), alike.some)) in
    back_off mesh a b (record { 0 = v }) alike edge (backs_off mesh back (a ++ v ∷ []) (b ++ v ∷ []) longer walk further)
  where
    last_is : (a : List ℕ) (v : ℕ) → last_of (a ++ v ∷ []) ≡ v
    last_is a v =
        let at : length (a ++ v ∷ []) - 1 ≡ length a + 0 = omega (arith, length-append a (v ∷ [])) in
        ap (λ (n : ℕ). get_or (a ++ v ∷ []) n 0) at ∙ get_or-append-add a (v ∷ []) 0 0

-- Two walks taken apart: what they begin with, what is between, and what they end with.
pub record AreParted (mesh : FaceList) (first second : List ℕ) (common : CommonDarts) : Type 0 where
  pub front : List ℕ
  pub back : List ℕ
  pub front_long : length front ≡ common.front
  pub back_long : length back ≡ common.back
  pub first_is : first ≡ front ++ between common.front common.back first ++ back
  pub second_is : second ≡ front ++ between common.front common.back second ++ back
  pub alike : AreBetweenAlike (between common.front common.back first) (between common.front common.back second)

-- a walk is put together of its parts
in_parts : (walk : List ℕ) (front back : ℕ) → front + back < length walk
    → walk ≡ take front walk ++ between front back walk ++ drop (length walk - back) walk
in_parts walk front back l =
    let m : ℕ = length walk - back in
    sym (take-append-drop m walk)
    ∙ ap (λ (x : List ℕ). x ++ drop m walk) (sym (take-append-drop front (take m walk))
    ∙ ap (λ (x : List ℕ). x ++ between front back walk) (take-take front m walk (omega arith)))

pub length-between : (walk : List ℕ) (front back : ℕ) → front + back < length walk → length (between front back walk) ≡ length walk - back -
    front
length-between walk front back l =
    length-drop front (take (length walk - back) walk) ∙ ap (λ (n : ℕ). n - front) (length-take-le (length walk - back) walk (omega arith))

entry_between : (walk : List ℕ) (front back k : ℕ) → front + k < length walk - back
    → get_or (between front back walk) k 0 ≡ get_or walk (front + k) 0
entry_between walk front back k l =
    get_or-drop front (take (length walk - back) walk) k 0 ∙ get_or-take (length walk - back) walk (front + k) 0 l

last_between : (walk : List ℕ) (front back : ℕ) → front + back < length walk
    → last_of (between front back walk) ≡ get_or (drop (darts walk - back) walk) 0 0
last_between walk front back l =
    let k : ℕ = length (between front back walk) - 1 in
    let at : front + k ≡ darts walk - back + 0 = omega (arith, length-between walk front back l, l) in
    entry_between walk front back k (omega (arith, at, l)) ∙ ap (λ (n : ℕ). get_or walk n 0) at
    ∙ sym (get_or-drop (darts walk - back) walk 0 0)

first_between : (walk : List ℕ) (front back : ℕ) → front + back < length walk
    → get_or (between front back walk) 0 0 ≡ get_or (take (front + 1) walk) front 0
first_between walk front back l =
    let at : front + 0 ≡ front = omega arith in
    entry_between walk front back 0 (omega arith) ∙ ap (λ (n : ℕ). get_or walk n 0) at ∙ sym
    (get_or-take (front + 1) walk front 0 (omega arith))

pub parted : (mesh : FaceList) (first second : List ℕ) (common : CommonDarts) → IsWalk mesh first → IsWalk mesh second
    → AreCommonDarts first second common → AreParted mesh first second common
parted mesh first second common w z c =
    let front : ℕ = common.front in
    let back : ℕ = common.back in
    let in_first : front + back < length first = omega (arith, c.in_first, w.starts) in
    let in_second : front + back < length second = omega (arith, c.in_second, z.starts) in
    let fronts : take front first ≡ take front second =
    sym (take-take front (front + 1) first (omega arith)) ∙ ap (take front) c.begin ∙ take-take front (front + 1) second (omega arith) in
    let first_at : darts first - back + 1 ≡ length first - back = omega (arith, in_first) in
    let second_at : darts second - back + 1 ≡ length second - back = omega (arith, in_second) in
    let backs : drop (length first - back) first ≡ drop (length second - back) second =
    ap (λ (n : ℕ). drop n first) (sym first_at) ∙ sym (drop-drop 1 (darts first - back) first) ∙ ap (drop 1) c.close
    ∙ drop-drop 1 (darts second - back) second ∙ ap (λ (n : ℕ). drop n second) second_at in
    record {
      front = take front first;
      back = drop (length first - back) first;
      front_long = length-take-le front first (omega (arith, in_first));
      back_long = length-drop (length first - back) first ∙ omega (arith, in_first);
      first_is = in_parts first front back in_first;
      second_is = in_parts second front back in_second
          ∙ ap (λ (x : List ℕ). x ++ between front back second ++ drop (length second - back) second) (sym fronts)
          ∙ ap (λ (x : List ℕ). take front first ++ between front back second ++ x) (sym backs);
      alike = record {
        some = omega (arith, length-between first front back in_first, in_first);
        other_some = omega (arith, length-between second front back in_second, in_second);
        starts = first_between first front back in_first ∙ ap (λ (l : List ℕ). get_or l front 0) c.begin
            ∙ sym (first_between second front back in_second);
        ends = last_between first front back in_first ∙ ap (λ (l : List ℕ). get_or l 0 0) c.close
            ∙ sym (last_between second front back in_second);
      };
    }

walk_between : (mesh : FaceList) (front walk back : List ℕ) → 0 < length walk → IsWalk mesh (front ++ walk ++ back) → IsWalk mesh walk
walk_between mesh front walk back some w =
    walk_rest mesh front walk some
    (walk_front mesh (front ++ walk) back (omega (arith, length-append front walk, some)) w)

-- what is left are walks with common ends
pub still_together : (mesh : FaceList) (first second : List ℕ) (common : CommonDarts) → IsWalk mesh first → IsWalk mesh second
    → (p : AreParted mesh first second common)
    → AreWalkPair mesh (between common.front common.back first) (between common.front common.back second)
still_together mesh first second common w z p = record {
  first_walk = walk_between mesh p.front (between common.front common.back first) p.back p.alike.some (subst (IsWalk mesh) p.first_is w);
  second_walk = walk_between mesh p.front (between common.front common.back second) p.back p.alike.other_some
      (subst (IsWalk mesh) p.second_is z);
  ends = record { starts = p.alike.starts; ends = p.alike.ends };
}

-- homotopic walks are so between what they have in common
pub homotopic_between : (mesh : FaceList) (first second : List ℕ) (common : CommonDarts) → IsWalk mesh first
    → (p : AreParted mesh first second common) → Homotopic mesh first second
    → Homotopic mesh (between common.front common.back first) (between common.front common.back second)
homotopic_between mesh first second common w p h =
    let a : List ℕ = between common.front common.back first in
    let b : List ℕ = between common.front common.back second in
    let first_is : first ≡ p.front ++ (a ++ p.back) = p.first_is ∙ append_assoc p.front a p.back in
    let second_is : second ≡ p.front ++ (b ++ p.back) = p.second_is ∙ append_assoc p.front b p.back in
    let whole : Homotopic mesh (p.front ++ (a ++ p.back)) (p.front ++ (b ++ p.back)) =
    subst (λ (l : List ℕ). Homotopic mesh l (p.front ++ (b ++ p.back))) first_is (subst (Homotopic mesh first) second_is h) in
    let walk : IsWalk mesh (p.front ++ (a ++ p.back)) = subst (IsWalk mesh) first_is w in
    let behind : AreBetweenAlike (a ++ p.back) (b ++ p.back) = with_back a b p.back p.alike in
    backs_off mesh p.back a b p.alike (walk_rest mesh p.front (a ++ p.back) behind.some walk)
    (fronts_off mesh p.front (a ++ p.back) (b ++ p.back) behind walk whole)
  where
    same_last : (a b back : List ℕ) → AreBetweenAlike a b → last_of (a ++ back) ≡ last_of (b ++ back)
    same_last a b [] alike = ap last_of (append-nil a) ∙ alike.ends ∙ sym (ap last_of (append-nil b))
    same_last a b (v ∷ back) alike =
        let at_a : length (a ++ v ∷ back) - 1 ≡ length a + length back = omega (arith, length-append a (v ∷ back)) in
        let at_b : length (b ++ v ∷ back) - 1 ≡ length b + length back = omega (arith, length-append b (v ∷ back)) in
        ap (λ (n : ℕ). get_or (a ++ v ∷ back) n 0) at_a ∙ get_or-append-add a (v ∷ back) (length back) 0
        ∙ sym (ap (λ (n : ℕ). get_or (b ++ v ∷ back) n 0) at_b ∙ get_or-append-add b (v ∷ back) (length back) 0)

    with_back : (a b back : List ℕ) → AreBetweenAlike a b → AreBetweenAlike (a ++ back) (b ++ back)
    with_back a b back alike = record {
      some = omega (arith, length-append a back, alike.some);
      other_some = omega (arith, length-append b back, alike.other_some);
      starts = get_or_append_left a back 0 0 alike.some ∙ alike.starts ∙ sym (get_or_append_left b back 0 0 alike.other_some);
      ends = same_last a b back alike;
    }

-- the moves between lead from the whole to the whole, at the peak with what stands around
pub leads_whole : (mesh : FaceList) (first second : List ℕ) (common : CommonDarts) (p : AreParted mesh first second common)
    → (list whole : PeakedMoves) → LeadsAtPeak mesh (between common.front common.back first) list (between common.front common.back second)
    → whole ≡ put_around common list → LeadsAtPeak mesh first whole second
leads_whole mesh first second common p list whole h is =
    let a : List ℕ = between common.front common.back first in
    let b : List ℕ = between common.front common.back second in
    let raised_moves : PeakedMoves = record {
      moves = all_raised (length p.front) list.moves;
      peak = length p.front + length p.back + list.peak;
    } in
    let there : LeadsAtPeak mesh (p.front ++ a ++ p.back) raised_moves (p.front ++ b ++ p.back) = record {
      leads = list_in_context mesh list.moves a b p.front p.back p.alike.some h.leads;
      peak = ap (λ (n : ℕ). length p.front + length p.back + n) h.peak
          ∙ sym (greatest_raised mesh list.moves a b p.front p.back p.alike.some h.leads);
    } in
    let counted : raised_moves ≡ whole =
    ap (λ (n : ℕ). record { moves = all_raised n list.moves; peak = n + length p.back + list.peak }) p.front_long
    ∙ ap (λ (n : ℕ). record { moves = all_raised common.front list.moves; peak = common.front + n + list.peak }) p.back_long ∙ sym is in
    subst (λ (l : List ℕ). LeadsAtPeak mesh l whole second) (sym p.first_is)
    (subst (LeadsAtPeak mesh (p.front ++ a ++ p.back) whole) (sym p.second_is)
    (subst (λ (l : PeakedMoves). LeadsAtPeak mesh (p.front ++ a ++ p.back) l (p.front ++ b ++ p.back)) counted there))

-- so are walks whose parts between are
pub homotopic_around : (mesh : FaceList) (first second : List ℕ) (common : CommonDarts) → (p : AreParted mesh first second common)
    → Homotopic mesh (between common.front common.back first) (between common.front common.back second) → Homotopic mesh first second
homotopic_around mesh first second common p h =
    let a : List ℕ = between common.front common.back first in
    let b : List ℕ = between common.front common.back second in
    subst (λ (l : List ℕ). Homotopic mesh l second) (sym p.first_is)
    (subst (Homotopic mesh (p.front ++ a ++ p.back)) (sym p.second_is) (within mesh p.front a b p.back p.alike.some h))

-- what is left of two walks
pub record AreLeft (first second : List ℕ) (common : CommonDarts) (near far : List ℕ) : Type 0 where
  pub near_is : near ≡ between common.front common.back first
  pub far_is : far ≡ between common.front common.back second

-- the darts of what is left
pub record HaveFewerDarts (first second near far : List ℕ) (common : CommonDarts) : Type 0 where
  pub in_near : darts near + common.front + common.back ≡ darts first
  pub in_far : darts far + common.front + common.back ≡ darts second

-- the darts of a walk are those that are left and those that are taken off
rest_and_ends : (walk rest : List ℕ) (front back : ℕ) → 0 < length walk → front + back ≤ darts walk → rest ≡ between front back walk
    → darts rest + front + back ≡ darts walk
rest_and_ends walk rest front back some within is =
    let long : length rest ≡ length walk - back - front =
    ap (λ (l : List ℕ). length l) is ∙ length-between walk front back (omega (arith, some, within)) in
    omega (arith, long, some, within)

pub fewer_darts : (first second near far : List ℕ) (common : CommonDarts) → 0 < length first → 0 < length second
    → AreCommonDarts first second common → AreLeft first second common near far → HaveFewerDarts first second near far common
fewer_darts first second near far common some other_some c left = record {
  in_near = rest_and_ends first near common.front common.back some c.in_first left.near_is;
  in_far = rest_and_ends second far common.front common.back other_some c.in_second left.far_is;
}

pub left_together : (mesh : FaceList) (first second : List ℕ) (common : CommonDarts) (near far : List ℕ) → IsWalk mesh first
    → IsWalk mesh second → AreCommonDarts first second common → AreLeft first second common near far → AreWalkPair mesh near far
left_together mesh first second common near far w z c left =
    subst (λ l. AreWalkPair mesh l far) (sym left.near_is)
    (subst (λ l. AreWalkPair mesh (between common.front common.back first) l) (sym left.far_is)
    (still_together mesh first second common w z (parted mesh first second common w z c)))

-- where no moves join what is left, none join the walks
pub left_apart : (mesh : FaceList) (first second : List ℕ) (common : CommonDarts) (near far : List ℕ) → IsWalk mesh first
    → IsWalk mesh second → AreCommonDarts first second common → AreLeft first second common near far
    → (Homotopic mesh near far → ⊥) → Homotopic mesh first second → ⊥
left_apart mesh first second common near far w z c left apart h =
    apart
    (subst (λ (l : List ℕ). Homotopic mesh l far) (sym left.near_is)
    (subst (λ (l : List ℕ). Homotopic mesh (between common.front common.back first) l) (sym left.far_is)
    (homotopic_between mesh first second common w (parted mesh first second common w z c) h)))

-- and a list that joins what is left joins the walks
pub left_leads : (mesh : FaceList) (first second : List ℕ) (common : CommonDarts) (near far : List ℕ) (list whole : PeakedMoves)
    → IsWalk mesh first → IsWalk mesh second → AreCommonDarts first second common → AreLeft first second common near far
    → LeadsAtPeak mesh near list far → whole ≡ put_around common list → LeadsAtPeak mesh first whole second
left_leads mesh first second common near far list whole w z c left h is =
    leads_whole mesh first second common (parted mesh first second common w z c) list whole
    (subst (λ (l : List ℕ). LeadsAtPeak mesh l list (between common.front common.back second)) left.near_is
    (subst (λ (l : List ℕ). LeadsAtPeak mesh near list l) left.far_is h))
    is

-- moves where nothing stands in front
pub raised_nowhere : (moves : List Move) → all_raised 0 moves ≡ moves
raised_nowhere [] = refl
raised_nowhere (move ∷ moves) = ap (λ (m : Move). m ∷ all_raised 0 moves) (one move)
    ∙ ap (λ (l : List Move). move ∷ l) (raised_nowhere moves)
  where
    one : (move : Move) → raised 0 move ≡ move
    one (Insert at via) = let same : 0 + at ≡ at = omega arith in ap (λ (n : ℕ). Insert n via) same
    one (Remove at via) = let same : 0 + at ≡ at = omega arith in ap (λ (n : ℕ). Remove n via) same
    one (Across at face corner forward taken) =
        let same : 0 + at ≡ at = omega arith in
        ap (λ (n : ℕ). Across n face corner forward taken) same
