-- Ways back as lists.
use Rattle.move_lifting.proofs.Common.{last_entry, last_of, walk_way, IsWay, back, start_used, backward, ◌≡◌, inl, inr, ℕ, suc, ◌+◌, ◌-◌, ◌<◌, ◌≤◌, List, [], ◌∷◌, ◌++◌, length, take, drop, get_or, refl, ap, sym, ◌∙◌, subst, arith, append_assoc, length-append, cases_lt, common_steps, append-nil, get_or_append_left, get_or-append-add, get_or-drop, get_or-take, take_more, take-take, take-append-drop, drop_more, drop-drop, drop-map, drop-append-le, length-drop, length-take-le, FaceList, numbers, IsWalk, VertexName}
use Rattle.move_lifting.proofs.ExpandLemmas.{one_pending, length-numbers}

last-more : (u w : ℕ) (xs : List ℕ) → last_of (u ∷ w ∷ xs) ≡ last_of (w ∷ xs)
last-more u w xs = grind arith

-- the last entry of a list that stands behind another
pub last_behind : (front rest : List ℕ) → 0 < length rest → last_of (front ++ rest) ≡ last_of rest
last_behind front rest some = grind (arith, common_steps)

-- the same of a list that goes on from the last entry of the other
pub last_joined : (front rest : List ℕ) → 0 < length front → last_of (last_of front ∷ rest) ≡ last_of (front ++ rest)
last_joined front rest some = grind (arith, common_steps, last_entry, last_behind)

-- the way back along one step more
pub backward-push : (u v : ℕ) (xs : List ℕ) → backward u (xs ++ v ∷ []) ≡ last_of (u ∷ xs) ∷ backward u xs
backward-push u v [] = refl
backward-push u v (w ∷ xs) =
    ap (λ (l : List ℕ). l ++ u ∷ []) (backward-push w v xs) ∙ ap (λ (x : ℕ). x ∷ backward u (w ∷ xs)) (sym (last-more u w xs))

pub length-backward : (u : ℕ) (xs : List ℕ) → length (backward u xs) ≡ length xs
length-backward u [] = refl
length-backward u (w ∷ xs) = length-append (backward w xs) (u ∷ []) ∙ omega (arith, length-backward w xs)

-- its entries
pub backward_at : (u : ℕ) (xs : List ℕ) (k : ℕ) → k < length xs → get_or (backward u xs) k 0 ≡ get_or (u ∷ xs) (length xs - 1 - k) 0
backward_at u [] k l = absurd (omega arith)
backward_at u (w ∷ xs) k l = elim (cases_lt k (length xs)) [
  | inl within ↦
      let at : length (w ∷ xs) - 1 - k ≡ suc (length xs - 1 - k) = omega arith in
      get_or_append_left (backward w xs) (u ∷ []) 0 k (omega (arith, length-backward w xs)) ∙ backward_at w xs k within
      ∙ sym (ap (λ (n : ℕ). get_or (u ∷ w ∷ xs) n 0) at)
  | inr past ↦
      let at : k ≡ length (backward w xs) + 0 = omega (arith, length-backward w xs) in
      let first : length (w ∷ xs) - 1 - k ≡ 0 = omega arith in
      ap (λ (n : ℕ). get_or (backward w xs ++ u ∷ []) n 0) at ∙ get_or-append-add (backward w xs) (u ∷ []) 0 0
      ∙ sym (ap (λ (n : ℕ). get_or (u ∷ w ∷ xs) n 0) first)
]

-- what stands between two places of a list
pub between : (xs : List ℕ) (n k : ℕ) → n ≤ k → take k xs ≡ take n xs ++ drop n (take k xs)
between xs n k le = sym (take-append-drop n (take k xs)) ∙ ap (λ (l : List ℕ). l ++ drop n (take k xs)) (take-take n k xs le)

-- the way back to a place, one step further on
pub back_more : (xs : List ℕ) (n k : ℕ) → 0 < n → n ≤ k → k < length xs
    → backward (last_of (take n xs)) (drop n (take (k + 1) xs)) ≡ last_of (take k xs) ∷ backward (last_of (take n xs)) (drop n (take k xs))
back_more xs n k some le l =
    let v : ℕ = get_or xs k 0 in
    let out : List ℕ = drop n (take k xs) in
    let long : length (take k xs) ≡ k = length-take-le k xs (omega arith) in
    let more : drop n (take (k + 1) xs) ≡ out ++ v ∷ [] =
    ap (drop n) (take_more xs k 0 l) ∙ drop-append-le n (take k xs) (v ∷ []) (omega arith) in
    let first : 0 < length (take n xs) = omega (arith, length-take-le n xs (omega arith)) in
    let end : last_of (last_of (take n xs) ∷ out) ≡ last_of (take k xs) =
    last_joined (take n xs) out first ∙ ap last_of (sym (between xs n k le)) in
    ap (backward (last_of (take n xs))) more ∙ backward-push (last_of (take n xs)) v out
    ∙ ap (λ (x : ℕ). x ∷ backward (last_of (take n xs)) out) end

-- the way back along two lists, one behind the other
pub backward-append : (u : ℕ) (xs ys : List ℕ) → backward u (xs ++ ys) ≡ backward (last_of (u ∷ xs)) ys ++ backward u xs
backward-append u [] ys = sym (append-nil (backward u ys))
backward-append u (w ∷ xs) ys =
    ap (λ (l : List ℕ). l ++ u ∷ []) (backward-append w xs ys) ∙ append_assoc (backward (last_of (w ∷ xs)) ys) (backward w xs) (u ∷ [])
    ∙ ap (λ (x : ℕ). backward x ys ++ backward u (w ∷ xs)) (sym (last-more u w xs))

-- the way back ends where the way began
pub last_back : (u : ℕ) (xs : List ℕ) → last_of (last_of (u ∷ xs) ∷ backward u xs) ≡ u
last_back u [] = refl
last_back u (w ∷ xs) = last_behind (last_of (u ∷ w ∷ xs) ∷ backward w xs) (u ∷ []) (omega arith)

-- a way taken apart
pub way_apart : (mesh : FaceList) (u v : ℕ) (rest more : List ℕ) → IsWay mesh u v (rest ++ more)
    → IsWay mesh u (last_of (u ∷ rest)) rest × IsWay mesh (last_of (u ∷ rest)) v more
way_apart mesh u v [] more h = ((refl, start_used mesh u v more h), h)
way_apart mesh u v (w ∷ rest) more h =
    let apart = way_apart mesh w v rest more h.1 in
    let same : last_of (w ∷ rest) ≡ last_of (u ∷ w ∷ rest) = sym (last-more u w rest) in
    (subst (λ (x : ℕ). IsWay mesh u x (w ∷ rest)) same (h.0, apart.0), subst (λ (x : ℕ). IsWay mesh x v more) same apart.1)

-- a walk as a way
pub way_of : (mesh : FaceList) (u : ℕ) (rest : List ℕ) → IsWalk mesh (u ∷ rest) → IsWay mesh u (last_of (u ∷ rest)) rest
way_of mesh u rest w = grind (arith, common_steps, walk_way)

-- one name more
pub one_longer : (xs ys : List VertexName) (v : VertexName) → xs ≡ ys ++ v ∷ [] → length xs ≡ length ys + 1
one_longer xs ys v is = ap (λ (l : List VertexName). length l) is ∙ length-append ys (v ∷ [])

-- the way back along part of a list of names is that of the loop
pub back_so_far : (walk back new : List VertexName) (done : ℕ) (v : VertexName) → length back + 1 ≡ done → done < length walk
    → new ≡ back ++ v ∷ []
    → v.0 ≡ get_or (numbers walk) (length walk - done - 1) 0
    → numbers back ≡ take (length back) (backward (get_or (numbers walk) 0 0) (drop 1 (numbers walk)))
    → numbers new ≡ take (length new) (backward (get_or (numbers walk) 0 0) (drop 1 (numbers walk)))
back_so_far walk back new done v count within pushed is so_far =
    let w : List ℕ = numbers walk in
    let x : ℕ = get_or w 0 0 in
    let rest : List ℕ = drop 1 w in
    let long : length w ≡ length walk = length-numbers walk in
    let rest_long : length rest ≡ length w - 1 = length-drop 1 w in
    let some : 0 < length w = omega arith in
    let whole : x ∷ rest ≡ w = sym (drop_more w 0 0 some) in
    let next : get_or (backward x rest) (length back) 0 ≡ v.0 =
    backward_at x rest (length back) (omega arith) ∙ ap (λ (l : List ℕ). get_or l (length rest - 1 - length back) 0) whole
    ∙ ap (λ (n : ℕ). get_or w n 0) (let at : length rest - 1 - length back ≡ length walk - done - 1 = omega arith in at) ∙ sym is in
    let more : take (length back + 1) (backward x rest) ≡ take (length back) (backward x rest) ++ v.0 ∷ [] =
    take_more (backward x rest) (length back) 0 (omega (arith, length-backward x rest))
    ∙ ap (λ (y : ℕ). take (length back) (backward x rest) ++ y ∷ []) next in
    let new_long : length back + 1 ≡ length new = sym (ap (λ (l : List VertexName). length l) pushed ∙ length-append back (v ∷ [])) in
    one_pending new back v pushed ∙ ap (λ (l : List ℕ). l ++ v.0 ∷ []) so_far ∙ sym more ∙ ap (λ (n : ℕ). take n (backward x rest)) new_long

-- the way back to the end of a part of a list of names
pub back_from : (walk part : List VertexName) (n : ℕ) → 0 < n → n ≤ length walk → part ≡ drop (n - 1) walk
    → backward (get_or (numbers part) 0 0) (drop 1 (numbers part)) ≡ backward (last_of (take n (numbers walk))) (drop n (numbers walk))
back_from walk part n some le is =
    let w : List ℕ = numbers walk in
    let part_is : numbers part ≡ drop (n - 1) w = ap numbers is ∙ sym (drop-map (λ (v : VertexName). v.0) (n - 1) walk) in
    let at : n - 1 + 0 ≡ length (take n w) - 1 =
    omega (arith, length-take-le n w (omega (arith, length-numbers walk)), length-numbers walk) in
    let first : get_or (numbers part) 0 0 ≡ last_of (take n w) =
    ap (λ (l : List ℕ). get_or l 0 0) part_is ∙ get_or-drop (n - 1) w 0 0 ∙ ap (λ (k : ℕ). get_or w k 0) at
    ∙ sym (get_or-take n w (length (take n w) - 1) 0 (omega (arith, length-take-le n w (omega (arith, length-numbers walk))))) in
    let next : n - 1 + 1 ≡ n = omega arith in
    let rest : drop 1 (numbers part) ≡ drop n w = ap (drop 1) part_is ∙ drop-drop 1 (n - 1) w ∙ ap (λ (k : ℕ). drop k w) next in
    ap (λ (x : ℕ). backward x (drop 1 (numbers part))) first ∙ ap (backward (last_of (take n w))) rest
