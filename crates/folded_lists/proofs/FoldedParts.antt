-- The fold of a walk that is parted at an entry, and of one where a part is replaced by another.
use Rattle.folded_lists.proofs.Common.{fold, steps_behind, folded, IsMoveBelow, ◌≡◌, inl, inr, ℕ, ◌+◌, ◌<◌, ◌≤◌, true, false, List, [], ◌∷◌, ◌++◌, length, map, refl, ap, sym, ◌∙◌, arith, append_assoc, cases_eq, eq-eqb, ne_eqb, length-append, length-map, map-append, Some, ◌==◌, by_replacing, FaceList, apply, Move, end_from}

-- ---- lists of vertices that follow one another

steps-append : (u : ℕ) (xs ys : List ℕ) → steps_behind u (xs ++ ys) ≡ steps_behind u xs ++ steps_behind (end_from u xs) ys
steps-append u [] ys = refl
steps-append u (x ∷ xs) ys =
    elim (cases_eq x u) [
      | inl same ↦
          (let test : (x == u) ≡ true = eq-eqb x u same in
          rw test
          (ap (λ (v : ℕ). steps_behind v (xs ++ ys)) (sym same) ∙ steps-append x xs ys
          ∙ ap (λ (v : ℕ). steps_behind v xs ++ steps_behind (end_from x xs) ys) same))
      | inr other ↦
          (let test : (x == u) ≡ false = ne_eqb x u other in
          rw test (ap (λ (l : List ℕ). x ∷ l) (steps-append x xs ys)))
    ]

steps-length : (u : ℕ) (xs : List ℕ) → length (steps_behind u xs) ≤ length xs
steps-length u [] = omega arith
steps-length u (x ∷ xs) =
    elim (cases_eq x u) [
      | inl same ↦
          (let test : (x == u) ≡ true = eq-eqb x u same in
          rw test (omega (arith, steps-length u xs)))
      | inr other ↦
          (let test : (x == u) ≡ false = ne_eqb x u other in
          rw test (omega (arith, steps-length x xs)))
    ]

end-map : (f : ℕ → ℕ) (u : ℕ) (xs : List ℕ) → end_from (f u) (map f xs) ≡ f (end_from u xs)
end-map f u [] = refl
end-map f u (x ∷ xs) = end-map f x xs

pub end-last : (u : ℕ) (xs : List ℕ) (v : ℕ) → end_from u (xs ++ v ∷ []) ≡ v
end-last u [] v = refl
end-last u (x ∷ xs) v = end-last x xs v

-- steps from a vertex end at the last of the vertices
last_step : (u : ℕ) (xs : List ℕ) → (front : List ℕ) × (u ∷ steps_behind u xs ≡ front ++ end_from u xs ∷ [])
last_step u [] = ([], refl)
last_step u (x ∷ xs) =
    elim (cases_eq x u) [
      | inl same ↦
          (let test : (x == u) ≡ true = eq-eqb x u same in
          let rest = last_step x xs in
          (rest.0, rw test (ap (λ (v : ℕ). v ∷ steps_behind v xs) (sym same) ∙ rest.1)))
      | inr other ↦
          (let test : (x == u) ≡ false = ne_eqb x u other in
          let rest = last_step x xs in
          (u ∷ rest.0, rw test (ap (λ (l : List ℕ). u ∷ l) rest.1)))
    ]

-- the fold of the vertices that come behind one
abbrev pub folds_behind : ℕ → ℕ → List ℕ → List ℕ
folds_behind count u xs = steps_behind (fold count u) (map (fold count) xs)

behind-append : (count u : ℕ) (xs ys : List ℕ)
    → folds_behind count u (xs ++ ys) ≡ folds_behind count u xs ++ folds_behind count (end_from u xs) ys
behind-append count u xs ys =
    ap (steps_behind (fold count u)) (map-append (fold count) xs ys)
    ∙ steps-append (fold count u) (map (fold count) xs) (map (fold count) ys)
    ∙ ap (λ (v : ℕ). folds_behind count u xs ++ steps_behind v (map (fold count) ys)) (end-map (fold count) u xs)

-- ---- walks in parts

-- the fold up to an entry ends with the fold of that entry
pub front_ends : (count : ℕ) (before : List ℕ) (v : ℕ)
    → (front : List ℕ) × (folded count (before ++ v ∷ []) ≡ front ++ fold count v ∷ [])
front_ends count [] v = ([], refl)
front_ends count (x ∷ xs) v =
    let last = last_step (fold count x) (map (fold count) (xs ++ v ∷ [])) in
    (last.0, last.1 ∙ ap (λ (w : ℕ). last.0 ++ w ∷ []) (end-map (fold count) x (xs ++ v ∷ []) ∙ ap (fold count) (end-last x xs v)))

-- a walk that is parted behind an entry
pub parted : (count : ℕ) (before : List ℕ) (v : ℕ) (rest : List ℕ)
    → folded count ((before ++ v ∷ []) ++ rest) ≡ folded count (before ++ v ∷ []) ++ folds_behind count v rest
parted count [] v rest = refl
parted count (x ∷ xs) v rest =
    ap (λ (l : List ℕ). fold count x ∷ l)
    (behind-append count x (xs ++ v ∷ []) rest
    ∙ ap (λ (w : ℕ). folds_behind count x (xs ++ v ∷ []) ++ folds_behind count w rest) (end-last x xs v))

pub length-folded : (count : ℕ) (walk : List ℕ) → length (folded count walk) ≤ length walk
length-folded count [] = omega arith
length-folded count (x ∷ xs) = omega (arith, steps-length (fold count x) (map (fold count) xs), length-map xs (fold count))

-- and a part behind that entry is replaced
pub in_three : (count : ℕ) (before front : List ℕ) (v : ℕ) (rest after : List ℕ)
    → folded count (before ++ v ∷ []) ≡ front ++ fold count v ∷ []
    → folded count ((before ++ v ∷ []) ++ (rest ++ after))
    ≡ front ++ folded count (v ∷ rest) ++ folds_behind count (end_from v rest) after
in_three count before front v rest after ends =
    let tail : List ℕ = folds_behind count (end_from v rest) after in
    parted count before v (rest ++ after)
    ∙ ap (λ (l : List ℕ). l ++ folds_behind count v (rest ++ after)) ends
    ∙ append_assoc front (fold count v ∷ []) (folds_behind count v (rest ++ after))
    ∙ ap (λ (l : List ℕ). front ++ fold count v ∷ l) (behind-append count v rest after)
    ∙ sym (append_assoc front (folded count (v ∷ rest)) tail)

pub same_fold : (count : ℕ) (before : List ℕ) (v : ℕ) (rest others after : List ℕ) → end_from v rest ≡ end_from v others
    → folded count (v ∷ rest) ≡ folded count (v ∷ others)
    → folded count ((before ++ v ∷ []) ++ (others ++ after)) ≡ folded count ((before ++ v ∷ []) ++ (rest ++ after))
same_fold count before v rest others after ends same =
    let front = front_ends count before v in
    in_three count before front.0 v others after front.1
    ∙ ap (λ (l : List ℕ). front.0 ++ l ++ folds_behind count (end_from v others) after) (sym same)
    ∙ ap (λ (w : ℕ). front.0 ++ folded count (v ∷ rest) ++ folds_behind count w after) (sym ends)
    ∙ sym (in_three count before front.0 v rest after front.1)

-- a move at the place of that entry in the fold
pub move_folds : (mesh : FaceList) (before : List ℕ) (v : ℕ) (rest others after : List ℕ) (place : ℕ) (move : Move)
    → end_from v rest ≡ end_from v others
    → place + 1 ≡ length (folded mesh.count (before ++ v ∷ []))
    → IsMoveBelow mesh place (v ∷ rest) (v ∷ others) move
    → apply mesh (folded mesh.count ((before ++ v ∷ []) ++ (rest ++ after))) move
    ≡ Some (folded mesh.count ((before ++ v ∷ []) ++ (others ++ after)))
move_folds mesh before v rest others after place move ends at is =
    let count : ℕ = mesh.count in
    let front = front_ends count before v in
    let walk : List ℕ = folded count ((before ++ v ∷ []) ++ (rest ++ after)) in
    let next : List ℕ = folded count ((before ++ v ∷ []) ++ (others ++ after)) in
    let tail : List ℕ = folds_behind count (end_from v rest) after in
    let whole : walk ≡ front.0 ++ folded count (v ∷ rest) ++ tail = in_three count before front.0 v rest after front.1 in
    let some : 0 < length walk =
    omega (
      arith,
      ap length whole,
      length-append (front.0 ++ folded count (v ∷ rest)) tail,
      length-append front.0 (folded count (v ∷ rest)),
    ) in
    (by_replacing mesh walk next move some).1 (record {
      before = front.0;
      part = folded count (v ∷ rest);
      other = folded count (v ∷ others);
      after = tail;
      walk_is = whole;
      next_is =
          in_three count before front.0 v others after front.1
          ∙ ap (λ (w : ℕ). front.0 ++ folded count (v ∷ others) ++ folds_behind count w after) (sym ends);
      place = omega (arith, at, ap length front.1, length-append front.0 (fold count v ∷ []), is.place_is);
      replaces = is.replaces;
    })
