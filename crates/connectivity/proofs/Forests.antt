-- Forests in which no parent is greater than its child.
use Rattle.connectivity.proofs.Common.{renamed, joined_at, AreLeastMembers, IsForest, ancestor, root_of, roots_of, HasSameRoots, ◌≡◌, ◌⊎◌, inl, inr, ℕ, zero, suc, ◌<◌, ◌≤◌, ◌≢◌, List, [], ◌∷◌, ◌++◌, ◌+◌, length, min, max, get_or, set, refl, ap, sym, ◌∙◌, subst, arith, cases_lt, cases_eq, nat_tests, length-set, length-map, map-id, get_or-set_same, get_or-set_other, get_or_past, get_or-map, ext_get_or, length-range_with_len, get_or-range_with_len, get_or-map-range_with_len, map-range_with_len_more, range_with_len}

-- no parent is greater, past the end too
pub parent_le : {parents : List ℕ} (x : ℕ) → IsForest parents → get_or parents x 0 ≤ x
parent_le {parents} x h =
    elim (cases_lt x (length parents)) [
      | inl less ↦ h.falls x less
      | inr more ↦ omega (arith, get_or_past parents x 0 more)
    ]

-- a root stays where it is
ancestor_root : (parents : List ℕ) (steps x : ℕ) → get_or parents x 0 ≡ x → ancestor parents steps x ≡ x
ancestor_root parents zero x h = refl
ancestor_root parents (suc steps) x h = ap (ancestor parents steps) h ∙ ancestor_root parents steps x h

ancestor_le : {parents : List ℕ} (steps x : ℕ) → IsForest parents → ancestor parents steps x ≤ x
ancestor_le zero x h = omega arith
ancestor_le {parents} (suc steps) x h = omega (arith, ancestor_le steps (get_or parents x 0) h, parent_le x h)

-- x steps are enough
ancestor_more : {parents : List ℕ} (steps x : ℕ) → IsForest parents → x ≤ steps
    → ancestor parents steps (get_or parents x 0) ≡ ancestor parents steps x
ancestor_more zero x h l = omega (arith, parent_le x h)
ancestor_more {parents} (suc steps) x h l =
    let parent : ℕ = get_or parents x 0 in
    let falls : parent ≤ x = parent_le x h in
    elim (cases_eq parent x) [
      | inl same ↦ ap (ancestor parents (suc steps)) same
      | inr other ↦ ancestor_more steps parent h (omega arith)
    ]

ancestor_is_root : {parents : List ℕ} (steps x : ℕ) → IsForest parents → x ≤ steps
    → get_or parents (ancestor parents steps x) 0 ≡ ancestor parents steps x
ancestor_is_root zero x h l = omega (arith, parent_le x h)
ancestor_is_root {parents} (suc steps) x h l =
    let parent : ℕ = get_or parents x 0 in
    let falls : parent ≤ x = parent_le x h in
    elim (cases_eq parent x) [
      | inl same ↦ subst (λ r. get_or parents r 0 ≡ r) (sym (ap (ancestor parents steps) same ∙ ancestor_root parents steps x same)) same
      | inr other ↦ ancestor_is_root steps parent h (omega arith)
    ]

-- a name for each number that the parent shares, and which is a root's own
pub record IsLabelling (parents : List ℕ) (label : ℕ → ℕ) : Type 0 where
  pub shared : (x : ℕ) → x < length parents → label (get_or parents x 0) ≡ label x
  pub own : (x : ℕ) → x < length parents → get_or parents x 0 ≡ x → label x ≡ x

label-ancestor : {parents : List ℕ} {label : ℕ → ℕ} (steps x : ℕ) → IsForest parents → IsLabelling parents label → x < length parents
    → label (ancestor parents steps x) ≡ label x
label-ancestor zero x h names l = refl
label-ancestor {parents} (suc steps) x h names l =
    label-ancestor steps (get_or parents x 0) h names (omega (arith, parent_le x h)) ∙ names.shared x l

pub root_root : {parents : List ℕ} (x : ℕ) → IsForest parents → x < length parents
    → get_or parents (root_of parents x) 0 ≡ root_of parents x
unfolding root_of
root_root {parents} x h l = ancestor_is_root (length parents) x h (omega arith)

pub root_le : {parents : List ℕ} (x : ℕ) → IsForest parents → root_of parents x ≤ x
unfolding root_of
root_le {parents} x h = ancestor_le (length parents) x h

pub root_labels : {parents : List ℕ} → IsForest parents → IsLabelling parents (root_of parents)
unfolding root_of
root_labels {parents} h = record {
  shared = λ x l. ancestor_more (length parents) x h (omega arith);
  own = λ x l same. ancestor_root parents (length parents) x same;
}

pub root_own : {parents : List ℕ} (x : ℕ) → IsForest parents → x < length parents → get_or parents x 0 ≡ x → root_of parents x ≡ x
root_own x h l same = (root_labels h).own x l same

-- such names are the roots
pub label_is_root : {parents : List ℕ} {label : ℕ → ℕ} (x : ℕ) → IsForest parents → IsLabelling parents label → x < length parents
    → root_of parents x ≡ label x
unfolding root_of
label_is_root {parents} x h names l =
    let root : ℕ = ancestor parents (length parents) x in
    let below : root ≤ x = ancestor_le (length parents) x h in
    sym (names.own root (omega arith) (ancestor_is_root (length parents) x h (omega arith)))
    ∙ label-ancestor (length parents) x h names l

-- x is put below the parent of its parent
abbrev pub lifted : List ℕ → ℕ → List ℕ
lifted parents x = set parents x (get_or parents (get_or parents x 0) 0)

pub lifted_forest : {parents : List ℕ} (x : ℕ) → IsForest parents → x < length parents → IsForest (lifted parents x)
lifted_forest {parents} x h l =
    let parent : ℕ = get_or parents x 0 in
    let above : ℕ = get_or parents parent 0 in
    let first : parent ≤ x = parent_le x h in
    let second : above ≤ parent = parent_le parent h in
    record {
      falls = λ y b. elim (cases_eq y x) [
        | inl same ↦ omega (arith, ap (λ z. get_or (lifted parents x) z 0) same, get_or-set_same parents x above 0 l)
        | inr other ↦ omega (arith, get_or-set_other parents x y above 0 other, parent_le y h)
      ];
    }

pub lifted_roots : {parents : List ℕ} (x : ℕ) → IsForest parents → x < length parents → HasSameRoots parents (lifted parents x)
lifted_roots {parents} x h l =
    let parent : ℕ = get_or parents x 0 in
    let above : ℕ = get_or parents parent 0 in
    let after : List ℕ = lifted parents x in
    let first : parent ≤ x = parent_le x h in
    let second : above ≤ parent = parent_le parent h in
    let long : length after ≡ length parents = length-set parents x above in
    let old : IsLabelling parents (root_of parents) = root_labels h in
    let here : get_or after x 0 ≡ above = get_or-set_same parents x above 0 l in
    let names : IsLabelling after (root_of parents) = record {
      shared = λ y b. elim (cases_eq y x) [
        | inl same ↦
            ap (root_of parents) (ap (λ z. get_or after z 0) same ∙ here) ∙ old.shared parent (omega arith) ∙ old.shared x l
            ∙ ap (root_of parents) (sym same)
        | inr other ↦ ap (root_of parents) (get_or-set_other parents x y above 0 other) ∙ old.shared y (omega (arith, b, long))
      ];
      own = λ y b own. elim (cases_eq y x) [
        | inl same ↦
            (let stays : above ≡ x = sym here ∙ ap (λ z. get_or after z 0) (sym same) ∙ own ∙ same in
            ap (root_of parents) same ∙ old.own x l (omega arith) ∙ sym same)
        | inr other ↦ old.own y (omega (arith, b, long)) (sym (get_or-set_other parents x y above 0 other) ∙ own)
      ];
    } in
    record {
      count = long;
      roots = λ y b. label_is_root y (lifted_forest x h l) names (omega (arith, b, long));
    }

pub same_roots_trans : {parents others more : List ℕ} → HasSameRoots parents others → HasSameRoots others more → HasSameRoots parents more
same_roots_trans h k = record {
  count = k.count ∙ h.count;
  roots = λ x l. k.roots x (omega (arith, l, h.count)) ∙ h.roots x l;
}

-- the greater of two roots is put below the lesser
pub linked_forest : {parents : List ℕ} (low high : ℕ) → IsForest parents → low ≤ high → high < length parents
    → IsForest (set parents high low)
linked_forest {parents} low high h o l = record {
  falls = λ y b. elim (cases_eq y high) [
    | inl same ↦ omega (arith, ap (λ z. get_or (set parents high low) z 0) same, get_or-set_same parents high low 0 l)
    | inr other ↦ omega (arith, get_or-set_other parents high y low 0 other, parent_le y h)
  ];
}

pub renamed_old : (old new x : ℕ) → x ≡ old → renamed old new x ≡ new
renamed_old old new x h = grind (arith, nat_tests)

pub renamed_other : (old new x : ℕ) → x ≢ old → renamed old new x ≡ x
renamed_other old new x h = grind (arith, nat_tests)

pub root-linked : {parents : List ℕ} (low high x : ℕ) → IsForest parents → low ≤ high → high < length parents
    → get_or parents low 0 ≡ low → get_or parents high 0 ≡ high → x < length parents
    → root_of (set parents high low) x ≡ renamed high low (root_of parents x)
root-linked {parents} low high x h o l low_root high_root b =
    let after : List ℕ = set parents high low in
    let long : length after ≡ length parents = length-set parents high low in
    let old : IsLabelling parents (root_of parents) = root_labels h in
    let label : ℕ → ℕ = λ y. renamed high low (root_of parents y) in
    let here : get_or after high 0 ≡ low = get_or-set_same parents high low 0 l in
    let at_high : label high ≡ low = renamed_old high low (root_of parents high) (old.own high l high_root) in
    let at_low : label low ≡ low =
    elim (cases_eq low high) [
      | inl same ↦ ap label same ∙ at_high
      | inr other ↦ ap (renamed high low) (old.own low (omega arith) low_root) ∙ renamed_other high low low other
    ] in
    label_is_root x (linked_forest low high h o l) (record {
      shared = λ y k. elim (cases_eq y high) [
        | inl same ↦ ap label (ap (λ z. get_or after z 0) same ∙ here) ∙ at_low ∙ sym at_high ∙ ap label (sym same)
        | inr other ↦ ap label (get_or-set_other parents high y low 0 other) ∙ ap (renamed high low) (old.shared y (omega (arith, k, long)))
      ];
      own = λ y k own. elim (cases_eq y high) [
        | inl same ↦ ap label same ∙ at_high ∙ sym here ∙ ap (λ z. get_or after z 0) (sym same) ∙ own
        | inr other ↦
            ap (renamed high low) (old.own y (omega (arith, k, long)) (sym (get_or-set_other parents high y low 0 other) ∙ own))
            ∙ renamed_other high low y other
      ];
    }) (omega (arith, b, long))

pub length-roots_of : (parents : List ℕ) → length (roots_of parents) ≡ length parents
unfolding roots_of
length-roots_of parents = length-map (range_with_len 0 (length parents)) (root_of parents) ∙ length-range_with_len 0 (length parents)

pub get_or-roots_of : (parents : List ℕ) (x d : ℕ) → x < length parents → get_or (roots_of parents) x d ≡ root_of parents x
unfolding roots_of
get_or-roots_of parents x d l = get_or-map-range_with_len (root_of parents) 0 (length parents) x x d l (omega arith)

pub same_roots_of : {parents others : List ℕ} → HasSameRoots parents others → roots_of others ≡ roots_of parents
same_roots_of {parents} {others} h =
    ext_get_or 0 (roots_of others) (roots_of parents) (omega (arith, length-roots_of parents, length-roots_of others, h.count)) (λ x l.
    let few : x < length others = omega (arith, l, length-roots_of others) in
    get_or-roots_of others x 0 few ∙ h.roots x (omega (arith, few, h.count))
    ∙ sym (get_or-roots_of parents x 0 (omega (arith, few, h.count))))

pub roots_of-linked : {parents : List ℕ} (x y low high : ℕ) → IsForest parents → x < length parents → y < length parents
    → low ≡ min (root_of parents x) (root_of parents y) → high ≡ max (root_of parents x) (root_of parents y)
    → roots_of (set parents high low) ≡ joined_at (roots_of parents) x y
roots_of-linked {parents} x y low high h lx ly is_low is_high =
    let after : List ℕ = set parents high low in
    let long : length after ≡ length parents = length-set parents high low in
    let rx : get_or (roots_of parents) x 0 ≡ root_of parents x = get_or-roots_of parents x 0 lx in
    let ry : get_or (roots_of parents) y 0 ≡ root_of parents y = get_or-roots_of parents y 0 ly in
    let x_root = root_root x h lx in
    let y_root = root_root y h ly in
    let x_le = root_le x h in
    let y_le = root_le y h in
    let is_root : (z : ℕ) → (z ≡ root_of parents x) ⊎ (z ≡ root_of parents y) → get_or parents z 0 ≡ z =
    λ z e. elim e [
      | inl same ↦ ap (λ w. get_or parents w 0) same ∙ x_root ∙ sym same
      | inr same ↦ ap (λ w. get_or parents w 0) same ∙ y_root ∙ sym same
    ] in
    let low_is : (low ≡ root_of parents x) ⊎ (low ≡ root_of parents y) = grind arith in
    let high_is : (high ≡ root_of parents x) ⊎ (high ≡ root_of parents y) = grind arith in
    let size : length (joined_at (roots_of parents) x y) ≡ length parents = length-map (roots_of parents) _ ∙ length-roots_of parents in
    ext_get_or 0 (roots_of after) (joined_at (roots_of parents) x y) (omega (arith, length-roots_of after, long, size)) (λ z l.
    let few : z < length parents = omega (arith, l, length-roots_of after, long) in
    get_or-roots_of after z 0 (omega (arith, few, long))
    ∙ root-linked low high z h (omega arith) (omega arith) (is_root low low_is) (is_root high high_is) few
    ∙ ap (λ w. renamed w low (root_of parents z)) (is_high ∙ ap (λ w. max w (root_of parents y)) (sym rx)
    ∙ ap (λ w. max (get_or (roots_of parents) x 0) w) (sym ry))
    ∙ ap (λ w. renamed (max (get_or (roots_of parents) x 0) (get_or (roots_of parents) y 0)) w (root_of parents z))
    (is_low ∙ ap (λ w. min w (root_of parents y)) (sym rx) ∙ ap (λ w. min (get_or (roots_of parents) x 0) w) (sym ry))
    ∙ ap (renamed (max (get_or (roots_of parents) x 0) (get_or (roots_of parents) y 0))
    (min (get_or (roots_of parents) x 0) (get_or (roots_of parents) y 0))) (sym (get_or-roots_of parents z 0 few))
    ∙ sym (get_or-map (renamed (max (get_or (roots_of parents) x 0) (get_or (roots_of parents) y 0))
    (min (get_or (roots_of parents) x 0) (get_or (roots_of parents) y 0))) (roots_of parents) z 0 0
    (omega (arith, few, length-roots_of parents))))

-- at first each number is a root
pub range_more : (n : ℕ) → range_with_len 0 (n + 1) ≡ range_with_len 0 n ++ n ∷ []
range_more n = sym (map-id (range_with_len 0 (n + 1))) ∙ map-range_with_len_more (λ x. x) 0 n n (omega arith)
    ∙ ap (λ (l : List ℕ). l ++ n ∷ []) (map-id (range_with_len 0 n))

pub range_forest : (n : ℕ) → IsForest (range_with_len 0 n)
range_forest n = record { falls = λ x l. omega (arith, length-range_with_len 0 n, get_or-range_with_len 0 n x 0) }

pub roots_of-range : (n : ℕ) → roots_of (range_with_len 0 n) ≡ range_with_len 0 n
roots_of-range n =
    let numbers : List ℕ = range_with_len 0 n in
    let long : length numbers ≡ n = length-range_with_len 0 n in
    ext_get_or 0 (roots_of numbers) numbers (length-roots_of numbers) (λ x l.
    let few : x < n = omega (arith, l, length-roots_of numbers, long) in
    get_or-roots_of numbers x 0 (omega (arith, few, long))
    ∙ (root_labels (range_forest n)).own x (omega (arith, few, long)) (get_or-range_with_len 0 n x 0 few ∙ omega arith)
    ∙ sym (get_or-range_with_len 0 n x 0 few ∙ omega arith))

pub roots_are_least : {parents : List ℕ} → IsForest parents → AreLeastMembers (roots_of parents)
roots_are_least {parents} h =
    let size : length (roots_of parents) ≡ length parents = length-roots_of parents in
    let read : (x : ℕ) → x < length parents → get_or (roots_of parents) x 0 ≡ root_of parents x = λ x l. get_or-roots_of parents x 0 l in
    record {
      lesser = λ x l. omega (arith, read x (omega (arith, l, size)), root_le x h);
      itself = λ x l.
          let few : x < length parents = omega (arith, l, size) in
          let root : ℕ = root_of parents x in
          let below : root < length parents = omega (arith, few, root_le x h) in
          ap (λ y. get_or (roots_of parents) y 0) (read x few) ∙ read root below
          ∙ root_own root h below (root_root x h few) ∙ sym (read x few);
    }
