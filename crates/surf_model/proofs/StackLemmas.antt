-- Free reduction by a stack: each vertex of a walk is put on top, save where it undoes the one put last, which is taken off.
-- Two lists that leave every stack alike are the same up to spurs.
use Rattle.surf_model.proofs.Common.{◌≡◌, ◌≢◌, inl, inr, ℕ, zero, suc, ◌+◌, ◌-◌, ◌<◌, ◌≤◌, List, [], ◌∷◌, ◌++◌, length, get_or, refl, ap, sym, ◌∙◌, subst, arith, cases_eq, eq-eqb, nat_tests, append-nil, if◌then◌else◌, ◌==◌, HasNoSpur}

-- a vertex put on a stack, whose top stands first
abbrev pub put_on : List ℕ → ℕ → List ℕ
put_on [] v = v ∷ []
put_on (u ∷ []) v = v ∷ u ∷ []
put_on (u ∷ x ∷ rest) v = if x == v then x ∷ rest else v ∷ u ∷ x ∷ rest

-- all vertices of a list, put on one after another
abbrev pub all_put : List ℕ → List ℕ → List ℕ
all_put stack [] = stack
all_put stack (v ∷ vs) = all_put (put_on stack v) vs

put_same : (u x v : ℕ) (rest : List ℕ) → x ≡ v → put_on (u ∷ x ∷ rest) v ≡ x ∷ rest
put_same u x v rest e = rw (eq-eqb x v e) refl

put_other : (u x v : ℕ) (rest : List ℕ) → x ≢ v → put_on (u ∷ x ∷ rest) v ≡ v ∷ u ∷ x ∷ rest
put_other u x v rest n = grind (arith, nat_tests)

-- the new top is the vertex
pub top_put : (stack : List ℕ) (v : ℕ) → (rest : List ℕ) × (put_on stack v ≡ v ∷ rest)
top_put [] v = ([], refl)
top_put (u ∷ []) v = (u ∷ [], refl)
top_put (u ∷ x ∷ rest) v = elim (cases_eq x v) [
  | inl e ↦ (rest, put_same u x v rest e ∙ ap (λ (y : ℕ). y ∷ rest) e)
  | inr n ↦ (u ∷ x ∷ rest, put_other u x v rest n)
]

no_spur_below : (x : ℕ) (stack : List ℕ) → HasNoSpur (x ∷ stack) → HasNoSpur stack
no_spur_below x stack h k l =
    let up : suc k + 2 ≡ suc (k + 2) = omega arith in
    subst (λ (n : ℕ). get_or (x ∷ stack) (suc k) 0 ≢ get_or (x ∷ stack) n 0) up (h (suc k) (omega arith))

no_spur_more : (v u x : ℕ) (rest : List ℕ) → v ≢ x → HasNoSpur (u ∷ x ∷ rest) → HasNoSpur (v ∷ u ∷ x ∷ rest)
no_spur_more v u x rest n h zero l = n
no_spur_more v u x rest n h (suc k) l = grind arith

few_no_spur : (stack : List ℕ) → length stack ≤ 2 → HasNoSpur stack
few_no_spur stack h k l = absurd (omega arith)

-- no spur comes about
pub put_keeps : (stack : List ℕ) (v : ℕ) → HasNoSpur stack → HasNoSpur (put_on stack v)
put_keeps [] v h = few_no_spur (v ∷ []) (omega arith)
put_keeps (u ∷ []) v h = few_no_spur (v ∷ u ∷ []) (omega arith)
put_keeps (u ∷ x ∷ rest) v h = elim (cases_eq x v) [
  | inl e ↦ subst HasNoSpur (sym (put_same u x v rest e)) (no_spur_below u (x ∷ rest) h)
  | inr n ↦ subst HasNoSpur (sym (put_other u x v rest n)) (no_spur_more v u x rest (λ e. n (sym e)) h)
]

pub all_put_keeps : (vs stack : List ℕ) → HasNoSpur stack → HasNoSpur (all_put stack vs)
all_put_keeps [] stack h = h
all_put_keeps (v ∷ vs) stack h = all_put_keeps vs (put_on stack v) (put_keeps stack v h)

-- the one law: there and back leaves the stack as it was
pub there_and_back : (u v : ℕ) (below : List ℕ) → HasNoSpur (u ∷ below) → put_on (put_on (u ∷ below) v) u ≡ u ∷ below
there_and_back u v [] h = put_same v u u [] refl
there_and_back u v (x ∷ []) h = grind (arith, put_same, put_other)
there_and_back u v (x ∷ y ∷ rest) h = elim (cases_eq x v) [
  | inl e ↦ ap (λ (s : List ℕ). put_on s u) (put_same u x v (y ∷ rest) e) ∙ put_other x y u rest (λ same. h 0 (omega arith) (sym same))
  | inr n ↦ ap (λ (s : List ℕ). put_on s u) (put_other u x v (y ∷ rest) n) ∙ put_same v u u (x ∷ y ∷ rest) refl
]

pub all_put-append : (front rest stack : List ℕ) → all_put stack (front ++ rest) ≡ all_put (all_put stack front) rest
all_put-append [] rest stack = refl
all_put-append (v ∷ front) rest stack = all_put-append front rest (put_on stack v)

-- the two lists leave every stack without spurs alike
abbrev pub AreSame : List ℕ → List ℕ → Type 0
AreSame xs ys = (stack : List ℕ) → HasNoSpur stack → all_put stack xs ≡ all_put stack ys

pub same_after : (front xs ys : List ℕ) → AreSame xs ys → AreSame (front ++ xs) (front ++ ys)
same_after front xs ys h stack n = grind (arith, all_put-append, all_put_keeps)

pub same_before : (xs ys rest : List ℕ) → AreSame xs ys → AreSame (xs ++ rest) (ys ++ rest)
same_before xs ys rest h stack n = grind (arith, all_put-append)

-- a spur leaves what its vertex leaves
pub spur_same : (a b : ℕ) (rest : List ℕ) → AreSame (a ∷ b ∷ a ∷ rest) (a ∷ rest)
spur_same a b rest stack n =
    let top = top_put stack a in
    let clean : HasNoSpur (a ∷ top.0) = subst HasNoSpur top.1 (put_keeps stack a n) in
    let back : put_on (put_on (put_on stack a) b) a ≡ put_on stack a = grind (arith, there_and_back) in grind arith

-- a list turned round onto another
abbrev pub turned_onto : List ℕ → List ℕ → List ℕ
turned_onto [] stack = stack
turned_onto (v ∷ vs) stack = turned_onto vs (v ∷ stack)

no_spur_under : (vs stack : List ℕ) → HasNoSpur (turned_onto vs stack) → HasNoSpur stack
no_spur_under [] stack h = h
no_spur_under (v ∷ vs) stack h = no_spur_below v stack (no_spur_under vs (v ∷ stack) h)

put_whole : (stack : List ℕ) (v : ℕ) → HasNoSpur (v ∷ stack) → put_on stack v ≡ v ∷ stack
put_whole [] v h = refl
put_whole (u ∷ []) v h = refl
put_whole (u ∷ x ∷ rest) v h = put_other u x v rest (λ e. h 0 (omega arith) (sym e))

-- without spurs every vertex stays
all_put_whole : (vs stack : List ℕ) → HasNoSpur (turned_onto vs stack) → all_put stack vs ≡ turned_onto vs stack
all_put_whole [] stack h = refl
all_put_whole (v ∷ vs) stack h =
    ap (λ (s : List ℕ). all_put s vs) (put_whole stack v (no_spur_under vs (v ∷ stack) h)) ∙ all_put_whole vs (v ∷ stack) h

-- turned round twice
turned-onto : (vs stack rest : List ℕ) → turned_onto (turned_onto vs stack) rest ≡ turned_onto stack (vs ++ rest)
turned-onto [] stack rest = refl
turned-onto (v ∷ vs) stack rest = turned-onto vs (v ∷ stack) rest

pub turned_twice : (vs : List ℕ) → turned_onto (turned_onto vs []) [] ≡ vs
turned_twice vs = turned-onto vs [] [] ∙ append-nil vs

length-turned_onto : (vs stack : List ℕ) → length (turned_onto vs stack) ≡ length vs + length stack
length-turned_onto [] stack = omega arith
length-turned_onto (v ∷ vs) stack = length-turned_onto vs (v ∷ stack) ∙ omega arith

-- where an entry stands in a list that is turned round
get_or-turned_onto : (vs stack : List ℕ) (k : ℕ) → k < length vs → get_or (turned_onto vs stack) (length vs - 1 - k) 0 ≡ get_or vs k 0
get_or-turned_onto [] stack k l = absurd (omega arith)
get_or-turned_onto (v ∷ vs) stack zero l =
    let place : length (v ∷ vs) - 1 - 0 ≡ length vs + 0 = omega arith in
    ap (λ (n : ℕ). get_or (turned_onto vs (v ∷ stack)) n 0) place ∙ behind vs (v ∷ stack) 0
  where
    behind : (vs stack : List ℕ) (k : ℕ) → get_or (turned_onto vs stack) (length vs + k) 0 ≡ get_or stack k 0
    behind [] stack k = ap (λ (n : ℕ). get_or stack n 0) (let e : 0 + k ≡ k = omega arith in e)
    behind (v ∷ vs) stack k =
        let place : length (v ∷ vs) + k ≡ length vs + suc k = omega arith in
        ap (λ (n : ℕ). get_or (turned_onto vs (v ∷ stack)) n 0) place ∙ behind vs (v ∷ stack) (suc k)
get_or-turned_onto (v ∷ vs) stack (suc k) l =
    let place : length (v ∷ vs) - 1 - suc k ≡ length vs - 1 - k = omega arith in
    ap (λ (n : ℕ). get_or (turned_onto vs (v ∷ stack)) n 0) place ∙ get_or-turned_onto vs (v ∷ stack) k (omega arith)

no_spur_turned : (vs : List ℕ) → HasNoSpur vs → HasNoSpur (turned_onto vs [])
no_spur_turned vs h k l same =
    let n : ℕ = length vs in
    let long : length (turned_onto vs []) ≡ n = length-turned_onto vs [] ∙ omega arith in
    let j : ℕ = n - 1 - (k + 2) in
    let here : n - 1 - j ≡ k + 2 = omega arith in
    let there : n - 1 - (j + 2) ≡ k = omega arith in
    let one : get_or (turned_onto vs []) (k + 2) 0 ≡ get_or vs j 0 =
    subst (λ (m : ℕ). get_or (turned_onto vs []) m 0 ≡ get_or vs j 0) here (get_or-turned_onto vs [] j (omega arith)) in
    let two : get_or (turned_onto vs []) k 0 ≡ get_or vs (j + 2) 0 =
    subst (λ (m : ℕ). get_or (turned_onto vs []) m 0 ≡ get_or vs (j + 2) 0) there (get_or-turned_onto vs [] (j + 2) (omega arith)) in
    h j (omega arith) (sym one ∙ sym same ∙ two)

-- lists without spurs that are the same are equal
pub same_equal : (xs ys : List ℕ) → HasNoSpur xs → HasNoSpur ys → AreSame xs ys → xs ≡ ys
same_equal xs ys h k same =
    let none : HasNoSpur [] = few_no_spur [] (omega arith) in
    let one : all_put [] xs ≡ turned_onto xs [] = all_put_whole xs [] (no_spur_turned xs h) in
    let two : all_put [] ys ≡ turned_onto ys [] = all_put_whole ys [] (no_spur_turned ys k) in
    let turned : turned_onto xs [] ≡ turned_onto ys [] = sym one ∙ same [] none ∙ two in
    sym (turned_twice xs) ∙ ap (λ (l : List ℕ). turned_onto l []) turned ∙ turned_twice ys
