-- A list with some entries replaced by others, by cuts and pushes.
use Rattle.move_checker.proofs.Common.{inserted, cut, ◌≡◌, ℕ, ◌+◌, ◌<◌, ◌≤◌, List, [], ◌∷◌, ◌++◌, length, take, drop, get_or, ap, sym, ◌∙◌, arith, append_assoc, length-append, append-nil, length-take-le, length-drop, take_more, drop_more, drop_at, take_at, replaced}

pub length-replaced : (at n : ℕ) (others walk : List ℕ) → at + n ≤ length walk
    → length (replaced at n others walk) + n ≡ length walk + length others
length-replaced at n others walk h =
    omega (
      arith,
      length-append (take at walk ++ others) (drop (at + n) walk),
      length-append (take at walk) others,
      length-take-le at walk (omega arith),
      length-drop (at + n) walk,
    )

-- an entry pushed where two parts meet
pub inserted-append : (front back : List ℕ) (place value : ℕ) → length front ≡ place
    → inserted (front ++ back) place value ≡ front ++ value ∷ back
inserted-append front back place value e =
    ap (λ (l : List ℕ). l ++ value ∷ drop place (front ++ back)) (take_at front back place e)
    ∙ ap (λ (l : List ℕ). front ++ value ∷ l) (drop_at front back place e)

-- two entries pushed before entry `at`, the first of them equal to it
pub pushed_spur : (walk : List ℕ) (at via here : ℕ) → at < length walk → here ≡ get_or walk at 0
    → inserted (inserted walk at here) (at + 1) via ≡ replaced at 1 (get_or walk at 0 ∷ via ∷ get_or walk at 0 ∷ []) walk
pushed_spur walk at via here lt e =
    let front : List ℕ = take at walk in
    let long : length (front ++ here ∷ []) ≡ at + 1 =
    omega (arith, length-append front (here ∷ []), length-take-le at walk (omega arith)) in
    ap (λ (l : List ℕ). inserted l (at + 1) via) (sym (append_assoc front (here ∷ []) (drop at walk)))
    ∙ inserted-append (front ++ here ∷ []) (drop at walk) (at + 1) via long
    ∙ ap (λ (v : ℕ). (front ++ v ∷ []) ++ via ∷ drop at walk) e
    ∙ ap (λ (l : List ℕ). (front ++ get_or walk at 0 ∷ []) ++ via ∷ l) (drop_more walk at 0 lt)
    ∙ simp append_assoc

-- entry `at` and the one behind it cut, where the next one is equal
pub cut_spur : (walk : List ℕ) (at : ℕ) → at + 2 < length walk → get_or walk at 0 ≡ get_or walk (at + 2) 0
    → cut walk at (at + 2) ≡ replaced at 3 (get_or walk at 0 ∷ []) walk
cut_spur walk at lt e =
    let to : at + 2 + 1 ≡ at + 3 = omega arith in
    ap (λ (l : List ℕ). take at walk ++ l) (drop_more walk (at + 2) 0 lt)
    ∙ ap (λ (v : ℕ). take at walk ++ v ∷ drop (at + 2 + 1) walk) (sym e)
    ∙ ap (λ (k : ℕ). take at walk ++ get_or walk at 0 ∷ drop k walk) to
    ∙ sym (append_assoc (take at walk) (get_or walk at 0 ∷ []) (drop (at + 3) walk))

-- entries cut, and others put in their place
pub cut_replaced : (walk others : List ℕ) (at n to : ℕ) → at + n ≡ to → to ≤ length walk
    → take at (cut walk at to) ++ others ++ drop at (cut walk at to) ≡ replaced at n others walk
cut_replaced walk others at n to e le =
    let long : length (take at walk) ≡ at = length-take-le at walk (omega (arith, e, le)) in
    ap (λ (l : List ℕ). l ++ others ++ drop at (cut walk at to)) (take_at (take at walk) (drop to walk) at long)
    ∙ ap (λ (l : List ℕ). take at walk ++ others ++ l) (drop_at (take at walk) (drop to walk) at long)
    ∙ ap (λ (k : ℕ). take at walk ++ others ++ drop k walk) (sym e)

-- an entry pushed at the end
pub pushed_last : (walk : List ℕ) (place value : ℕ) → place < length walk → value ≡ get_or walk place 0
    → inserted (take place walk) place value ≡ take (place + 1) walk
pushed_last walk place value lt e =
    let long : length (take place walk) ≡ place = length-take-le place walk (omega arith) in
    ap (λ (l : List ℕ). inserted l place value) (sym (append-nil (take place walk)))
    ∙ inserted-append (take place walk) [] place value long
    ∙ ap (λ (v : ℕ). take place walk ++ v ∷ []) e ∙ sym (take_more walk place 0 lt)

-- one more of the others pushed
pub pushed_more : (list others now : List ℕ) (at k value : ℕ) → at ≤ length list → k < length others
    → now ≡ take at list ++ take k others ++ drop at list → value ≡ get_or others k 0
    → inserted now (at + k) value ≡ take at list ++ take (k + 1) others ++ drop at list
pushed_more list others now at k value le lt e same =
    let front : List ℕ = take at list ++ take k others in
    let long : length front ≡ at + k =
    omega (arith, length-append (take at list) (take k others), length-take-le at list le, length-take-le k others (omega arith)) in
    ap (λ (l : List ℕ). inserted l (at + k) value) e
    ∙ inserted-append front (drop at list) (at + k) value long
    ∙ sym (append_assoc front (value ∷ []) (drop at list))
    ∙ ap (λ (l : List ℕ). l ++ drop at list) (append_assoc (take at list) (take k others) (value ∷ []))
    ∙ ap (λ (v : ℕ). take at list ++ (take k others ++ v ∷ []) ++ drop at list) same
    ∙ ap (λ (l : List ℕ). take at list ++ l ++ drop at list) (sym (take_more others k 0 lt))
