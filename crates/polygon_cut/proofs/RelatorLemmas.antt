-- Products of spokes: each spoke is put at the vertex and taken away in the middle, in turn. A push across the quad of one side, whose two
-- products differ by a loop, is that loop put in at a place.
use Rattle.polygon_cut.proofs.Common.{arith, ◌≡◌, ℕ, suc, Bool, true, false, not, List, [], ◌∷◌, ◌++◌, refl, subst}
use Rattle.polygon_cut.proofs.GroupLemmas.{IsGroup}
use Rattle.polygon_cut.proofs.GroupWordLemmas.{Term, Var, One, Mul, Inv, by_words, by_relation}

-- the product of a list of spokes, from the vertex or from the middle
abbrev pub spoke_product : {X : Type 0} → (X → X → X) → (X → X) → X → (ℕ → X) → Bool → List ℕ → X
spoke_product mul inv one spoke at_vertex [] = one
spoke_product mul inv one spoke true (i ∷ path) = mul (spoke i) (spoke_product mul inv one spoke false path)
spoke_product mul inv one spoke false (i ∷ path) = mul (inv (spoke i)) (spoke_product mul inv one spoke true path)

-- whether a path that starts at the vertex, or in the middle, ends at the vertex
abbrev pub ends_at_vertex : Bool → List ℕ → Bool
ends_at_vertex at_vertex [] = at_vertex
ends_at_vertex at_vertex (i ∷ path) = ends_at_vertex (not at_vertex) path

pub spokes_on : {X : Type 0} (Same : X → X → Type 0) (mul : X → X → X) (inv : X → X) (one : X) → IsGroup Same mul inv one
    → (spoke : ℕ → X) (at_vertex : Bool) (path more : List ℕ)
    → Same (spoke_product mul inv one spoke at_vertex (path ++ more))
    (mul (spoke_product mul inv one spoke at_vertex path) (spoke_product mul inv one spoke (ends_at_vertex at_vertex path) more))
spokes_on {X = X} Same mul inv one g spoke at_vertex [] more =
    let x : X = spoke_product mul inv one spoke at_vertex more in
    g.turn (mul one x) x (g.one_left x)
spokes_on {X = X} Same mul inv one g spoke true (i ∷ path) more =
    let v : X = spoke i in
    let whole : X = spoke_product mul inv one spoke false (path ++ more) in
    let a : X = spoke_product mul inv one spoke false path in
    let b : X = spoke_product mul inv one spoke (ends_at_vertex false path) more in
    g.on (mul v whole) (mul v (mul a b)) (mul (mul v a) b)
    (g.mul_same v v whole (mul a b) (g.itself v) (spokes_on Same mul inv one g spoke false path more))
    (g.turn (mul (mul v a) b) (mul v (mul a b)) (g.associates v a b))
spokes_on {X = X} Same mul inv one g spoke false (i ∷ path) more =
    let v : X = inv (spoke i) in
    let whole : X = spoke_product mul inv one spoke true (path ++ more) in
    let a : X = spoke_product mul inv one spoke true path in
    let b : X = spoke_product mul inv one spoke (ends_at_vertex true path) more in
    g.on (mul v whole) (mul v (mul a b)) (mul (mul v a) b)
    (g.mul_same v v whole (mul a b) (g.itself v) (spokes_on Same mul inv one g spoke true path more))
    (g.turn (mul (mul v a) b) (mul v (mul a b)) (g.associates v a b))

-- a loop put in behind a way from the root and back: A L A⁻¹ x
abbrev pub loop_in : {X : Type 0} → (X → X → X) → (X → X) → X → X → X → X
loop_in mul inv front loop x = mul front (mul loop (mul (inv front) x))

-- the same loop, put in behind the same way
pub in_same : {X : Type 0} {Same : X → X → Type 0} {mul : X → X → X} {inv : X → X} {one : X} → IsGroup Same mul inv one → (f h loop a b : X)
    → Same f h → Same a b
    → Same (loop_in mul inv f loop a) (loop_in mul inv h loop b)
in_same {Same} {mul} {inv} g f h loop a b fronts ends =
    let tails : Same (mul (inv f) a) (mul (inv h) b) = g.mul_same (inv f) (inv h) a b (g.inv_same f h fronts) ends in
    g.mul_same f h (mul loop (mul (inv f) a)) (mul loop (mul (inv h) b)) fronts
    (g.mul_same loop loop (mul (inv f) a) (mul (inv h) b) (g.itself loop) tails)

-- parts of a product with the same value
pub part_same : {X : Type 0} (Same : X → X → Type 0) (mul : X → X → X) (inv : X → X) (one : X) → IsGroup Same mul inv one
    → (spoke : ℕ → X) (before part other : List ℕ) (at_vertex : Bool)
    → ends_at_vertex true before ≡ at_vertex
    → Same (spoke_product mul inv one spoke at_vertex part) (spoke_product mul inv one spoke at_vertex other)
    → Same (spoke_product mul inv one spoke true (before ++ part)) (spoke_product mul inv one spoke true (before ++ other))
part_same {X = X} Same mul inv one g spoke before part other at_vertex parity h =
    let p : X = spoke_product mul inv one spoke true before in
    let a : X = spoke_product mul inv one spoke at_vertex part in
    let b : X = spoke_product mul inv one spoke at_vertex other in
    let first : X = spoke_product mul inv one spoke true (before ++ part) in
    let second : X = spoke_product mul inv one spoke true (before ++ other) in
    let one_way : Same first (mul p a) = grind (arith, spokes_on) in
    let other_way : Same second (mul p b) = grind (arith, spokes_on) in
    g.on first (mul p a) second one_way (g.on (mul p a) (mul p b) second (g.mul_same p p a b (g.itself p) h)
    (g.turn second (mul p b) other_way))

-- parts that differ by a loop, which goes in behind the first spokes of the part
pub part_with_loop : {X : Type 0} (Same : X → X → Type 0) (mul : X → X → X) (inv : X → X) (one : X) → IsGroup Same mul inv one
    → (spoke : ℕ → X) (loop : X) (before front part other : List ℕ)
    (at_vertex : Bool) → ends_at_vertex true before ≡ at_vertex
    → Same (spoke_product mul inv one spoke at_vertex other) (loop_in mul inv (spoke_product mul inv one spoke at_vertex front) loop
    (spoke_product mul inv one spoke at_vertex part))
    → Same (spoke_product mul inv one spoke true (before ++ other))
    (loop_in mul inv (spoke_product mul inv one spoke true (before ++ front)) loop (spoke_product mul inv one spoke true (before ++ part)))
part_with_loop {X = X} Same mul inv one g spoke loop before front part other at_vertex parity h =
    let p : X = spoke_product mul inv one spoke true before in
    let a : X = spoke_product mul inv one spoke at_vertex part in
    let b : X = spoke_product mul inv one spoke at_vertex other in
    let f : X = spoke_product mul inv one spoke at_vertex front in
    let whole_a : X = spoke_product mul inv one spoke true (before ++ part) in
    let whole_b : X = spoke_product mul inv one spoke true (before ++ other) in
    let whole_f : X = spoke_product mul inv one spoke true (before ++ front) in
    let cut : (path : List ℕ) → Same (spoke_product mul inv one spoke true (before ++ path))
    (mul p (spoke_product mul inv one spoke at_vertex path)) =
    λ path. subst (λ flag. Same (spoke_product mul inv one spoke true (before ++ path)) (mul p (spoke_product mul inv one spoke flag path)))
    parity (spokes_on Same mul inv one g spoke true before path) in
    let inside : Same whole_b (mul p (loop_in mul inv f loop a)) =
    g.on whole_b (mul p b) (mul p (loop_in mul inv f loop a)) (cut other) (g.mul_same p p b (loop_in mul inv f loop a) (g.itself p) h) in
    let elements : List X = p ∷ f ∷ loop ∷ a ∷ [] in
    let outside : Same (mul p (loop_in mul inv f loop a)) (loop_in mul inv (mul p f) loop (mul p a)) = by_words Same mul inv one g elements
    (Mul (Var 0) (Mul (Var 1) (Mul (Var 2) (Mul (Inv (Var 1)) (Var 3)))))
    (Mul (Mul (Var 0) (Var 1)) (Mul (Var 2) (Mul (Inv (Mul (Var 0) (Var 1))) (Mul (Var 0) (Var 3))))) refl in
    let joined : Same (loop_in mul inv (mul p f) loop (mul p a)) (loop_in mul inv whole_f loop whole_a) =
    in_same g (mul p f) whole_f loop (mul p a) whole_a (g.turn whole_f (mul p f) (cut front)) (g.turn whole_a (mul p a) (cut part)) in
    g.on whole_b (mul p (loop_in mul inv f loop a)) (loop_in mul inv whole_f loop whole_a) inside
    (g.on (mul p (loop_in mul inv f loop a)) (loop_in mul inv (mul p f) loop (mul p a)) (loop_in mul inv whole_f loop whole_a) outside
    joined)

-- what a loop put in makes, its inverse put in behind the same way undoes
pub loop_out : {X : Type 0} (Same : X → X → Type 0) (mul : X → X → X) (inv : X → X) (one : X) → IsGroup Same mul inv one
    → (front loop x y : X) → Same y (loop_in mul inv front loop x)
    → Same x (loop_in mul inv front (inv loop) y)
loop_out {X = X} Same mul inv one g front loop x y h =
    by_relation Same mul inv one g y (front ∷ loop ∷ x ∷ []) (Mul (Var 1) (Mul (Var 2) (Mul (Inv (Var 1)) (Var 3)))) (Var 3)
    (Mul (Var 1) (Mul (Inv (Var 2)) (Mul (Inv (Var 1)) (Var 0)))) h refl

-- The loop of the last side, with the value v, and the spokes o at its head and z at its tail: v o z⁻¹.
abbrev pub relator : {X : Type 0} → (X → X → X) → (X → X) → X → X → X → X
relator mul inv v o z = mul v (mul o (inv z))

-- The pushes across the quad of the last side z, whose head is the spoke 0, and of its partner k, whose head is the spoke K: each costs
-- the loop once. Two at the vertex, and two in the middle; back again the inverse goes in behind the same way.
pub record CostlyPushes {X : Type 0} (Same : X → X → Type 0) (mul : X → X → X) (inv : X → X) (one : X) (spoke : ℕ
    → X) (loop : X) (z k : ℕ) : Type 0 where
  pub from_last : (before after : List ℕ) → ends_at_vertex true before ≡ true
      → Same (spoke_product mul inv one spoke true (before ++ (suc k ∷ k ∷ after)))
      (loop_in mul inv (spoke_product mul inv one spoke true (before ++ [])) loop
      (spoke_product mul inv one spoke true (before ++ (z ∷ 0 ∷ after))))
  pub to_last : (before after : List ℕ) → ends_at_vertex true before ≡ true
      → Same (spoke_product mul inv one spoke true (before ++ (0 ∷ z ∷ after)))
      (loop_in mul inv (spoke_product mul inv one spoke true (before ++ (k ∷ suc k ∷ []))) loop
      (spoke_product mul inv one spoke true (before ++ (k ∷ suc k ∷ after))))
  pub round_tail : (before after : List ℕ) → ends_at_vertex true before ≡ false
      → Same (spoke_product mul inv one spoke true (before ++ (k ∷ 0 ∷ after)))
      (loop_in mul inv (spoke_product mul inv one spoke true (before ++ (suc k ∷ []))) loop
      (spoke_product mul inv one spoke true (before ++ (suc k ∷ z ∷ after))))
  pub round_head : (before after : List ℕ) → ends_at_vertex true before ≡ false
      → Same (spoke_product mul inv one spoke true (before ++ (z ∷ suc k ∷ after)))
      (loop_in mul inv (spoke_product mul inv one spoke true (before ++ (z ∷ []))) loop
      (spoke_product mul inv one spoke true (before ++ (0 ∷ k ∷ after))))

-- all follow from one relation: the spoke K is v times the spoke k
pub costly_pushes : {X : Type 0} (Same : X → X → Type 0) (mul : X → X → X) (inv : X → X) (one : X) → IsGroup Same mul inv one
    → (spoke : ℕ → X) (v : X) (z k : ℕ)
    → Same (spoke (suc k)) (mul v (spoke k)) → CostlyPushes Same mul inv one spoke (relator mul inv v (spoke 0) (spoke z)) z k
costly_pushes {X = X} Same mul inv one g spoke v z k h = record {
  from_last = λ before after parity.
      let elements : List X = v ∷ spoke k ∷ spoke 0 ∷ spoke z ∷ spoke_product mul inv one spoke true after ∷ [] in
      part_with_loop Same mul inv one g spoke loop before [] (z ∷ 0 ∷ after) (suc k ∷ k ∷ after) true parity
      (by_relation Same mul inv one g (spoke (suc k)) elements meaning
      (Mul (Var 0) (Mul (Inv (Var 2)) (Var 5)))
      (Mul One (Mul loop_term (Mul (Inv One) (Mul (Var 4) (Mul (Inv (Var 3)) (Var 5)))))) h refl);
  to_last = λ before after parity.
      let elements : List X = v ∷ spoke k ∷ spoke 0 ∷ spoke z ∷ spoke_product mul inv one spoke true after ∷ [] in
      part_with_loop Same mul inv one g spoke loop before (k ∷ suc k ∷ []) (k ∷ suc k ∷ after) (0 ∷ z ∷ after) true parity
      (by_relation Same mul inv one g (spoke (suc k)) elements meaning
      (Mul (Var 3) (Mul (Inv (Var 4)) (Var 5)))
      (Mul (Mul (Var 2) (Mul (Inv (Var 0)) One))
      (Mul loop_term (Mul (Inv (Mul (Var 2) (Mul (Inv (Var 0)) One))) (Mul (Var 2) (Mul (Inv (Var 0)) (Var 5)))))) h refl);
  round_tail = λ before after parity.
      let elements : List X = v ∷ spoke k ∷ spoke 0 ∷ spoke z ∷ spoke_product mul inv one spoke false after ∷ [] in
      part_with_loop Same mul inv one g spoke loop before (suc k ∷ []) (suc k ∷ z ∷ after) (k ∷ 0 ∷ after) false parity
      (by_relation Same mul inv one g (spoke (suc k)) elements meaning
      (Mul (Inv (Var 2)) (Mul (Var 3) (Var 5)))
      (Mul (Mul (Inv (Var 0)) One) (Mul loop_term (Mul (Inv (Mul (Inv (Var 0)) One)) (Mul (Inv (Var 0)) (Mul (Var 4) (Var 5)))))) h refl);
  round_head = λ before after parity.
      let elements : List X = v ∷ spoke k ∷ spoke 0 ∷ spoke z ∷ spoke_product mul inv one spoke false after ∷ [] in
      part_with_loop Same mul inv one g spoke loop before (z ∷ []) (0 ∷ k ∷ after) (z ∷ suc k ∷ after) false parity
      (by_relation Same mul inv one g (spoke (suc k)) elements meaning
      (Mul (Inv (Var 4)) (Mul (Var 0) (Var 5)))
      (Mul (Mul (Inv (Var 4)) One) (Mul loop_term (Mul (Inv (Mul (Inv (Var 4)) One)) (Mul (Inv (Var 3)) (Mul (Var 2) (Var 5)))))) h refl);
}
  where
    loop : X
    loop = relator mul inv v (spoke 0) (spoke z)

    loop_term : Term
    loop_term = Mul (Var 1) (Mul (Var 3) (Inv (Var 4)))

    meaning : Term
    meaning = Mul (Var 1) (Var 2)

-- Across another quad, whose two products are the same, a push changes nothing; nor does it where two equal spokes go out.
pub free_push : {X : Type 0} (Same : X → X → Type 0) (mul : X → X → X) (inv : X → X) (one : X) → IsGroup Same mul inv one
    → (spoke : ℕ → X) (at_vertex : Bool) (before after : List ℕ) (p q r t : ℕ)
    → ends_at_vertex true before ≡ at_vertex
    → Same (spoke_product mul inv one spoke at_vertex (p ∷ q ∷ [])) (spoke_product mul inv one spoke at_vertex (r ∷ t ∷ []))
    → Same (spoke_product mul inv one spoke true (before ++ (p ∷ q ∷ after)))
    (spoke_product mul inv one spoke true (before ++ (r ∷ t ∷ after)))
free_push {X = X} Same mul inv one g spoke true before after p q r t parity h =
    let rest : X = spoke_product mul inv one spoke true after in
    let first : X = mul (spoke p) (mul (inv (spoke q)) one) in
    let second : X = mul (spoke r) (mul (inv (spoke t)) one) in
    let elements : List X = spoke p ∷ spoke q ∷ spoke r ∷ spoke t ∷ rest ∷ [] in
    part_same Same mul inv one g spoke before (p ∷ q ∷ after) (r ∷ t ∷ after) true parity
    (g.on (mul (spoke p) (mul (inv (spoke q)) rest)) (mul first rest) (mul (spoke r) (mul (inv (spoke t)) rest))
    (by_words Same mul inv one g elements (Mul (Var 0) (Mul (Inv (Var 1)) (Var 4))) (Mul (Mul (Var 0) (Mul (Inv (Var 1)) One)) (Var 4))
    refl)
    (g.on (mul first rest) (mul second rest) (mul (spoke r) (mul (inv (spoke t)) rest))
    (g.mul_same first second rest rest h (g.itself rest))
    (by_words Same mul inv one g elements (Mul (Mul (Var 2) (Mul (Inv (Var 3)) One)) (Var 4)) (Mul (Var 2) (Mul (Inv (Var 3)) (Var 4)))
    refl)))
free_push {X = X} Same mul inv one g spoke false before after p q r t parity h =
    let rest : X = spoke_product mul inv one spoke false after in
    let first : X = mul (inv (spoke p)) (mul (spoke q) one) in
    let second : X = mul (inv (spoke r)) (mul (spoke t) one) in
    let elements : List X = spoke p ∷ spoke q ∷ spoke r ∷ spoke t ∷ rest ∷ [] in
    part_same Same mul inv one g spoke before (p ∷ q ∷ after) (r ∷ t ∷ after) false parity
    (g.on (mul (inv (spoke p)) (mul (spoke q) rest)) (mul first rest) (mul (inv (spoke r)) (mul (spoke t) rest))
    (by_words Same mul inv one g elements (Mul (Inv (Var 0)) (Mul (Var 1) (Var 4))) (Mul (Mul (Inv (Var 0)) (Mul (Var 1) One)) (Var 4))
    refl)
    (g.on (mul first rest) (mul second rest) (mul (inv (spoke r)) (mul (spoke t) rest))
    (g.mul_same first second rest rest h (g.itself rest))
    (by_words Same mul inv one g elements (Mul (Mul (Inv (Var 2)) (Mul (Var 3) One)) (Var 4)) (Mul (Inv (Var 2)) (Mul (Var 3) (Var 4)))
    refl)))

-- two equal spokes may go out
pub free_spur : {X : Type 0} (Same : X → X → Type 0) (mul : X → X → X) (inv : X → X) (one : X) → IsGroup Same mul inv one
    → (spoke : ℕ → X) (before after : List ℕ) (p : ℕ)
    → Same (spoke_product mul inv one spoke true (before ++ (p ∷ p ∷ after))) (spoke_product mul inv one spoke true (before ++ after))
free_spur {X = X} Same mul inv one g spoke before after p = by (ends_at_vertex true before) refl
  where
    by : (b : Bool) → ends_at_vertex true before ≡ b
        → Same (spoke_product mul inv one spoke true (before ++ (p ∷ p ∷ after))) (spoke_product mul inv one spoke true (before ++ after))
    by true parity =
        part_same Same mul inv one g spoke before (p ∷ p ∷ after) after true parity
        (by_words Same mul inv one g (spoke p ∷ spoke_product mul inv one spoke true after ∷ []) (Mul (Var 0) (Mul (Inv (Var 0)) (Var 1)))
        (Var 1) refl)
    by false parity =
        part_same Same mul inv one g spoke before (p ∷ p ∷ after) after false parity
        (by_words Same mul inv one g (spoke p ∷ spoke_product mul inv one spoke false after ∷ []) (Mul (Inv (Var 0)) (Mul (Var 0) (Var 1)))
        (Var 1) refl)
