-- Products along a walk in a group: each step from a vertex to the next has a value. A walk is a vertex and the vertices behind it.
use Rattle.polygon_cut.proofs.Common.{arith, ◌≡◌, ℕ, List, [], ◌∷◌, ◌++◌, IsTrue, FaceList, is_edge, end_from as end_of, run, walked, Acts}
use Rattle.polygon_cut.proofs.GroupLemmas.{IsGroup, inverse_unique, inverse_of_product}
use Rattle.polygon_cut.proofs.WayLemmas.{IsWay, back, way_home}

-- the product of the values of the steps from u on
abbrev pub product_from : {X : Type 0} → (X → X → X) → X → (ℕ → ℕ → X) → ℕ → List ℕ → X
product_from mul one val u [] = one
product_from mul one val u (v ∷ rest) = mul (val u v) (product_from mul one val v rest)

abbrev pub walk_product : {X : Type 0} → (X → X → X) → X → (ℕ → ℕ → X) → List ℕ → X
walk_product mul one val [] = one
walk_product mul one val (u ∷ rest) = product_from mul one val u rest

pub way_end : (mesh : FaceList) (u v : ℕ) (rest : List ℕ) → IsWay mesh u v rest → end_of u rest ≡ v
way_end mesh u v [] h = h.0
way_end mesh u v (w ∷ rest) h = way_end mesh w v rest h.1

-- one walk after another
pub product_on : {X : Type 0} (Same : X → X → Type 0) (mul : X → X → X) (inv : X → X) (one : X) → IsGroup Same mul inv one
    → (val : ℕ → ℕ → X) (u : ℕ) (rest more : List ℕ)
    → Same (product_from mul one val u (rest ++ more))
    (mul (product_from mul one val u rest) (product_from mul one val (end_of u rest) more))
product_on Same mul inv one g val u [] more = grind arith
product_on {X = X} Same mul inv one g val u (w ∷ rest) more =
    let v : X = val u w in
    let a : X = product_from mul one val w rest in
    let b : X = product_from mul one val (end_of w rest) more in
    let whole : X = product_from mul one val w (rest ++ more) in
    g.on (mul v whole) (mul v (mul a b)) (mul (mul v a) b)
    (g.mul_same v v whole (mul a b) (g.itself v) (product_on Same mul inv one g val w rest more))
    (g.turn (mul (mul v a) b) (mul v (mul a b)) (g.associates v a b))

-- the inverse of nothing
pub inverse_of_one : {X : Type 0} {Same : X → X → Type 0} {mul : X → X → X} {inv : X → X} {one : X} → IsGroup Same mul inv one
    → Same one (inv one)
inverse_of_one {one} g = inverse_unique g one one (g.one_left one)

-- steps back have inverse values
abbrev pub StepsTurn : {X : Type 0} → (X → X → Type 0) → (X → X) → FaceList → (ℕ → ℕ → X) → Type 0
StepsTurn Same inv mesh val = (u v : ℕ) → IsTrue (is_edge mesh u v) → Same (val v u) (inv (val u v))

-- the way back has the inverse value
pub product_back : {X : Type 0} (Same : X → X → Type 0) (mul : X → X → X) (inv : X → X) (one : X) → IsGroup Same mul inv one
    → (mesh : FaceList) (val : ℕ → ℕ → X) → StepsTurn Same inv mesh val
    → (u v : ℕ) (rest : List ℕ) → IsWay mesh u v rest
    → Same (product_from mul one val v (back u rest)) (inv (product_from mul one val u rest))
product_back Same mul inv one g mesh val turns u v [] h = inverse_of_one g
product_back {X = X} Same mul inv one g mesh val turns u v (w ∷ rest) h =
    let a : X = product_from mul one val v (back w rest) in
    let b : X = product_from mul one val w rest in
    let x : X = val u w in
    let last : X = mul (val w u) one in
    let ends : end_of v (back w rest) ≡ w = way_end mesh v w (back w rest) (way_home mesh w v rest h.1) in
    let split : Same (product_from mul one val v (back w rest ++ u ∷ [])) (mul a last) = grind (arith, back, product_on) in
    let last_is : Same last (inv x) = g.on last (val w u) (inv x) (g.one_right (val w u)) (turns u w h.0) in
    g.on (product_from mul one val v (back w rest ++ u ∷ [])) (mul a last) (inv (mul x b)) split
    (g.on (mul a last) (mul (inv b) (inv x)) (inv (mul x b))
    (g.mul_same a (inv b) last (inv x) (product_back Same mul inv one g mesh val turns w v rest h.1) last_is)
    (g.turn (inv (mul x b)) (mul (inv b) (inv x)) (inverse_of_product g x b)))

-- A step acts on the elements of the group: its value is multiplied to them.
abbrev pub times : {X : Type 0} → (X → X → X) → (ℕ → ℕ → X) → X → ℕ → ℕ → X
times mul val x u v = mul x (val u v)

abbrev pub Anywhere : {X : Type 0} → ℕ → X → Type 0
Anywhere u x = Unit {0}

pub steps_act : {X : Type 0} (Same : X → X → Type 0) (mul : X → X → X) (inv : X → X) (one : X) → IsGroup Same mul inv one
    → (mesh : FaceList) (val : ℕ → ℕ → X) → StepsTurn Same inv mesh val → Acts mesh Same (times mul val) Anywhere
steps_act {X = X} Same mul inv one g mesh val turns = record {
  itself = λ u x at. g.itself x;
  turned = λ u x y at there same. g.turn x y same;
  joined = λ u x y z first second third h k. g.on x y z h k;
  stays = λ u v x edge at. tt;
  keeps = λ u v x y edge at there same. g.mul_same x y (val u v) (val u v) same (g.itself (val u v));
  back = λ u v x edge at.
      let a : X = val u v in
      let b : X = val v u in
      let nothing : Same (mul a b) one =
      g.on (mul a b) (mul a (inv a)) one (g.mul_same a a b (inv a) (g.itself a) (turns u v edge)) (g.cancels a) in
      g.on (mul (mul x a) b) (mul x (mul a b)) x (g.associates x a b)
      (g.on (mul x (mul a b)) (mul x one) x (g.mul_same x x (mul a b) one (g.itself x) nothing) (g.one_right x));
}

-- so the product is what a walk makes of an element
pub run_product : {X : Type 0} {Same : X → X → Type 0} {mul : X → X → X} {inv : X → X} {one : X} → IsGroup Same mul inv one
    → (val : ℕ → ℕ → X) (x : X) (u : ℕ) (rest : List ℕ)
    → Same (run (times mul val) x u rest) (mul x (product_from mul one val u rest))
run_product {mul} {one} g val x u [] = g.turn (mul x one) x (g.one_right x)
run_product {mul} {one} g val x u (v ∷ rest) =
    g.on (run (times mul val) (mul x (val u v)) v rest) (mul (mul x (val u v)) (product_from mul one val v rest))
    (mul x (mul (val u v) (product_from mul one val v rest)))
    (run_product g val (mul x (val u v)) v rest) (g.associates x (val u v) (product_from mul one val v rest))

pub walked_product : {X : Type 0} {Same : X → X → Type 0} {mul : X → X → X} {inv : X → X} {one : X} → IsGroup Same mul inv one
    → (val : ℕ → ℕ → X) (walk : List ℕ) → Same (walked (times mul val) one walk) (walk_product mul one val walk)
walked_product {one} g val [] = g.itself one
walked_product {mul} {one} g val (u ∷ rest) =
    let product = product_from mul one val u rest in
    g.on (run (times mul val) one u rest) (mul one product) product (run_product g val one u rest) (g.one_left product)
