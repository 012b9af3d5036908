-- Groups up to a relation of sameness, and sums of elements: what neighbours cancel may be left out.

pub record IsGroup {X : Type 0} (Same : X → X → Type 0) (mul : X → X → X) (inv : X → X) (one : X) : Type 0 where
  pub itself : (x : X) → Same x x
  pub turn : (x y : X) → Same x y → Same y x
  pub on : (x y z : X) → Same x y → Same y z → Same x z
  pub mul_same : (a b x y : X) → Same a b → Same x y → Same (mul a x) (mul b y)
  pub inv_same : (x y : X) → Same x y → Same (inv x) (inv y)
  pub associates : (x y z : X) → Same (mul (mul x y) z) (mul x (mul y z))
  pub one_left : (x : X) → Same (mul one x) x
  pub one_right : (x : X) → Same (mul x one) x
  pub cancels : (x : X) → Same (mul x (inv x)) one
  pub cancels_back : (x : X) → Same (mul (inv x) x) one

-- x y⁻¹
abbrev pub quotient : {X : Type 0} → (X → X → X) → (X → X) → X → X → X
quotient mul inv x y = mul x (inv y)

pub inverse_unique : {X : Type 0} {Same : X → X → Type 0} {mul : X → X → X} {inv : X → X} {one : X} → IsGroup Same mul inv one → (x y : X)
    → Same (mul x y) one → Same x (inv y)
inverse_unique {mul} {inv} {one} g x y h =
    g.on x (mul x (mul y (inv y))) (inv y) (g.turn (mul x (mul y (inv y))) x
    (g.on (mul x (mul y (inv y))) (mul x one) x (g.mul_same x x (mul y (inv y)) one (g.itself x) (g.cancels y)) (g.one_right x)))
    (g.on (mul x (mul y (inv y))) (mul (mul x y) (inv y)) (inv y)
    (g.turn (mul (mul x y) (inv y)) (mul x (mul y (inv y))) (g.associates x y (inv y)))
    (g.on (mul (mul x y) (inv y)) (mul one (inv y)) (inv y) (g.mul_same (mul x y) one (inv y) (inv y) h (g.itself (inv y)))
    (g.one_left (inv y))))

pub inverse_twice : {X : Type 0} (Same : X → X → Type 0) (mul : X → X → X) (inv : X → X) (one : X) → IsGroup Same mul inv one → (x : X)
    → Same (inv (inv x)) x
inverse_twice Same mul inv one g x = g.turn x (inv (inv x)) (inverse_unique g x (inv x) (g.cancels x))

-- what stands in the middle cancels
pub middle : {X : Type 0} {Same : X → X → Type 0} {mul : X → X → X} {inv : X → X} {one : X} → IsGroup Same mul inv one → (x y z : X)
    → Same (mul (quotient mul inv x y) (quotient mul inv y z)) (quotient mul inv x z)
middle {Same} {mul} {inv} {one} g x y z =
    let step : Same (mul (inv y) (mul y (inv z))) (inv z) = g.on (mul (inv y) (mul y (inv z))) (mul (mul (inv y) y) (inv z)) (inv z)
    (g.turn (mul (mul (inv y) y) (inv z)) (mul (inv y) (mul y (inv z))) (g.associates (inv y) y (inv z)))
    (g.on (mul (mul (inv y) y) (inv z)) (mul one (inv z)) (inv z) (g.mul_same (mul (inv y) y) one (inv z) (inv z) (g.cancels_back y)
    (g.itself (inv z))) (g.one_left (inv z))) in
    g.on (mul (mul x (inv y)) (mul y (inv z))) (mul x (mul (inv y) (mul y (inv z)))) (mul x (inv z))
    (g.associates x (inv y) (mul y (inv z))) (g.mul_same x x (mul (inv y) (mul y (inv z))) (inv z) (g.itself x) step)

pub inverse_of_quotient : {X : Type 0} (Same : X → X → Type 0) (mul : X → X → X) (inv : X → X) (one : X) → IsGroup Same mul inv one
    → (x y : X)
    → Same (inv (quotient mul inv x y)) (quotient mul inv y x)
inverse_of_quotient Same mul inv one g x y =
    g.turn (quotient mul inv y x) (inv (quotient mul inv x y)) (inverse_unique g (quotient mul inv y x) (quotient mul inv x y)
    (g.on (mul (quotient mul inv y x) (quotient mul inv x y)) (quotient mul inv y y) one (middle g y x y) (g.cancels y)))

-- x is y⁻¹ where their product is one, and the like
pub left_factor : {X : Type 0} {Same : X → X → Type 0} {mul : X → X → X} {inv : X → X} {one : X} → IsGroup Same mul inv one → (v x y : X)
    → Same (mul v (quotient mul inv x y)) one → Same v (quotient mul inv y x)
left_factor {Same} {mul} {inv} {one} g v x y h =
    g.on v (inv (quotient mul inv x y)) (quotient mul inv y x) (inverse_unique g v (quotient mul inv x y) h)
    (inverse_of_quotient Same mul inv one g x y)

pub inverse_of_product : {X : Type 0} {Same : X → X → Type 0} {mul : X → X → X} {inv : X → X} {one : X} → IsGroup Same mul inv one
    → (x y : X) → Same (inv (mul x y)) (mul (inv y) (inv x))
inverse_of_product {Same} {mul} {inv} {one} g x y =
    g.turn (mul (inv y) (inv x)) (inv (mul x y)) (inverse_unique g (mul (inv y) (inv x)) (mul x y) product)
  where
    inner : Same (mul (inv x) (mul x y)) y
    inner = g.on (mul (inv x) (mul x y)) (mul (mul (inv x) x) y) y
        (g.turn (mul (mul (inv x) x) y) (mul (inv x) (mul x y)) (g.associates (inv x) x y))
        (g.on (mul (mul (inv x) x) y) (mul one y) y (g.mul_same (mul (inv x) x) one y y (g.cancels_back x) (g.itself y)) (g.one_left y))

    product : Same (mul (mul (inv y) (inv x)) (mul x y)) one
    product = g.on (mul (mul (inv y) (inv x)) (mul x y)) (mul (inv y) (mul (inv x) (mul x y))) one (g.associates (inv y) (inv x) (mul x y))
        (g.on (mul (inv y) (mul (inv x) (mul x y))) (mul (inv y) y) one
        (g.mul_same (inv y) (inv y) (mul (inv x) (mul x y)) y (g.itself (inv y)) inner) (g.cancels_back y))

-- x (v⁻¹ x)⁻¹ is v
pub one_step : {X : Type 0} {Same : X → X → Type 0} {mul : X → X → X} {inv : X → X} {one : X} → IsGroup Same mul inv one → (v x : X)
    → Same (quotient mul inv x (mul (inv v) x)) v
one_step {Same} {mul} {inv} {one} g v x =
    let turned : Same (inv (mul (inv v) x)) (mul (inv x) v) =
    g.on (inv (mul (inv v) x)) (mul (inv x) (inv (inv v))) (mul (inv x) v) (inverse_of_product g (inv v) x)
    (g.mul_same (inv x) (inv x) (inv (inv v)) v (g.itself (inv x)) (inverse_twice Same mul inv one g v)) in
    g.on (mul x (inv (mul (inv v) x))) (mul x (mul (inv x) v)) v (g.mul_same x x (inv (mul (inv v) x)) (mul (inv x) v) (g.itself x) turned)
    (g.on (mul x (mul (inv x) v)) (mul (mul x (inv x)) v) v
    (g.turn (mul (mul x (inv x)) v) (mul x (mul (inv x) v)) (g.associates x (inv x) v))
    (g.on (mul (mul x (inv x)) v) (mul one v) v (g.mul_same (mul x (inv x)) one v v (g.cancels x) (g.itself v)) (g.one_left v)))
