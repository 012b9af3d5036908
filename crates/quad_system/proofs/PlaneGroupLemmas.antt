-- Four spokes whose quads hold in a group: the group elements of two sides of a quad commute, and a product of spokes depends on
-- nothing but how often it goes along each of the two.
use Rattle.quad_system.proofs.Common.{sum_of_pairs, unit_step, IsGroup, quotient, ◌≡◌, ℕ, zero, suc, ◌+◌, ◌<◌, List, [], ◌∷◌, refl, arith, pos, ◌+ℤ◌, common_steps, if◌then◌else◌, ◌==◌}
use Rattle.std.proofs.lemmas.Int.{ints}

-- how often each spoke lies along the two sides, from spoke 0 on
abbrev pub along_first : ℕ → ℕ
along_first i = if i == 0 then 0 else if i == 1 then 1 else if i == 2 then 1 else 0

abbrev pub along_second : ℕ → ℕ
along_second i = if i == 0 then 0 else if i == 1 then 0 else 1

-- sums over the first spokes of pairs, and over the second ones
abbrev pub over_firsts : (ℕ → ℕ) → List (ℕ × ℕ) → ℕ
over_firsts f [] = 0
over_firsts f (pair ∷ pairs) = f pair.0 + over_firsts f pairs

abbrev pub over_seconds : (ℕ → ℕ) → List (ℕ × ℕ) → ℕ
over_seconds f [] = 0
over_seconds f (pair ∷ pairs) = f pair.1 + over_seconds f pairs

abbrev pub AreBelow : ℕ → List (ℕ × ℕ) → Type 0
AreBelow n [] = Unit {0}
AreBelow n (pair ∷ pairs) = (pair.0 < n) × (pair.1 < n) × AreBelow n pairs

-- the steps of the plane in these numbers
unit_x : (i : ℕ) → i < 4 → (unit_step i).x +ℤ pos (along_first i + along_second i) ≡ pos 1
unit_x i l = grind arith

unit_y : (i : ℕ) → i < 4 → (unit_step i).y +ℤ pos (along_second i) ≡ pos (along_first i)
unit_y i l = grind arith

sum_x : (pairs : List (ℕ × ℕ)) → AreBelow 4 pairs
    → (sum_of_pairs pairs).x +ℤ pos (over_firsts along_first pairs + over_firsts along_second pairs) ≡ pos
    (over_seconds along_first pairs + over_seconds along_second pairs)
sum_x [] b = refl
sum_x (pair ∷ pairs) b =
    let rest = sum_x pairs b.2 in
    let one = unit_x pair.0 b.0 in
    let two = unit_x pair.1 b.1 in
    omega (arith, ints, rest, one, two)

sum_y : (pairs : List (ℕ × ℕ)) → AreBelow 4 pairs
    → (sum_of_pairs pairs).y +ℤ pos (over_seconds along_first pairs + over_firsts along_second pairs) ≡ pos
    (over_firsts along_first pairs + over_seconds along_second pairs)
sum_y [] b = refl
sum_y (pair ∷ pairs) b =
    let rest = sum_y pairs b.2 in
    let one = unit_y pair.0 b.0 in
    let two = unit_y pair.1 b.1 in
    omega (arith, ints, rest, one, two)

-- equal sums balance
pub balance : (pairs others : List (ℕ × ℕ)) → AreBelow 4 pairs → AreBelow 4 others → sum_of_pairs pairs ≡ sum_of_pairs others
    → (over_firsts along_first others + over_seconds along_first pairs ≡ over_firsts along_first pairs + over_seconds along_first others)
    × (over_firsts along_second others + over_seconds along_second pairs ≡ over_firsts along_second pairs + over_seconds along_second
    others)
balance pairs others b c e = grind (arith, common_steps, sum_x, sum_y)

module _ {X : Type 0} (Same : X → X → Type 0) (mul : X → X → X) (inv : X → X) (one : X) (g : IsGroup Same mul inv one) where
  pub undo : (x y : X) → Same (mul (quotient mul inv x y) y) x
  undo x y = g.on _ _ _ (g.associates x (inv y) y) (g.on _ _ _ (g.mul_same x x (mul (inv y) y) one (g.itself x) (g.cancels_back y))
      (g.one_right x))

  pub right_off : (x y z : X) → Same (mul x z) (mul y z) → Same x y
  right_off x y z h =
      let back : (w : X) → Same (mul (mul w z) (inv z)) w =
      λ w. g.on _ _ _ (g.associates w z (inv z)) (g.on _ _ _ (g.mul_same w w (mul z (inv z)) one (g.itself w) (g.cancels z))
      (g.one_right w)) in
      g.on _ _ _ (g.turn _ _ (back x)) (g.on _ _ _ (g.mul_same (mul x z) (mul y z) (inv z) (inv z) h (g.itself (inv z))) (back y))

  left_off : (x y z : X) → Same (mul z x) (mul z y) → Same x y
  left_off x y z h =
      let back : (w : X) → Same (mul (inv z) (mul z w)) w =
      λ w. g.on _ _ _ (g.turn _ _ (g.associates (inv z) z w))
      (g.on _ _ _ (g.mul_same (mul (inv z) z) one w w (g.cancels_back z) (g.itself w)) (g.one_left w)) in
      g.on _ _ _ (g.turn _ _ (back x)) (g.on _ _ _ (g.mul_same (inv z) (inv z) (mul z x) (mul z y) (g.itself (inv z)) h) (back y))

-- so often one element, and then so often another
abbrev pub times : {X : Type 0} → (X → X → X) → X → X → ℕ → X
times mul one b zero = one
times mul one b (suc l) = mul b (times mul one b l)

abbrev pub grid : {X : Type 0} → (X → X → X) → X → X → X → ℕ → ℕ → X
grid mul one a b zero l = times mul one b l
grid mul one a b (suc n) l = mul a (grid mul one a b n l)

module _ {X : Type 0} (Same : X → X → Type 0) (mul : X → X → X) (inv : X → X) (one : X) (g : IsGroup Same mul inv one) (a b : X)
    (swap : Same (mul a b) (mul b a)) where
  b_in : (n l : ℕ) → Same (mul b (grid mul one a b n l)) (grid mul one a b n (suc l))
  b_in zero l = g.itself (mul b (times mul one b l))
  b_in (suc n) l =
      g.on _ _ _ (g.turn _ _ (g.associates b a (grid mul one a b n l)))
      (g.on _ _ _ (g.mul_same (mul b a) (mul a b) (grid mul one a b n l) (grid mul one a b n l) (g.turn _ _ swap)
      (g.itself (grid mul one a b n l)))
      (g.on _ _ _ (g.associates a b (grid mul one a b n l))
      (g.mul_same a a (mul b (grid mul one a b n l)) (grid mul one a b n (suc l)) (g.itself a) (b_in n l))))

  pub grid_add : (n l m k p q : ℕ) → n + m ≡ p → l + k ≡ q → Same (mul (grid mul one a b n l) (grid mul one a b m k)) (grid mul one a b p q)
  grid_add zero zero m k p q e f = grind arith
  grid_add zero (suc l) m k p zero e f = absurd (omega arith)
  grid_add zero (suc l) m k p (suc q) e f =
      g.on _ _ _ (g.associates b (times mul one b l) (grid mul one a b m k))
      (g.on _ _ _ (g.mul_same b b (mul (times mul one b l) (grid mul one a b m k)) (grid mul one a b p q) (g.itself b)
      (grid_add zero l m k p q e (omega arith))) (b_in p q))
  grid_add (suc n) l m k zero q e f = absurd (omega arith)
  grid_add (suc n) l m k (suc p) q e f =
      g.on _ _ _ (g.associates a (grid mul one a b n l) (grid mul one a b m k))
      (g.mul_same a a (mul (grid mul one a b n l) (grid mul one a b m k)) (grid mul one a b p q) (g.itself a)
      (grid_add n l m k p q (omega arith) f))

  -- the element makes of one point of the grid another
  abbrev pub Over : X → (n l m k : ℕ) → Type 0
  Over x n l m k = Same (mul (grid mul one a b n l) x) (grid mul one a b m k)

  pub over_product : (x y : X) (n l m k n' l' m' k' : ℕ) → Over x n l m k → Over y n' l' m' k'
      → Over (mul x y) (n + n') (l + l') (m + m') (k + k')
  over_product x y n l m k n' l' m' k' h i =
      g.on _ _ _ (g.mul_same _ _ (mul x y) (mul x y) (g.turn _ _ (grid_add n' l' n l (n + n') (l + l') (omega arith) (omega arith)))
      (g.itself (mul x y)))
      (g.on _ _ _ (g.associates (grid mul one a b n' l') (grid mul one a b n l) (mul x y))
      (g.on _ _ _ (g.mul_same (grid mul one a b n' l') (grid mul one a b n' l') _ _ (g.itself (grid mul one a b n' l'))
      (g.on _ _ _ (g.turn _ _ (g.associates (grid mul one a b n l) x y)) (g.mul_same _ _ y y h (g.itself y))))
      (g.on _ _ _ (g.turn _ _ (g.associates (grid mul one a b n' l') (grid mul one a b m k) y))
      (g.on _ _ _ (g.mul_same _ _ y y (g.on _ _ _ (grid_add n' l' m k (m + n') (k + l') (omega arith) (omega arith))
      (g.turn _ _ (grid_add m k n' l' (m + n') (k + l') refl refl))) (g.itself y))
      (g.on _ _ _ (g.associates (grid mul one a b m k) (grid mul one a b n' l') y)
      (g.on _ _ _ (g.mul_same (grid mul one a b m k) (grid mul one a b m k) _ _ (g.itself (grid mul one a b m k)) i)
      (grid_add m k m' k' (m + m') (k + k') refl refl)))))))

  pub over_same : (x y : X) (n l m k n' l' m' k' : ℕ) → Over x n l m k → Over y n' l' m' k' → n' + m ≡ n + m' → l' + k ≡ l + k' → Same x y
  over_same x y n l m k n' l' m' k' h i e f =
      let first : Same (mul (grid mul one a b n' l') (mul (grid mul one a b n l) x)) (grid mul one a b (n + m') (l + k')) =
      g.on _ _ _ (g.mul_same (grid mul one a b n' l') (grid mul one a b n' l') _ _ (g.itself (grid mul one a b n' l')) h)
      (grid_add n' l' m k (n + m') (l + k') e f) in
      let second : Same (mul (grid mul one a b n l) (mul (grid mul one a b n' l') y)) (grid mul one a b (n + m') (l + k')) =
      g.on _ _ _ (g.mul_same (grid mul one a b n l) (grid mul one a b n l) _ _ (g.itself (grid mul one a b n l)) i)
      (grid_add n l m' k' (n + m') (l + k') refl refl) in
      let around : Same (mul (grid mul one a b n l) (mul (grid mul one a b n' l') y))
      (mul (grid mul one a b n' l') (mul (grid mul one a b n l) y)) =
      g.on _ _ _ (g.turn _ _ (g.associates (grid mul one a b n l) (grid mul one a b n' l') y))
      (g.on _ _ _ (g.mul_same _ _ y y (g.on _ _ _ (grid_add n l n' l' (n + n') (l + l') refl refl)
      (g.turn _ _ (grid_add n' l' n l (n + n') (l + l') (omega arith) (omega arith)))) (g.itself y))
      (g.associates (grid mul one a b n' l') (grid mul one a b n l) y)) in
      left_off Same mul inv one g x y (grid mul one a b n l)
      (left_off Same mul inv one g (mul (grid mul one a b n l) x) (mul (grid mul one a b n l) y) (grid mul one a b n' l')
      (g.on _ _ _ first (g.on _ _ _ (g.turn _ _ second) around)))
