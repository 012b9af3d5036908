-- What loop steps do to the product of a closed list of spokes: what spurs and quads keep they keep, and a rotation turns two factors
-- round.
use Rattle.free_loops.proofs.Common.{spoke_product, ends_at_vertex, spokes_on, KeepsSteps, IsLoop, LoopLeads, IsRotation, ◌≡◌, ℕ, ◌%◌, Bool, true, List, [], ◌∷◌, ◌++◌, length, take, drop, refl, ap, sym, subst, arith, length-append, length-take, take-append-drop}
use Rattle.polygon_cut.proofs.GroupLemmas.{IsGroup}
use Rattle.spoke_rings.proofs.LoopsKeep.{loops-keep}

-- a list of even length ends where it starts
even_ends : (path : List ℕ) → length path % 2 ≡ 0 → ends_at_vertex true path ≡ true
even_ends [] e = refl
even_ends (x ∷ []) e = absurd (omega arith)
even_ends (x ∷ y ∷ path) e = even_ends path (omega arith)

-- A wider sameness, to which products also belong whose two factors are turned round: conjugacy.
pub record IsConjugacy {X : Type 0} (Same : X → X → Type 0) (mul : X → X → X) (Free : X → X → Type 0) : Type 0 where
  pub same : (x y : X) → Same x y → Free x y
  pub on : (x y z : X) → Free x y → Free y z → Free x z
  pub turned : (x y : X) → Free (mul x y) (mul y x)

module _ {X : Type 0} (Same : X → X → Type 0) (mul : X → X → X) (inv : X → X) (one : X) (g : IsGroup Same mul inv one)
    (spoke : ℕ → X) (Free : X → X → Type 0) (conjugacy : IsConjugacy Same mul Free) where
  abbrev product : Bool → List ℕ → X
  product at_vertex path = spoke_product mul inv one spoke at_vertex path

  turn_free : (a b : List ℕ) → length a % 2 ≡ 0 → length b % 2 ≡ 0 → Free (product true (a ++ b)) (product true (b ++ a))
  turn_free a b even other =
      let x : X = product true a in
      let y : X = product true b in
      let parts : (p r : List ℕ) → length p % 2 ≡ 0 → Same (product true (p ++ r)) (mul (product true p) (product true r)) =
      λ p r e. subst (λ v. Same (product true (p ++ r)) (mul (product true p) (product v r))) (even_ends p e)
      (spokes_on Same mul inv one g spoke true p r) in
      conjugacy.on (product true (a ++ b)) (mul x y) (product true (b ++ a)) (conjugacy.same _ _ (parts a b even))
      (conjugacy.on (mul x y) (mul y x) (product true (b ++ a)) (conjugacy.turned x y)
      (conjugacy.same _ _ (g.turn (product true (b ++ a)) (mul y x) (parts b a other))))

  pub steps_free : (places : List ℕ) → KeepsSteps places (λ at_vertex p r. Same (product at_vertex p) (product at_vertex r))
      → (path other : List ℕ) → IsLoop places path → LoopLeads places path other → Free (product true path) (product true other)
  steps_free places keeps path other loop leads =
      let itself : (p : List ℕ) → Free (product true p) (product true p) = λ p. conjugacy.same _ _ (g.itself (product true p)) in
      let rotated : (p r : List ℕ) → IsLoop places p → IsRotation p r → Free (product true p) (product true r) = λ p r own rotation.
      let front : List ℕ = take rotation.count p in
      let rest : List ℕ = drop rotation.count p in
      let whole : p ≡ front ++ rest = sym (take-append-drop rotation.count p) in
      let front_even : length front % 2 ≡ 0 = omega (arith, length-take rotation.count p, rotation.within, rotation.even) in
      let rest_even : length rest % 2 ≡ 0 = omega (arith, ap length whole, length-append front rest, own.even, front_even) in
      subst (λ (l : List ℕ). Free (product true p) (product true l)) (sym rotation.is)
      (subst (λ (l : List ℕ). Free (product true l) (product true (rest ++ front))) (sym whole)
      (turn_free front rest front_even rest_even)) in
      (loops-keep places (λ at_vertex p r. Same (product at_vertex p) (product at_vertex r)) keeps
      (λ p r. Free (product true p) (product true r))
      (record { itself = itself; on = λ p r q. conjugacy.on (product true p) (product true r) (product true q); rotated = rotated })
      (λ p r same. conjugacy.same _ _ same) path other loop leads).0
