-- Lists of spokes read as products in a group: each spoke puts its element at the vertex, and takes it away in the middle. Where the quads
-- hold in the group, this is kept by spurs and quads.
use Rattle.quad_system.proofs.Common.{IsGroup, quotient, spoke_product, KeepsSteps, IsQuadWheel, partner_is, ℕ, ◌<◌, Bool, true, false, not, List, [], ◌∷◌, length, get_or, refl, subst, IsQuad, add}
use Rattle.polygon_cut.proofs.GroupWordLemmas.{Var, Mul, Inv, by_words}

-- the spokes of a wheel as elements of a group in which the two ways round each quad are one
pub record HasQuads {X : Type 0} (Same : X → X → Type 0) (mul : X → X → X) (inv : X → X) (element : ℕ → X) (degree : ℕ)
    (place spoke_at partner : ℕ → ℕ) : Type 0 where
  pub wheel : IsQuadWheel degree place spoke_at partner
  pub around_middle : (a : ℕ) → a < degree
      → Same (quotient mul inv (element a) (element (add degree a 1)))
      (quotient mul inv (element (add degree (partner a) 1)) (element (partner a)))

module _ {X : Type 0} (Same : X → X → Type 0) (mul : X → X → X) (inv : X → X) (one : X) (g : IsGroup Same mul inv one) (element : ℕ → X)
    (places : List ℕ) (spoke_at partner : ℕ → ℕ)
    (q : HasQuads Same mul inv element (length places) (λ i. get_or places i 0) spoke_at partner) where
  abbrev product : Bool → List ℕ → X
  product at_vertex path = spoke_product mul inv one element at_vertex path

  behind : (at_vertex : Bool) (x : ℕ) (first second : List ℕ) → Same (product (not at_vertex) first) (product (not at_vertex) second)
      → Same (product at_vertex (x ∷ first)) (product at_vertex (x ∷ second))
  behind true x first second h =
      g.mul_same (element x) (element x) (product false first) (product false second) (g.itself (element x)) h
  behind false x first second h =
      g.mul_same (inv (element x)) (inv (element x)) (product true first) (product true second) (g.itself (inv (element x))) h

  spur : (at_vertex : Bool) (x : ℕ) (path : List ℕ) → Same (product at_vertex (x ∷ x ∷ path)) (product at_vertex path)
  spur true x path =
      by_words Same mul inv one g (element x ∷ product true path ∷ []) (Mul (Var 0) (Mul (Inv (Var 0)) (Var 1))) (Var 1) refl
  spur false x path =
      by_words Same mul inv one g (element x ∷ product false path ∷ []) (Mul (Inv (Var 0)) (Mul (Var 0) (Var 1))) (Var 1) refl

  -- a product of three, with the first two changed
  change_two : (a b c d rest : X) → Same (mul a b) (mul c d) → Same (mul a (mul b rest)) (mul c (mul d rest))
  change_two a b c d rest h =
      g.on (mul a (mul b rest)) (mul (mul a b) rest) (mul c (mul d rest))
      (g.turn (mul (mul a b) rest) (mul a (mul b rest)) (g.associates a b rest))
      (g.on (mul (mul a b) rest) (mul (mul c d) rest) (mul c (mul d rest)) (g.mul_same (mul a b) (mul c d) rest rest h (g.itself rest))
      (g.associates c d rest))

  quad : (a c : ℕ) (path : List ℕ) → IsQuad places a c
      → Same (product true (a ∷ add (length places) a 1 ∷ path)) (product true (add (length places) c 1 ∷ c ∷ path))
  quad a c path h =
      subst (λ z. Same (product true (a ∷ add (length places) a 1 ∷ path)) (product true (add (length places) z 1 ∷ z ∷ path)))
      (partner_is places spoke_at partner q.wheel a c h)
      (change_two (element a) (inv (element (add (length places) a 1))) (element (add (length places) (partner a) 1))
      (inv (element (partner a))) (product true path) (q.around_middle a h.a_below))

  pub products_keep : KeepsSteps places (λ at_vertex first second. Same (product at_vertex first) (product at_vertex second))
  products_keep = record {
    itself = λ b p. g.itself (product b p);
    turn = λ b p r h. g.turn (product b p) (product b r) h;
    on = λ b p r s h k. g.on (product b p) (product b r) (product b s) h k;
    behind = λ b x p r l h. behind b x p r h;
    spur = λ b x p l. spur b x p;
    quad = quad;
  }
