-- A certificate has one verdict.
use Rattle.homology.proofs.Common.{face_number, edge_number, number_at, IsFirstAgainst, HasFace, HasEdge, IsChainVerdict, IsCocycleVerdict, IsLeastUnbalanced, IsLeastOpen, IsVerdict, EdgeNumber, FaceNumber, HomologyVerdict, Face, Sum, Zero, Accepted, ◌≡◌, ◌⊎◌, inl, inr, ℕ, ◌<◌, List, get_or, refl, ap, sym, ◌∙◌, subst, ℤ, arith, cases_order, get_or_default, All, IfOk, Result, Ok, Err, IsPairBefore, FaceList}
use Rattle.homology.specs.declared.certificate.HomologyCert.{HomologyCert}
use Rattle.homology.specs.declared.certificate.HomologyCert.TheVariants.{Chain, Cocycle}
use Rattle.homology.specs.declared.verdict.HomologyVerdict.TheVariants.{Edge}
use Rattle.std.specs.declared.alloc.AllocError.{AllocError}
use Rattle.surf_model.specs.declared.names.FaceName.{FaceName}
use Rattle.surf_model.specs.declared.names.VertexName.{VertexName}

-- the first element against a fact does not come where all meet it
all_or_first : {X : Type 0} (P : X → Type 0) (xs : List X) (x : X) → All P xs → IsFirstAgainst P xs x → ⊥
all_or_first P xs x all first = first.against (subst P first.is (all first.place x first.in_list))

-- and there is one
earlier : {X : Type 0} (P : X → Type 0) (xs : List X) (x y : X) (p : IsFirstAgainst P xs x) (q : IsFirstAgainst P xs y)
    → p.place < q.place → ⊥
earlier P xs x y p q less = p.against (subst P (get_or_default xs p.place y x p.in_list ∙ p.is) (q.before p.place less))

one_first : {X : Type 0} (P : X → Type 0) (xs : List X) (x y : X) → IsFirstAgainst P xs x → IsFirstAgainst P xs y → x ≡ y
one_first P xs x y p q = elim (cases_order p.place q.place) [
  | inl same ↦ sym p.is ∙ get_or_default xs p.place x y p.in_list ∙ ap (λ k. get_or xs k y) same ∙ q.is
  | inr differ ↦ elim differ [
    | inl less ↦ absurd (earlier P xs x y p q less)
    | inr more ↦ absurd (earlier P xs y x q p more)
  ]
]

-- of two pairs one comes before the other, or they are one
order_of : (a b c d : ℕ) → ((a ≡ c) × (b ≡ d)) ⊎ (IsPairBefore a b c d ⊎ IsPairBefore c d a b)
order_of a b c d = grind arith

vertex_is : (u v : VertexName) → u.0 ≡ v.0 → u ≡ v
vertex_is u v e = λ i. record { 0 = e i }

face_is : (f g : FaceName) → f.0 ≡ g.0 → f ≡ g
face_is f g e = λ i. record { 0 = e i }

one_unbalanced : (mesh : FaceList) (of_face : ℕ → ℤ) (first second : List ℕ) (a b c d : VertexName)
    → IsLeastUnbalanced mesh of_face first second a.0 b.0 → IsLeastUnbalanced mesh of_face first second c.0 d.0 → Edge a b ≡ Edge c d
one_unbalanced mesh of_face first second a b c d p q = grind (arith, order_of, vertex_is)

one_open : (mesh : FaceList) (of_edge : ℕ → ℕ → ℤ) (f g : FaceName) → IsLeastOpen mesh of_edge f.0 → IsLeastOpen mesh of_edge g.0
    → Sum f ≡ Sum g
one_open mesh of_edge f g p q = grind (arith, face_is)

one_of_chain : (mesh : FaceList) (first second : List ℕ) (lines : List FaceNumber) (v w : HomologyVerdict)
    → IsVerdict mesh first second (Chain lines) v → IsVerdict mesh first second (Chain lines) w → v ≡ w
one_of_chain mesh first second lines (Face f) (Face g) p q =
    let same : p.0 ≡ q.0 = one_first (HasFace mesh) lines p.0 q.0 p.1 q.1 in grind arith
one_of_chain mesh first second lines (Face f) (Edge a b) p q = absurd (all_or_first (HasFace mesh) lines p.0 q.0 p.1)
one_of_chain mesh first second lines (Face f) (Sum g) p q = absurd q
one_of_chain mesh first second lines (Face f) Zero p q = absurd q
one_of_chain mesh first second lines (Face f) Accepted p q = absurd (all_or_first (HasFace mesh) lines p.0 q.0 p.1)
one_of_chain mesh first second lines (Edge a b) (Face g) p q = absurd (all_or_first (HasFace mesh) lines q.0 p.0 q.1)
one_of_chain mesh first second lines (Edge a b) (Edge c d) p q = one_unbalanced mesh (face_number lines) first second a b c d p.1 q.1
one_of_chain mesh first second lines (Edge a b) (Sum g) p q = absurd q
one_of_chain mesh first second lines (Edge a b) Zero p q = absurd q
one_of_chain mesh first second lines (Edge a b) Accepted p q = absurd (p.1.against (q.1.balanced a.0 b.0 p.1.ordered p.1.edge))
one_of_chain mesh first second lines (Sum f) w p q = absurd p
one_of_chain mesh first second lines Zero w p q = absurd p
one_of_chain mesh first second lines Accepted (Face g) p q = absurd (all_or_first (HasFace mesh) lines q.0 p.0 q.1)
one_of_chain mesh first second lines Accepted (Edge a b) p q = absurd (q.1.against (p.1.balanced a.0 b.0 q.1.ordered q.1.edge))
one_of_chain mesh first second lines Accepted (Sum g) p q = absurd q
one_of_chain mesh first second lines Accepted Zero p q = absurd q
one_of_chain mesh first second lines Accepted Accepted p q = refl

one_of_cocycle : (mesh : FaceList) (first second : List ℕ) (lines : List EdgeNumber) (v w : HomologyVerdict)
    → IsVerdict mesh first second (Cocycle lines) v → IsVerdict mesh first second (Cocycle lines) w → v ≡ w
one_of_cocycle mesh first second lines (Face f) w p q = absurd p
one_of_cocycle mesh first second lines (Edge a b) (Face g) p q = absurd q
one_of_cocycle mesh first second lines (Edge a b) (Edge c d) p q =
    let same : p.0 ≡ q.0 = one_first (HasEdge mesh) lines p.0 q.0 p.1 q.1 in grind arith
one_of_cocycle mesh first second lines (Edge a b) (Sum g) p q = absurd (all_or_first (HasEdge mesh) lines p.0 q.0 p.1)
one_of_cocycle mesh first second lines (Edge a b) Zero p q = absurd (all_or_first (HasEdge mesh) lines p.0 q.0 p.1)
one_of_cocycle mesh first second lines (Edge a b) Accepted p q = absurd (all_or_first (HasEdge mesh) lines p.0 q.0 p.1)
one_of_cocycle mesh first second lines (Sum f) (Face g) p q = absurd q
one_of_cocycle mesh first second lines (Sum f) (Edge c d) p q = absurd (all_or_first (HasEdge mesh) lines q.0 p.0 q.1)
one_of_cocycle mesh first second lines (Sum f) (Sum g) p q = one_open mesh (edge_number lines) f g p.1 q.1
one_of_cocycle mesh first second lines (Sum f) Zero p q = absurd (p.1.against (q.1.closed f.0 p.1.in_mesh))
one_of_cocycle mesh first second lines (Sum f) Accepted p q = absurd (p.1.against (q.1.closed f.0 p.1.in_mesh))
one_of_cocycle mesh first second lines Zero (Face g) p q = absurd q
one_of_cocycle mesh first second lines Zero (Edge c d) p q = absurd (all_or_first (HasEdge mesh) lines q.0 p.0 q.1)
one_of_cocycle mesh first second lines Zero (Sum g) p q = absurd (q.1.against (p.1.closed g.0 q.1.in_mesh))
one_of_cocycle mesh first second lines Zero Zero p q = refl
one_of_cocycle mesh first second lines Zero Accepted p q = absurd (q.2 p.2)
one_of_cocycle mesh first second lines Accepted (Face g) p q = absurd q
one_of_cocycle mesh first second lines Accepted (Edge c d) p q = absurd (all_or_first (HasEdge mesh) lines q.0 p.0 q.1)
one_of_cocycle mesh first second lines Accepted (Sum g) p q = absurd (q.1.against (p.1.closed g.0 q.1.in_mesh))
one_of_cocycle mesh first second lines Accepted Zero p q = absurd (p.2 q.2)
one_of_cocycle mesh first second lines Accepted Accepted p q = refl

pub one_verdict : (mesh : FaceList) (first second : List ℕ) (certificate : HomologyCert) (v w : HomologyVerdict)
    → IsVerdict mesh first second certificate v → IsVerdict mesh first second certificate w → v ≡ w
one_verdict mesh first second (Chain lines) v w p q = one_of_chain mesh first second lines v w p q
one_verdict mesh first second (Cocycle lines) v w p q = one_of_cocycle mesh first second lines v w p q

pub exactly : (mesh : FaceList) (first second : List ℕ) (certificate : HomologyCert) (result : Result HomologyVerdict AllocError)
    → IfOk result (IsVerdict mesh first second certificate) → (v : HomologyVerdict) → IsVerdict mesh first second certificate v
    → IfOk result (λ given. given ≡ v)
exactly mesh first second certificate (Ok given) h v is = one_verdict mesh first second certificate given v h is
exactly mesh first second certificate (Err e) h v is = tt

-- ---- what is listed

of_chain : (mesh : FaceList) (first second : List ℕ) (lines : List FaceNumber) (v : HomologyVerdict) → All (HasFace mesh) lines
    → IsChainVerdict mesh (face_number lines) first second v → IsVerdict mesh first second (Chain lines) v
of_chain mesh first second lines (Face f) all h = absurd h
of_chain mesh first second lines (Edge low high) all h = (all, h)
of_chain mesh first second lines (Sum f) all h = h
of_chain mesh first second lines Zero all h = h
of_chain mesh first second lines Accepted all h = (all, h)

-- the verdict on the numbers of all faces is that on a chain whose listed faces are there
pub chain_listed : (mesh : FaceList) (first second : List ℕ) (lines : List FaceNumber) (of_face : List ℤ)
    (result : Result HomologyVerdict AllocError) → All (HasFace mesh) lines
    → IfOk result (λ v. (number : ℕ → ℤ) → ((f : ℕ) → number_at of_face f ≡ number f) → IsChainVerdict mesh number first second v)
    → ((f : ℕ) → number_at of_face f ≡ face_number lines f) → IfOk result (IsVerdict mesh first second (Chain lines))
chain_listed mesh first second lines of_face (Ok v) all h same = of_chain mesh first second lines v all (h (face_number lines) same)
chain_listed mesh first second lines of_face (Err e) all h same = tt

-- and that on the numbers of all edges is that on a cocycle whose listed pairs are edges
pub cocycle_listed : (mesh : FaceList) (first second : List ℕ) (lines : List EdgeNumber) (v : HomologyVerdict) → All (HasEdge mesh) lines
    → IsCocycleVerdict mesh (edge_number lines) first second v → IsVerdict mesh first second (Cocycle lines) v
cocycle_listed mesh first second lines (Face f) all h = h
cocycle_listed mesh first second lines (Edge low high) all h = absurd h
cocycle_listed mesh first second lines (Sum f) all h = (all, h)
cocycle_listed mesh first second lines Zero all h = (all, h.0, h.1)
cocycle_listed mesh first second lines Accepted all h = (all, h.0, h.1)
