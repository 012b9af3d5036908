-- Ways: a walk from a vertex u, kept as the list of the vertices behind u; the way back; closed ways at a root as loops, with their
-- product and their inverse; and the loop of a way, where a way leads from each vertex to the root.
use Rattle.polygon_cut.proofs.Common.{◌≡◌, ℕ, List, [], ◌∷◌, ◌++◌, refl, ap, sym, ◌∙◌, subst, arith, append_assoc, IsTrue, All, edge_swap, tail_used, Linked, walk_from, all_more, none_yet, FaceList, is_edge, is_used, IsWalk}

pub append_none : (xs : List ℕ) → xs ++ [] ≡ xs
append_none [] = refl
append_none (x ∷ xs) = ap (λ (l : List ℕ). x ∷ l) (append_none xs)

-- the list leads along edges from u to v
abbrev pub IsWay : FaceList → ℕ → ℕ → List ℕ → Type 0
IsWay mesh u v [] = (u ≡ v) × IsTrue (is_used mesh u)
IsWay mesh u v (w ∷ rest) = IsTrue (is_edge mesh u w) × IsWay mesh w v rest

-- the way back
abbrev pub back : ℕ → List ℕ → List ℕ
back u [] = []
back u (w ∷ rest) = back w rest ++ u ∷ []

way_linked : (mesh : FaceList) (u v : ℕ) (rest : List ℕ) → IsWay mesh u v rest → Linked mesh (u ∷ rest)
way_linked mesh u v [] h = tt
way_linked mesh u v (w ∷ rest) h = (h.0, way_linked mesh w v rest h.1)

way_used : (mesh : FaceList) (u v : ℕ) (rest : List ℕ) → IsWay mesh u v rest → All (λ x. IsTrue (is_used mesh x)) (u ∷ rest)
way_used mesh u v [] h = all_more (λ x. IsTrue (is_used mesh x)) u [] h.1 (none_yet (λ x. IsTrue (is_used mesh x)))
way_used mesh u v (w ∷ rest) h = all_more (λ x. IsTrue (is_used mesh x)) u (w ∷ rest) (tail_used mesh u w h.0) (way_used mesh w v rest h.1)

pub way_walk : (mesh : FaceList) (u v : ℕ) (rest : List ℕ) → IsWay mesh u v rest → IsWalk mesh (u ∷ rest)
way_walk mesh u v rest h = walk_from mesh (u ∷ rest) (omega arith) (way_used mesh u v rest h) (way_linked mesh u v rest h)

pub start_used : (mesh : FaceList) (u v : ℕ) (rest : List ℕ) → IsWay mesh u v rest → IsTrue (is_used mesh u)
start_used mesh u v [] h = h.1
start_used mesh u v (w ∷ rest) h = tail_used mesh u w h.0

pub end_used : (mesh : FaceList) (u v : ℕ) (rest : List ℕ) → IsWay mesh u v rest → IsTrue (is_used mesh v)
end_used mesh u v [] h = subst (λ x. IsTrue (is_used mesh x)) h.0 h.1
end_used mesh u v (w ∷ rest) h = end_used mesh w v rest h.1

pub way_on : (mesh : FaceList) (u v w : ℕ) (rest more : List ℕ) → IsWay mesh u v rest → IsWay mesh v w more → IsWay mesh u w (rest ++ more)
way_on mesh u v w [] more h k = subst (λ x. IsWay mesh x w more) (sym h.0) k
way_on mesh u v w (x ∷ rest) more h k = (h.0, way_on mesh x v w rest more h.1 k)

pub way_home : (mesh : FaceList) (u v : ℕ) (rest : List ℕ) → IsWay mesh u v rest → IsWay mesh v u (back u rest)
way_home mesh u v [] h = (sym h.0, subst (λ x. IsTrue (is_used mesh x)) h.0 h.1)
way_home mesh u v (w ∷ rest) h =
    way_on mesh v w u (back w rest) (u ∷ []) (way_home mesh w v rest h.1)
    (edge_swap mesh w u ∙ h.0, (refl, tail_used mesh u w h.0))

pub back-append : (u : ℕ) (rest more : List ℕ) (v : ℕ) → (mesh : FaceList) → IsWay mesh u v rest
    → back u (rest ++ more) ≡ back v more ++ back u rest
back-append u [] more v mesh h = ap (λ x. back x more) h.0 ∙ sym (append_none (back v more))
back-append u (w ∷ rest) more v mesh h = ap (λ (l : List ℕ). l ++ u ∷ []) (back-append w rest more v mesh h.1)
    ∙ append_assoc (back v more) (back w rest) (u ∷ [])

pub back_back : (mesh : FaceList) (u v : ℕ) (rest : List ℕ) → IsWay mesh u v rest → back v (back u rest) ≡ rest
back_back mesh u v [] h = refl
back_back mesh u v (w ∷ rest) h =
    back-append v (back w rest) (u ∷ []) w mesh (way_home mesh w v rest h.1)
    ∙ ap (λ (l : List ℕ). w ∷ l) (back_back mesh w v rest h.1)

-- The loops at a root.
pub record Loop (mesh : FaceList) (root : ℕ) : Type 0 where
  pub rest : List ℕ
  pub is_way : IsWay mesh root root rest

abbrev pub loop_mul : {mesh : FaceList} {root : ℕ} → Loop mesh root → Loop mesh root → Loop mesh root
loop_mul {mesh} {root} a b = record { rest = a.rest ++ b.rest; is_way = way_on mesh root root root a.rest b.rest a.is_way b.is_way }

abbrev pub loop_inv : {mesh : FaceList} {root : ℕ} → Loop mesh root → Loop mesh root
loop_inv {mesh} {root} a = record { rest = back root a.rest; is_way = way_home mesh root root a.rest a.is_way }

abbrev pub loop_one : (mesh : FaceList) (root : ℕ) → IsTrue (is_used mesh root) → Loop mesh root
loop_one mesh root used = record { rest = []; is_way = (refl, used) }

pub loop_start : (mesh : FaceList) (root : ℕ) (a : Loop mesh root) → IsWalk mesh (root ∷ a.rest)
loop_start mesh root a = way_walk mesh root root a.rest a.is_way

-- A way from each used vertex to the root.
pub record HasWays (mesh : FaceList) (root : ℕ) (up : ℕ → List ℕ) : Type 0 where
  pub root_used : IsTrue (is_used mesh root)
  pub way : (v : ℕ) → IsTrue (is_used mesh v) → IsWay mesh v root (up v)

-- the loop of a way: down from the root, along it, and up again
abbrev pub loop_of : (mesh : FaceList) (root : ℕ) (up : ℕ → List ℕ) → HasWays mesh root up → (u v : ℕ) (rest : List ℕ) → IsWay mesh u v rest
    → Loop mesh root
loop_of mesh root up ways u v rest h = record {
  rest = back u (up u) ++ (rest ++ up v);
  is_way =
      way_on mesh root u root (back u (up u)) (rest ++ up v) (way_home mesh u root (up u) (ways.way u (start_used mesh u v rest h)))
      (way_on mesh u v root rest (up v) h (ways.way v (end_used mesh u v rest h)));
}
