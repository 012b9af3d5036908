-- What darts make of a state along lists of vertices that are put together, and along the corners of a face.
use Rattle.std.proofs.Common.{◌≡◌, ℕ, zero, suc, ◌<◌, Bool, List, [], ◌∷◌, ◌++◌, length, get_or, refl, ap, ◌∙◌}
use Rattle.surf_model.specs.FaceLists.{FaceList, next_corner, corners_from}
use Rattle.surf_model.specs.Walks.{IsWalk}
use Rattle.surf_model.proofs.EdgeLemmas.{edge_swap, step_within}
use Rattle.surf_model.proofs.RoundLemmas.{corner_after}
use Rattle.surf_model.proofs.LinkLemmas.{Linked, links}
use Rattle.walk_actions.specs.Actions.{run, walked, vertices_beyond, EachDart, EachDartOf, IsEdge, AreDarts}
use Rattle.walk_actions.proofs.Corners.{corners_beyond}

-- the last of the vertices from u on
abbrev pub end_from : ℕ → List ℕ → ℕ
end_from u [] = u
end_from u (v ∷ vs) = end_from v vs

pub end_from-append : (u : ℕ) (xs ys : List ℕ) → end_from u (xs ++ ys) ≡ end_from (end_from u xs) ys
end_from-append u [] ys = refl
end_from-append u (x ∷ xs) ys = end_from-append x xs ys

pub end_beyond : (ring : List ℕ) (rising : Bool) (t k : ℕ)
    → end_from (get_or ring t 0) (vertices_beyond ring rising t k) ≡ get_or ring (corner_after rising (length ring) t k) 0
end_beyond ring rising t zero = refl
end_beyond ring rising t (suc k) = end_beyond ring rising (next_corner rising (length ring) t) k

module _ (P : ℕ → ℕ → Type 0) where
  pub each_front : (u : ℕ) (xs ys : List ℕ) → EachDart P u (xs ++ ys) → EachDart P u xs
  each_front u [] ys h = tt
  each_front u (x ∷ xs) ys h = (h.0, each_front x xs ys h.1)

  pub each_behind : (u : ℕ) (xs ys : List ℕ) → EachDart P u (xs ++ ys) → EachDart P (end_from u xs) ys
  each_behind u [] ys h = h
  each_behind u (x ∷ xs) ys h = each_behind x xs ys h.1

  pub each_on : (u : ℕ) (xs ys : List ℕ) → EachDart P u xs → EachDart P (end_from u xs) ys → EachDart P u (xs ++ ys)
  each_on u [] ys h k = k
  each_on u (x ∷ xs) ys h k = (h.0, each_on x xs ys h.1 k)

  pub each_round : (ring : List ℕ) → ((rising : Bool) (t : ℕ) → t < length ring
      → P (get_or ring t 0) (get_or ring (next_corner rising (length ring) t) 0))
      → (rising : Bool) (t k : ℕ) → t < length ring → EachDart P (get_or ring t 0) (vertices_beyond ring rising t k)
  each_round ring step rising t zero l = tt
  each_round ring step rising t (suc k) l =
      (step rising t l, each_round ring step rising (next_corner rising (length ring) t) k (step_within rising (length ring) t l))

pub each_dart : (P Q : ℕ → ℕ → Type 0) → ((a b : ℕ) → P a b → Q a b) → (u : ℕ) (vs : List ℕ) → EachDart P u vs → EachDart Q u vs
each_dart P Q more u [] h = tt
each_dart P Q more u (v ∷ vs) h = (more u v h.0, each_dart P Q more v vs h.1)

-- the darts of a walk are edges
pub edges_of : (mesh : FaceList) (walk : List ℕ) → IsWalk mesh walk → EachDartOf (IsEdge mesh) walk
edges_of mesh walk w = each walk (links mesh walk w)
  where
    from : (u : ℕ) (us : List ℕ) → Linked mesh (u ∷ us) → EachDart (IsEdge mesh) u us
    from u [] h = tt
    from u (v ∷ vs) h = (h.0, from v vs h.1)

    each : (list : List ℕ) → Linked mesh list → EachDartOf (IsEdge mesh) list
    each [] h = tt
    each (u ∷ us) h = from u us h

pub edges_are_darts : (mesh : FaceList) → AreDarts mesh (IsEdge mesh)
edges_are_darts mesh = record { edges = λ u v edge. edge; turned = λ u v edge. edge_swap mesh v u ∙ edge }

-- where all pairs are taken for darts
pub any_darts : (mesh : FaceList) → AreDarts mesh (λ (u v : ℕ). Unit {0})
any_darts mesh = record { edges = λ u v edge. tt; turned = λ u v dart. tt }

pub each_any : (u : ℕ) (vs : List ℕ) → EachDart (λ (a b : ℕ). Unit {0}) u vs
each_any u [] = tt
each_any u (v ∷ vs) = (tt, each_any v vs)

pub each_any_of : (walk : List ℕ) → EachDartOf (λ (a b : ℕ). Unit {0}) walk
each_any_of [] = tt
each_any_of (u ∷ us) = each_any u us

module _ {State : Type 0} (act : State → ℕ → ℕ → State) where
  pub run-append : (s : State) (u : ℕ) (xs ys : List ℕ) → run act s u (xs ++ ys) ≡ run act (run act s u xs) (end_from u xs) ys
  run-append s u [] ys = refl
  run-append s u (x ∷ xs) ys = run-append (act s u x) x xs ys

  pub walked-round : (s : State) (ring : List ℕ) (rising : Bool) (t k : ℕ)
      → walked act s (corners_from ring rising t k) ≡ run act s (get_or ring t 0) (vertices_beyond ring rising t k)
  walked-round s ring rising t k = ap (walked act s) (corners_beyond ring rising t k)

  -- round a face one step more
  pub run-more : (s : State) (ring : List ℕ) (rising : Bool) (t k : ℕ)
      → run act s (get_or ring t 0) (vertices_beyond ring rising t (suc k))
      ≡ act (run act s (get_or ring t 0) (vertices_beyond ring rising t k)) (get_or ring (corner_after rising (length ring) t k) 0)
      (get_or ring (corner_after rising (length ring) t (suc k)) 0)
  run-more s ring rising t zero = refl
  run-more s ring rising t (suc k) =
      let next : ℕ = next_corner rising (length ring) t in
      run-more (act s (get_or ring t 0) (get_or ring next 0)) ring rising next k
