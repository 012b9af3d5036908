-- The second walk comes behind the first, backward and forward.
use Rattle.move_lifting.proofs.Common.{LeadsAtPeak, last_of, ◌≡◌, ℕ, ◌+◌, ◌-◌, ◌<◌, max, true, List, [], ◌∷◌, ◌++◌, length, drop, get_or, ap, sym, ◌∙◌, subst, arith, drop_more, length-drop, edge_swap, FaceList, is_edge, PeakedMoves, IsWalk, Insert, VertexName}
use Rattle.move_lifting.proofs.InsertLemmas.{spur_in_last}

-- one dart back along a walk, from the place after `place`
pub goes_on_back : (mesh : FaceList) (first out second : List ℕ) (place : ℕ) (via : VertexName) (list more : PeakedMoves)
    → IsWalk mesh second
    → place + 1 < length second → 0 < length out → last_of out ≡ get_or second (place + 1) 0 → via.0 ≡ get_or second place 0
    → more ≡ record {
      moves = list.moves ++ Insert (length out - 1) via ∷ [];
      peak = max list.peak (length out + (length second - place - 1));
    }
    → LeadsAtPeak mesh first list (out ++ drop (place + 2) second)
    → LeadsAtPeak mesh first more (out ++ via.0 ∷ [] ++ drop (place + 1) second)
goes_on_back mesh first out second place via list more w within some ends read noted h =
    let u : ℕ = get_or second (place + 1) 0 in
    let rest : List ℕ = drop (place + 2) second in
    let two : place + 1 + 1 ≡ place + 2 = omega arith in
    let next : last_of out ∷ rest ≡ drop (place + 1) second =
    ap (λ (x : ℕ). x ∷ rest) ends ∙ sym (drop_more second (place + 1) 0 within ∙ ap (λ (n : ℕ). u ∷ drop n second) two) in
    let edge : is_edge mesh (last_of out) via.0 ≡ true =
    ap (λ (x : ℕ). is_edge mesh x via.0) ends ∙ edge_swap mesh u via.0 ∙ ap (λ (x : ℕ). is_edge mesh x u) read
    ∙ w.edges place (omega arith) in
    let count : length out + (length second - place - 1) ≡ length out + 1 + length rest = omega (arith, length-drop (place + 2) second) in
    subst (λ (l : List ℕ). LeadsAtPeak mesh first more (out ++ via.0 ∷ [] ++ l)) next
    (spur_in_last mesh first out rest via list more some edge
    (subst (λ (n : ℕ). more ≡ record { moves = list.moves ++ Insert (length out - 1) via ∷ []; peak = max list.peak n }) count noted) h)
