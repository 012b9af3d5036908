-- A way along the walks of spokes in front.
use Rattle.move_lifting.proofs.Common.{along_or_back, walks_loop, ◌≡◌, ℕ, ◌+◌, ◌<◌, Bool, true, not, List, [], ◌∷◌, ◌++◌, length, take, get_or, refl, ap, sym, ◌∙◌, subst, arith, append_assoc, length-append, append-nil, take_more, FaceList, AreFreelyEqual}
use Rattle.move_lifting.proofs.SpurLemmas.{freely_further}

-- whether the next one is gone along after so many
abbrev pub turned_by : Bool → List ℕ → Bool
turned_by along [] = along
turned_by along (i ∷ path) = turned_by (not along) path

turned-push : (along : Bool) (path : List ℕ) (i : ℕ) → turned_by along (path ++ i ∷ []) ≡ not (turned_by along path)
turned-push along [] i = refl
turned-push along (j ∷ path) i = turned-push (not along) path i

walks-push : (walks : List (List ℕ)) (along : Bool) (path : List ℕ) (i : ℕ)
    → walks_loop walks along (path ++ i ∷ []) ≡ walks_loop walks along path ++ along_or_back (turned_by along path) (get_or walks i [])
walks-push walks along [] i = append-nil (along_or_back along (get_or walks i []))
walks-push walks along (j ∷ path) i =
    ap (λ (l : List ℕ). along_or_back along (get_or walks j []) ++ l) (walks-push walks (not along) path i)
    ∙ sym (append_assoc (along_or_back along (get_or walks j [])) (walks_loop walks (not along) path)
    (along_or_back (turned_by (not along) path) (get_or walks i [])))

-- one spoke more
pub turned_more : (front : List ℕ) (k d : ℕ) (along : Bool) → k < length front → along ≡ turned_by true (take k front)
    → not along ≡ turned_by true (take (k + 1) front)
turned_more front k d along l is =
    ap not is ∙ sym (ap (turned_by true) (take_more front k d l) ∙ turned-push true (take k front) (get_or front k d))

pub walked_more : (mesh : FaceList) (walks : List (List ℕ)) (front begun old new spoke : List ℕ) (k d : ℕ) (along : Bool) → 0 < length begun
    → k < length front
    → along ≡ turned_by true (take k front) → spoke ≡ get_or walks (get_or front k d) []
    → AreFreelyEqual mesh (begun ++ walks_loop walks true (take k front)) old → AreFreelyEqual mesh (old ++ along_or_back along spoke) new
    → AreFreelyEqual mesh (begun ++ walks_loop walks true (take (k + 1) front)) new
walked_more mesh walks front begun old new spoke k d along some l way is so_far one =
    let piece : List ℕ = along_or_back along spoke in
    let laid : List ℕ = walks_loop walks true (take k front) in
    let more : walks_loop walks true (take (k + 1) front) ≡ laid ++ piece =
    ap (walks_loop walks true) (take_more front k d l) ∙ walks-push walks true (take k front) (get_or front k d)
    ∙ ap (λ (b : Bool). laid ++ along_or_back b (get_or walks (get_or front k d) [])) (sym way)
    ∙ ap (λ (w : List ℕ). laid ++ along_or_back along w) (sym is) in
    let whole : begun ++ walks_loop walks true (take (k + 1) front) ≡ begun ++ laid ++ piece =
    ap (λ (x : List ℕ). begun ++ x) more ∙ sym (append_assoc begun laid piece) in
    subst (λ (w : List ℕ). AreFreelyEqual mesh w new) (sym whole)
    (freely_further mesh (begun ++ laid) old new piece (omega (arith, length-append begun laid)) so_far one)
