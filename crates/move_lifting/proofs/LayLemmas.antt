-- Walks laid without spurs, up to spurs.
use Rattle.move_lifting.proofs.Common.{free_equality, ◌≡◌, ℕ, ◌+◌, ◌-◌, ◌<◌, List, [], ◌∷◌, ◌++◌, length, take, drop, get_or, ap, sym, ◌∙◌, subst, arith, append_assoc, length-append, common_steps, map-append, take_more, FaceList, AreFreelyEqual, HasNoSpur, numbers, VertexName}
use Rattle.move_lifting.proofs.ExpandLemmas.{length-numbers, one_pending}
use Rattle.move_lifting.proofs.ListLemmas.{no_spur_front}
use Rattle.move_lifting.proofs.SpurLemmas.{put_freely, freely_further}

-- what is laid so far, with one vertex more
pub laid_more : (mesh : FaceList) (begun old new vertices : List VertexName) (k : ℕ) (d : VertexName) → 0 < length begun
    → k < length vertices
    → AreFreelyEqual mesh (numbers begun ++ numbers (take k vertices)) (numbers old)
    → AreFreelyEqual mesh (numbers old ++ (get_or vertices k d).0 ∷ []) (numbers new)
    → AreFreelyEqual mesh (numbers begun ++ numbers (take (k + 1) vertices)) (numbers new)
laid_more mesh begun old new vertices k d some l so_far one =
    let v : VertexName = get_or vertices k d in
    let more : numbers (take (k + 1) vertices) ≡ numbers (take k vertices) ++ v.0 ∷ [] =
    ap numbers (take_more vertices k d l) ∙ map-append (λ (x : VertexName). x.0) (take k vertices) (v ∷ []) in
    let whole : numbers begun ++ numbers (take (k + 1) vertices) ≡ numbers begun ++ numbers (take k vertices) ++ v.0 ∷ [] =
    ap (λ (l : List ℕ). numbers begun ++ l) more ∙ sym (append_assoc (numbers begun) (numbers (take k vertices)) (v.0 ∷ [])) in
    let begun_some : 0 < length (numbers begun ++ numbers (take k vertices)) =
    omega (arith, length-append (numbers begun) (numbers (take k vertices)), length-numbers begun) in
    subst (λ (w : List ℕ). AreFreelyEqual mesh w (numbers new)) (sym whole)
    (freely_further mesh (numbers begun ++ numbers (take k vertices)) (numbers old) (numbers new) (v.0 ∷ []) begun_some so_far one)

pub laid_none : (mesh : FaceList) (begun : List VertexName) (vertices : List VertexName)
    → AreFreelyEqual mesh (numbers begun ++ numbers (take 0 vertices)) (numbers begun)
laid_none mesh begun vertices = grind (arith, common_steps, free_equality)

-- the last vertex taken off
pub popped_off : (old new : List VertexName) (n : ℕ) (d : VertexName) → 0 < length old → n ≡ length old → new ≡ take (n - 1) old
    → old ≡ new ++ get_or old (n - 1) d ∷ []
popped_off old new n d some count is = grind (arith, common_steps)

-- one vertex goes where the walk leads straight back
pub goes_out : (mesh : FaceList) (old new : List VertexName) (next via : VertexName) → 1 < length old
    → get_or (numbers old) (length old - 2) 0 ≡ next.0
    → old ≡ new ++ via ∷ [] → AreFreelyEqual mesh (numbers old ++ next.0 ∷ []) (numbers new)
goes_out mesh old new next via long came popped = grind (arith, common_steps, one_pending, length-numbers, put_freely)

pub goes_out_clean : (old new : List VertexName) (via : VertexName) → old ≡ new ++ via ∷ [] → HasNoSpur (numbers old)
    → HasNoSpur (numbers new)
goes_out_clean old new via popped h = no_spur_front (numbers new) (via.0 ∷ []) (subst HasNoSpur (one_pending old new via popped) h)

-- two parts laid on a walk
pub laid_two : (mesh : FaceList) (start first second one two : List ℕ) → 0 < length start → AreFreelyEqual mesh (start ++ one) first
    → AreFreelyEqual mesh (first ++ two) second → AreFreelyEqual mesh (start ++ (one ++ two)) second
laid_two mesh start first second one two some a b =
    subst (λ (l : List ℕ). AreFreelyEqual mesh l second) (append_assoc start one two)
    (freely_further mesh (start ++ one) first second two (omega (arith, some, length-append start one)) a b)

-- two ways laid on a walk, with a vertex between
pub laid_round : (mesh : FaceList) (start first second third there down out back : List ℕ) (head : ℕ) → 0 < length start
    → AreFreelyEqual mesh (start ++ (there ++ down)) first → AreFreelyEqual mesh (first ++ head ∷ []) second
    → AreFreelyEqual mesh (second ++ (out ++ back)) third → AreFreelyEqual mesh (start ++ (there ++ ((down ++ head ∷ out) ++ back))) third
laid_round mesh start first second third there down out back head some a b c =
    let shape : start ++ (((there ++ down) ++ head ∷ []) ++ (out ++ back)) ≡ start ++ (there ++ ((down ++ head ∷ out) ++ back)) =
    simp append_assoc in
    subst (λ (l : List ℕ). AreFreelyEqual mesh l third) shape
    (laid_two mesh start second third (there ++ down ++ head ∷ []) (out ++ back) some
    (laid_two mesh start first second (there ++ down) (head ∷ []) some a b) c)

-- the names behind the first one
pub behind_first : (names part : List VertexName) → part ≡ take (length names - 1) (drop 1 names) → numbers part ≡ drop 1 (numbers names)
behind_first names part is = grind (arith, common_steps)
