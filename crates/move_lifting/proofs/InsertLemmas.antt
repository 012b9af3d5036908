-- A spur put in at the end of what is laid of a walk, and a list of moves done further on in a walk.
use Rattle.move_lifting.proofs.Common.{spur_comes, one_more, greatest_raised, greatest_both, last_entry, LeadsAtPeak, last_of, ◌≡◌, ℕ, ◌+◌, ◌-◌, ◌<◌, max, true, List, [], ◌∷◌, ◌++◌, length, take, refl, ap, sym, ◌∙◌, subst, arith, append_assoc, length-append, append-nil, Some, one_after_another, list_in_context, FaceList, is_edge, PeakedMoves, apply_all, greatest_darts, all_raised, darts, Move, Insert, VertexName}

-- a spur comes in at the last entry of what is laid
pub spur_in_last : (mesh : FaceList) (first laid rest : List ℕ) (via : VertexName) (list more : PeakedMoves) → 0 < length laid
    → is_edge mesh (last_of laid) via.0 ≡ true
    → more ≡ record { moves = list.moves ++ Insert (length laid - 1) via ∷ []; peak = max list.peak (length laid + 1 + length rest) }
    → LeadsAtPeak mesh first list (laid ++ rest) → LeadsAtPeak mesh first more (laid ++ via.0 ∷ [] ++ (last_of laid ∷ rest))
spur_in_last mesh first laid rest via list more some edge noted h =
    let u : ℕ = last_of laid in
    let front : List ℕ = take (length laid - 1) laid in
    let laid_is : laid ≡ front ++ u ∷ [] = last_entry laid some in
    let long : length laid ≡ length front + 1 = ap (λ (l : List ℕ). length l) laid_is ∙ length-append front (u ∷ []) in
    let from : laid ++ rest ≡ front ++ u ∷ rest = ap (λ (l : List ℕ). l ++ rest) laid_is ∙ append_assoc front (u ∷ []) rest in
    let end : List ℕ = front ++ u ∷ via.0 ∷ u ∷ rest in
    let to : end ≡ laid ++ via.0 ∷ [] ++ (u ∷ rest) = regroup front rest u via.0 ∙ ap (λ (l : List ℕ). l ++ via.0 ∷ [] ++ (u ∷ rest))
    (sym laid_is) in
    let at : length laid - 1 ≡ length front = omega arith in
    let count : length laid + 1 + length rest ≡ darts end = omega (arith, length-append front (u ∷ via.0 ∷ u ∷ rest)) in
    let noted_there : more ≡ record { moves = list.moves ++ Insert (length front) via ∷ []; peak = max list.peak (darts end) } =
    subst (λ (n : ℕ). more ≡ record { moves = list.moves ++ Insert n via ∷ []; peak = max list.peak (darts end) }) at
    (subst (λ (n : ℕ). more ≡ record { moves = list.moves ++ Insert (length laid - 1) via ∷ []; peak = max list.peak n }) count noted) in
    subst (LeadsAtPeak mesh first more) to
    (one_more mesh first (front ++ u ∷ rest) end (Insert (length front) via) list more (subst (LeadsAtPeak mesh first list) from h)
    (spur_comes mesh front rest u via edge) noted_there)
  where
    regroup : (front rest : List ℕ) (u v : ℕ) → front ++ u ∷ v ∷ u ∷ rest ≡ front ++ u ∷ [] ++ v ∷ [] ++ (u ∷ rest)
    regroup front rest u v = simp append_assoc

-- A list of moves done further on: the peak counts what stands in front and behind, if there is a move at all.
pub leads_further_on : (mesh : FaceList) (first before walk after next : List ℕ) (turn list more : PeakedMoves)
    → LeadsAtPeak mesh walk turn next → 0 < length walk
    → LeadsAtPeak mesh first list (before ++ walk ++ after) → more.moves ≡ list.moves ++ all_raised (length before) turn.moves
    → (length turn.moves ≡ 0 → more.peak ≡ list.peak)
    → (0 < length turn.moves → more.peak ≡ max list.peak (length before + length after + turn.peak))
    → LeadsAtPeak mesh first more (before ++ next ++ after)
leads_further_on mesh first before walk after next turn list more t some h moves none peak = record {
  leads = subst (λ (l : List Move). apply_all mesh first l ≡ Some (before ++ next ++ after)) (sym moves)
      (one_after_another mesh list.moves (all_raised (length before) turn.moves) first (before ++ walk ++ after) (before ++ next ++ after)
      h.leads
      (list_in_context mesh turn.moves walk next before after some t.leads));
  peak = subst (λ (l : List Move). more.peak ≡ greatest_darts mesh first l) (sym moves) (by turn.moves refl);
}
  where
    by : (l : List Move) → l ≡ turn.moves → more.peak ≡ greatest_darts mesh first (list.moves ++ all_raised (length before) turn.moves)
    by [] is =
        let nothing : length turn.moves ≡ 0 = ap (λ (x : List Move). length x) (sym is) in
        let whole : list.moves ++ all_raised (length before) turn.moves ≡ list.moves =
        ap (λ (x : List Move). list.moves ++ all_raised (length before) x) (sym is) ∙ append-nil list.moves in
        none nothing ∙ h.peak ∙ ap (greatest_darts mesh first) (sym whole)
    by (one ∷ others) is =
        let count : 0 < length turn.moves = omega (arith, ap (λ (x : List Move). length x) is) in
        let further = greatest_raised mesh turn.moves walk next before after some t.leads in
        let both = greatest_both mesh list.moves (all_raised (length before) turn.moves) first (before ++ walk ++ after) h.leads in
        omega (arith, peak count, h.peak, t.peak, further, both)
