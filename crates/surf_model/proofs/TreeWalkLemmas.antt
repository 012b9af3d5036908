-- Walks along a tree: each is the same, up to spurs, as the way up from its start and down to its end.
use Rattle.surf_model.proofs.Common.{◌≡◌, ◌⊎◌, inl, inr, ℕ, zero, suc, ◌+◌, ◌<◌, ◌≤◌, List, [], ◌∷◌, ◌++◌, length, get_or, refl, ap, sym, ◌∙◌, subst, arith, append_assoc, Option, Some, None, HasNoSpur, IsAlongTree, RankFalls, HaveCommonEnds, darts}
use Rattle.surf_model.proofs.StackLemmas.{AreSame, same_after, same_before, spur_same, same_equal}

-- from v the list leads up, parent after parent, to a root
abbrev IsWayUp : (ℕ → Option ℕ) → ℕ → List ℕ → Type 0
IsWayUp parent v [] = parent v ≡ None
IsWayUp parent v (above ∷ rest) = (parent v ≡ Some above) × IsWayUp parent above rest

known : (o : Option ℕ) → (o ≡ None) ⊎ ((x : ℕ) × (o ≡ Some x))
known None = inl refl
known (Some x) = inr (x, refl)

some_way_up : (parent : ℕ → Option ℕ) (rank : ℕ → ℕ) → RankFalls parent rank → (n v : ℕ) → rank v ≤ n
    → (rest : List ℕ) × IsWayUp parent v rest
some_way_up parent rank falls zero v h = elim (known (parent v)) [
  | inl none ↦ ([], none)
  | inr more ↦ absurd (let less : rank more.0 < rank v = falls v more.0 more.1 in omega arith)
]
some_way_up parent rank falls (suc n) v h = elim (known (parent v)) [
  | inl none ↦ ([], none)
  | inr more ↦
      let less : rank more.0 < rank v = falls v more.0 more.1 in
      let way = some_way_up parent rank falls n more.0 (omega arith) in
      (more.0 ∷ way.0, (more.1, way.1))
]

one_way_up : (parent : ℕ → Option ℕ) (v : ℕ) (rest others : List ℕ) → IsWayUp parent v rest → IsWayUp parent v others → rest ≡ others
one_way_up parent v [] [] h k = refl
one_way_up parent v [] (x ∷ others) h k = absurd (let e : None ≡ Some x = sym h ∙ k.0 in cc)
one_way_up parent v (x ∷ rest) [] h k = absurd (let e : None ≡ Some x = sym k ∙ h.0 in cc)
one_way_up parent v (x ∷ rest) (y ∷ others) h k =
    let e : x ≡ y = cc in
    let more : rest ≡ others = one_way_up parent x rest others h.1 (subst (λ (z : ℕ). IsWayUp parent z others) (sym e) k.1) in grind arith

-- the way down to v that is the way up turned round, without the root
abbrev down_to : ℕ → List ℕ → List ℕ
down_to v [] = []
down_to v (above ∷ rest) = down_to above rest ++ v ∷ []

abbrev up_and_down : ℕ → List ℕ → ℕ → List ℕ → List ℕ
up_and_down u rest v others = u ∷ (rest ++ down_to v others)

same_step : (xs ys zs : List ℕ) → AreSame xs ys → AreSame ys zs → AreSame xs zs
same_step xs ys zs h k stack n = h stack n ∙ k stack n

same_back : (xs ys : List ℕ) → AreSame xs ys → AreSame ys xs
same_back xs ys h stack n = sym (h stack n)

-- up and straight down again
home : (v : ℕ) (rest : List ℕ) → AreSame (up_and_down v rest v rest) (v ∷ [])
home v [] = λ stack n. refl
home v (above ∷ rest) =
    let middle : AreSame (up_and_down above rest above rest) (above ∷ []) = home above rest in
    let whole : AreSame (up_and_down above rest above rest ++ v ∷ []) (above ∷ v ∷ []) =
    same_before (up_and_down above rest above rest) (above ∷ []) (v ∷ []) middle in
    let from : AreSame (v ∷ (up_and_down above rest above rest ++ v ∷ [])) (v ∷ above ∷ v ∷ []) =
    same_after (v ∷ []) (up_and_down above rest above rest ++ v ∷ []) (above ∷ v ∷ []) whole in
    let shape : up_and_down v (above ∷ rest) v (above ∷ rest) ≡ v ∷ (up_and_down above rest above rest ++ v ∷ []) =
    ap (λ (l : List ℕ). v ∷ above ∷ l) (sym (append_assoc rest (down_to above rest) (v ∷ []))) in
    subst (λ (l : List ℕ). AreSame l (v ∷ [])) (sym shape)
    (same_step (v ∷ (up_and_down above rest above rest ++ v ∷ [])) (v ∷ above ∷ v ∷ []) (v ∷ []) from (spur_same v above []))

-- the last vertex of a walk
abbrev last_of : ℕ → List ℕ → ℕ
last_of u [] = u
last_of u (v ∷ walk) = last_of v walk

along_rest : (parent : ℕ → Option ℕ) (u v : ℕ) (walk : List ℕ) → IsAlongTree parent (u ∷ v ∷ walk) → IsAlongTree parent (v ∷ walk)
along_rest parent u v walk h k l =
    let up : suc k + 1 ≡ suc (k + 1) = omega arith in
    subst (λ (n : ℕ). (parent (get_or (u ∷ v ∷ walk) (suc k) 0) ≡ Some (get_or (u ∷ v ∷ walk) n 0))
    ⊎ (parent (get_or (u ∷ v ∷ walk) n 0) ≡ Some (get_or (u ∷ v ∷ walk) (suc k) 0)))
    up (h (suc k) (omega arith))

tree_walk : (parent : ℕ → Option ℕ) (rank : ℕ → ℕ) → RankFalls parent rank → (walk : List ℕ) (u : ℕ) (rest others : List ℕ)
    → IsAlongTree parent (u ∷ walk)
    → IsWayUp parent u rest → IsWayUp parent (last_of u walk) others → AreSame (u ∷ walk) (up_and_down u rest (last_of u walk) others)
tree_walk parent rank falls [] u rest others along h k = grind (arith, one_way_up, same_back, home)
tree_walk parent rank falls (v ∷ walk) u rest others along h k =
    let way = some_way_up parent rank falls (rank v) v (omega arith) in
    let end : ℕ = last_of v walk in
    let more : AreSame (v ∷ walk) (up_and_down v way.0 end others) =
    tree_walk parent rank falls walk v way.0 others (along_rest parent u v walk along) way.1 k in
    let behind : AreSame (u ∷ v ∷ walk) (u ∷ up_and_down v way.0 end others) =
    same_after (u ∷ []) (v ∷ walk) (up_and_down v way.0 end others) more in
    elim (along 0 (omega arith)) [
      | inl up ↦
          let e : rest ≡ v ∷ way.0 = one_way_up parent u rest (v ∷ way.0) h (up, way.1) in
          subst (λ (l : List ℕ). AreSame (u ∷ v ∷ walk) (up_and_down u l end others)) (sym e) behind
      | inr down ↦
          let e : way.0 ≡ u ∷ rest = one_way_up parent v way.0 (u ∷ rest) way.1 (down, h) in
          let there : AreSame (u ∷ v ∷ walk) (u ∷ v ∷ u ∷ (rest ++ down_to end others)) =
          subst (λ (l : List ℕ). AreSame (u ∷ v ∷ walk) (u ∷ up_and_down v l end others)) e behind in
          same_step (u ∷ v ∷ walk) (u ∷ v ∷ u ∷ (rest ++ down_to end others)) (up_and_down u rest end others) there
          (spur_same u v (rest ++ down_to end others))
    ]

last_read : (u : ℕ) (walk : List ℕ) → get_or (u ∷ walk) (darts (u ∷ walk)) 0 ≡ last_of u walk
last_read u [] = refl
last_read u (v ∷ walk) =
    let place : darts (u ∷ v ∷ walk) ≡ suc (darts (v ∷ walk)) = omega arith in
    ap (λ (n : ℕ). get_or (u ∷ v ∷ walk) n 0) place ∙ last_read v walk

-- walks without spurs along one tree with common ends are equal
pub one_tree_walk : (parent : ℕ → Option ℕ) (rank : ℕ → ℕ) → RankFalls parent rank → (first second : List ℕ) → 0 < length first
    → 0 < length second
    → IsAlongTree parent first → IsAlongTree parent second → HasNoSpur first → HasNoSpur second → HaveCommonEnds first second
    → first ≡ second
one_tree_walk parent rank falls [] second h k a b c d e = absurd (omega arith)
one_tree_walk parent rank falls (u ∷ walk) [] h k a b c d e = absurd (omega arith)
one_tree_walk parent rank falls (u ∷ walk) (v ∷ other) h k a b c d e =
    let one = some_way_up parent rank falls (rank u) u (omega arith) in
    let end : ℕ = last_of u walk in
    let two = some_way_up parent rank falls (rank end) end (omega arith) in
    let start : u ≡ v = e.starts in
    let close : end ≡ last_of v other = sym (last_read u walk) ∙ e.ends ∙ last_read v other in
    let first_way : AreSame (u ∷ walk) (up_and_down u one.0 end two.0) = tree_walk parent rank falls walk u one.0 two.0 a one.1 two.1 in
    let second_way : AreSame (v ∷ other) (up_and_down v one.0 (last_of v other) two.0) =
    tree_walk parent rank falls other v one.0 two.0 b (subst (λ (x : ℕ). IsWayUp parent x one.0) start one.1)
    (subst (λ (x : ℕ). IsWayUp parent x two.0) close two.1) in
    let shape : up_and_down v one.0 (last_of v other) two.0 ≡ up_and_down u one.0 end two.0 = grind arith in
    same_equal (u ∷ walk) (v ∷ other) c d
    (same_step (u ∷ walk) (up_and_down u one.0 end two.0) (v ∷ other) first_way
    (same_back (v ∷ other) (up_and_down u one.0 end two.0) (subst (λ (l : List ℕ). AreSame (v ∷ other) l) shape second_way)))
