-- The tree that a search makes: a node's dart leads back to a node found before, so following the darts ends at the root.
use Rattle.tree_cotree.proofs.Common.{joined_trans, joined_sym, Rotations, IsRotationSystem, ◌≡◌, ◌≢◌, ◌⊎◌, inl, inr, ℕ, zero, suc, ◌+◌, ◌<◌, Bool, true, false, cond, List, [], ◌∷◌, length, get_or, refl, ap, sym, ◌∙◌, subst, arith, set, cases_Bool, cases_eq, both_ways, get_or-set_same, get_or-set_other, length-set, Option, Some, None, is_some, count_below, IsPath, AreJoined, HangTogether, AreDartsApart, AreMarked, IsMarked, same_kind, has_kind, kept_at, IsFound, IsNamed, LeadsBack, IsOrder, IsSearched, IsStepIn, StepsIn, LeadsUp, IsRooted, Kind, Tree, Cotree, Left}
use Rattle.tree_cotree.proofs.SetLemmas.{with_one, with_itself, with_other, with_cases, with_keeps, count_with}
use Rattle.tree_cotree.proofs.ClassLemmas.{count_same}
use Rattle.tree_cotree.proofs.AfterLemmas.{twin_edge}
use Rattle.tree_cotree.proofs.GrowthLemmas.{HasNodes}
use Rattle.tree_cotree.proofs.SearchLemmas.{option_cases, not_both, same_some}
use Rattle.tree_cotree.proofs.UpwardLemmas.{IsUpward, no_return, joined_by}

pub crossed_from : {maps : Rotations} {node : ℕ → ℕ} {allowed : ℕ → Bool} {bound root : ℕ} {from : List (Option ℕ)}
    (s : IsSearched maps node allowed bound root from)
    → (d : ℕ) → d < maps.darts → allowed (maps.edge d) ≡ true → IsFound node s.order (node d) → IsFound node s.order (node (maps.twin d))
crossed_from s d l passes found = s.closed found.place found.within d l (sym found.is) passes

-- along allowed edges all nodes are found that hang together so
path_found : {maps : Rotations} {node : ℕ → ℕ} {allowed : ℕ → Bool} {bound root : ℕ} {from : List (Option ℕ)}
    (s : IsSearched maps node allowed bound root from)
    → {u : ℕ} (v : ℕ) (path : List ℕ) → IsPath (StepsIn maps node allowed) u path v → IsFound node s.order u → IsFound node s.order v
path_found {node} s v [] p found = subst (IsFound node s.order) p found
path_found {maps} {node} {allowed} s {u} v (w ∷ path) p found =
    let d : ℕ = p.0.0 in
    let step : IsStepIn maps node allowed u w d = p.0.1 in
    path_found s v path p.1 (subst (IsFound node s.order) step.ends
    (crossed_from s d step.within step.in_set (subst (IsFound node s.order) (sym step.starts) found)))

-- from each node found the darts lead back to the root
found_to_root : {maps : Rotations} {node : ℕ → ℕ} {allowed : ℕ → Bool} {bound root : ℕ} {order : List ℕ} {from : List (Option ℕ)}
    → IsOrder maps node allowed bound root order from
    → (fuel j : ℕ) → j < fuel → j < length order → AreJoined (LeadsUp maps node from) (node (get_or order j 0)) root
found_to_root h zero j b l = absurd (omega arith)
found_to_root {maps} {node} {root} {order} {from} h (suc fuel) j b l =
    elim (cases_eq j 0) [
      | inl first ↦ ([], ap (λ k. node (get_or order k 0)) first ∙ h.first)
      | inr not_first ↦
          (let later : 0 < j = omega (arith, not_first) in
          let d : LeadsBack maps node order j = h.back j later l in
          let rest : AreJoined (LeadsUp maps node from) (node (get_or order d.place 0)) root =
          found_to_root h fuel d.place (omega (arith, d.before, b)) (omega (arith, d.before, l)) in
          (node (get_or order d.place 0) ∷ rest.0, ((get_or order j 0, h.named j later l, d.is), rest.1)))
    ]

-- a search across edges by which all nodes hang together makes a tree over them
pub search_rooted : {maps : Rotations} {node : ℕ → ℕ} {allowed : ℕ → Bool} {bound : ℕ} (start : ℕ) {from : List (Option ℕ)}
    → start < maps.darts → HangTogether maps node allowed → IsSearched maps node allowed bound (node start) from
    → IsRooted maps node allowed bound (node start) from
search_rooted {maps} {node} {allowed} {bound} start {from} l together s =
    let h : IsOrder maps node allowed bound (node start) s.order from = s.is_order in
    record {
      long = h.long;
      at_root = (start, l, refl);
      none = elim (option_cases (kept_at from (node start))) [
        | inl none ↦ none
        | inr some ↦
            (let name : IsNamed node s.order (node start) some.0 = h.only (node start) some.0 some.1 in
            absurd (h.fresh 0 name.place name.later name.within (h.first ∙ sym name.of_node ∙ ap node (sym name.is))))
      ];
      within = λ v x e. let name : IsNamed node s.order v x = h.only v x e in
          subst (λ d. d < maps.darts) name.is (h.within name.place name.within);
      of_node = λ v x e. (h.only v x e).of_node;
      inside = λ v x e. let name : IsNamed node s.order v x = h.only v x e in
          ap (λ d. allowed (maps.edge d)) (sym name.is) ∙ h.inside name.place name.later name.within;
      to_root = λ d k.
          let way = together start d l k in
          let found : IsFound node s.order (node d) = path_found s (node d) way.0 way.1
          (record { place = 0; within = h.some; is = h.first }) in
          subst (λ v. AreJoined (LeadsUp maps node from) v (node start)) found.is
          (found_to_root h (suc found.place) found.place (omega arith) found.within);
    }

-- one step at most leads up from a node, and none from the root
pub upward : {maps : Rotations} {node : ℕ → ℕ} {allowed : ℕ → Bool} {bound root : ℕ} {from : List (Option ℕ)}
    → IsRooted maps node allowed bound root from → IsUpward (LeadsUp maps node from) root
upward {maps} {node} {root} {from} h = grind (arith, same_some, not_both)

-- the nodes for which a dart is kept are all but the root
pub kept_nodes : {maps : Rotations} {node : ℕ → ℕ} {allowed : ℕ → Bool} {bound root edges : ℕ} {is_node : ℕ → Bool}
    {from : List (Option ℕ)}
    → HasNodes maps node is_node bound edges → (f : IsRooted maps node allowed bound root from) → (v : ℕ) → v < bound
    → is_node v ≡ with_one (λ w. is_some (kept_at from w)) root v
kept_nodes {maps} {node} {root} {is_node} {from} n f v l =
    elim (cases_Bool (is_node v)) [
      | inl yes_node ↦ yes_node ∙ sym (here (n.has_dart v l yes_node))
      | inr no_node ↦ no_node ∙ sym (elim (cases_Bool (with_one kept root v)) [
        | inl yes_kept ↦ absurd (both_ways (is_node v) no_node (named (with_cases kept root v yes_kept)))
        | inr no_kept ↦ no_kept
      ])
    ]
  where
    kept : ℕ → Bool
    kept w = is_some (kept_at from w)

    from_path : (path : List ℕ) → IsPath (LeadsUp maps node from) v path root → with_one kept root v ≡ true
    from_path [] p = subst (λ w. with_one kept root w ≡ true) (sym p) (with_itself kept root)
    from_path (w ∷ path) p = with_keeps kept root v (ap is_some p.0.1)

    here : (d : ℕ) × (d < maps.darts) × (node d ≡ v) → with_one kept root v ≡ true
    here d =
        let way : AreJoined (LeadsUp maps node from) v root =
        subst (λ w. AreJoined (LeadsUp maps node from) w root) d.2 (f.to_root d.0 d.1) in
        from_path way.0 way.1

    some_of : (o : Option ℕ) → is_some o ≡ true → (x : ℕ) × (o ≡ Some x)
    some_of None e = cc
    some_of (Some x) e = (x, refl)

    named : (v ≡ root) ⊎ (kept v ≡ true) → is_node v ≡ true
    named (inl at_root) = subst (λ w. is_node w ≡ true) (f.at_root.2 ∙ sym at_root) (n.is_of_dart f.at_root.0 f.at_root.1)
    named (inr is_kept) =
        let x = some_of (kept_at from v) is_kept in
        subst (λ w. is_node w ≡ true) (f.of_node v x.0 x.1) (n.is_of_dart x.0 (f.within v x.0 x.1))

-- the kept darts and the set of their edges join any two nodes
pub kept_join : {maps : Rotations} {node : ℕ → ℕ} {allowed : ℕ → Bool} (inside : ℕ → Bool) {bound root : ℕ} {from : List (Option ℕ)}
    → IsRotationSystem maps
    → (f : IsRooted maps node allowed bound root from) → ((v x : ℕ) → kept_at from v ≡ Some x → inside (maps.edge x) ≡ true)
    → HangTogether maps node inside
kept_join {maps} {node} inside {root} {from} r f marked d e l k =
    joined_trans steps (node d) root (node e) (up d l) (joined_sym steps turned (node e) root (up e k))
  where
    steps : ℕ → ℕ → Type 0
    steps = StepsIn maps node inside

    up : (d : ℕ) → d < maps.darts → AreJoined steps (node d) root
    up d l = joined_by (LeadsUp maps node from) steps
        (λ u v p. (p.0, record { within = f.within u p.0 p.1; in_set = marked u p.0 p.1; starts = f.of_node u p.0 p.1; ends = p.2 }))
        (node d) root (f.to_root d l)

    turned : (u v : ℕ) → steps u v → steps v u
    turned u v p = (
      maps.twin p.0,
      record {
        within = r.twin_within p.0 p.1.within;
        in_set = ap inside (sym (twin_edge maps r p.0 p.1.within)) ∙ p.1.in_set;
        starts = p.1.ends;
        ends = ap node (r.twin_back p.0 p.1.within) ∙ p.1.starts;
      },
    )

-- no two kept darts lie on one edge
pub kept_apart : {maps : Rotations} {node : ℕ → ℕ} {allowed : ℕ → Bool} {bound root : ℕ} {from : List (Option ℕ)}
    → IsRotationSystem maps → IsRooted maps node allowed bound root from → AreDartsApart maps from
kept_apart {maps} {node} {root} {from} r h =
    record {
      within = h.within;
      apart = λ v w x y a b ne same. elim ((r.edges x y (h.within v x a) (h.within w y b)).0 same) [
        | inl is ↦ ne (sym (h.of_node v x a) ∙ ap node (sym is) ∙ h.of_node w y b)
        | inr twin ↦
            no_return (upward h) v w (x, a, ap node (sym twin) ∙ h.of_node w y b)
            (y, b, ap (λ d. node (maps.twin d)) twin ∙ ap node (r.twin_back x (h.within v x a)) ∙ h.of_node v x a)
            (subst (λ u. AreJoined (LeadsUp maps node from) u root) (h.of_node v x a) (h.to_root x (h.within v x a)))
      ];
    }

pub marked_none : (maps : Rotations) (from : List (Option ℕ)) (edges : ℕ) (old : ℕ → Bool) → AreMarked maps from edges old old 0
marked_none maps from edges old = grind arith

-- no dart is kept for the next node
pub marked_skip : {maps : Rotations} {from : List (Option ℕ)} {edges n : ℕ} {old new : ℕ → Bool}
    → AreMarked maps from edges old new n → kept_at from n ≡ None
    → AreMarked maps from edges old new (n + 1)
marked_skip {from} {edges} {n} {old} h none = grind (arith, is_some, not_both)

-- the edge of the dart that is kept for the next node is put in
pub marked_more : {maps : Rotations} {from : List (Option ℕ)} {edges n : ℕ} (x : ℕ) {old new : ℕ → Bool} (others : ℕ → Bool)
    → AreMarked maps from edges old new n → kept_at from n ≡ Some x
    → maps.edge x < edges → old (maps.edge x) ≡ false → ((v y : ℕ) → v ≢ n → kept_at from v ≡ Some y → maps.edge y ≢ maps.edge x)
    → ((e : ℕ) → others e ≡ with_one new (maps.edge x) e) → AreMarked maps from edges old others (n + 1)
marked_more {maps} {from} {edges} {n} x {old} {new} others h some l free apart is =
    let e : ℕ = maps.edge x in
    let one_more : count_below (λ w. is_some (kept_at from w)) (n + 1) ≡ count_below (λ w. is_some (kept_at from w)) n + 1 =
    ap (count_below (λ w. is_some (kept_at from w))) (let e : n + 1 ≡ suc n = omega arith in e)
    ∙ ap (λ o. count_below (λ w. is_some (kept_at from w)) n + cond (is_some o) 1 0) some in
    let out : new e ≡ false = grind arith in
    let counted : count_below others edges ≡ count_below new edges + 1 =
    count_same others (with_one new e) edges (λ k b. is k) ∙ count_with new edges e l out
    ∙ (let s : suc (count_below new edges) ≡ count_below new edges + 1 = omega arith in s) in
    record {
      count = omega (arith, counted, h.count, one_more);
      marked = λ v y b k. grind (arith, with_keeps, with_itself);
      kept = λ k before. is k ∙ with_keeps new e k (h.kept k before);
      only = λ k mark. grind (arith, with_cases);
    }

pub same_itself : (kind : Kind) → same_kind kind kind ≡ true
same_itself Tree = refl
same_itself Cotree = refl
same_itself Left = refl

pub marks_skip : {maps : Rotations} {from : List (Option ℕ)} {kind : Kind} {old new : List Kind} {n : ℕ}
    → IsMarked maps from kind old new n → kept_at from n ≡ None
    → IsMarked maps from kind old new (n + 1)
marks_skip h none = grind (arith, marked_skip)

pub marks_more : {maps : Rotations} {from : List (Option ℕ)} {kind : Kind} {old new : List Kind} {n : ℕ} (x : ℕ) → AreDartsApart maps from
    → IsMarked maps from kind old new n
    → kept_at from n ≡ Some x → maps.edge x < length old → has_kind old kind (maps.edge x) ≡ false
    → IsMarked maps from kind old (set new (maps.edge x) kind) (n + 1)
marks_more {maps} {kind} {new} {n} x apart h some l free =
    let i : ℕ = maps.edge x in
    let more : List Kind = set new i kind in
    let here : has_kind more kind i ≡ true = ap (λ k. same_kind k kind) (get_or-set_same new i kind Tree (omega (arith, l, h.long)))
    ∙ same_itself kind in
    let other : (e : ℕ) → e ≢ i → get_or more e Tree ≡ get_or new e Tree = λ e ne. get_or-set_other new i e kind Tree ne in
    record {
      long = length-set new i kind ∙ h.long;
      sets = marked_more x (has_kind more kind) h.sets some l free (λ v y ne e. apart.apart v n y x e some ne) (λ e. elim (cases_eq e i) [
        | inl same ↦ ap (has_kind more kind) same ∙ here
            ∙ sym (ap (with_one (has_kind new kind) i) same ∙ with_itself (has_kind new kind) i)
        | inr ne ↦ ap (λ k. same_kind k kind) (other e ne) ∙ sym (with_other (has_kind new kind) i e ne)
      ]);
      others = λ e out. grind arith;
    }
