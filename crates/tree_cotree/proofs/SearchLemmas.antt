-- What an order of a search needs to grow, and what it is when it grows no more.
use Rattle.tree_cotree.proofs.Common.{next_permutes, face-next, IsPermutationBelow, AreAlike, two_alike, steps_within, reached_keeps, rotation_system, after_steps, IsReached, OrientedMesh, IsOrientedSurface, Rotations, rotations_of, IsRotationSystem, ◌≡◌, ◌≢◌, ◌⊎◌, inl, inr, ℕ, zero, suc, ◌+◌, ◌<◌, ◌≤◌, Bool, true, false, List, [], ◌∷◌, ◌++◌, length, get_or, refl, ap, sym, ◌∙◌, subst, arith, set, cases_eq, cases_lt, common_steps, length_push, get_or_push, get_or_append_left, get_or-set_same, get_or-set_other, length-set, get_or_read, map-append, append-nil, option_map, Option, Some, None, is_some, DartName, dart_numbers, node_of, next_round_node, kept_at, IsFound, IsNamed, LeadsBack, IsOrder, IsNodeCrossed, AreAdded, Nodes, Vertices, Faces}
use Rattle.halfedge_map.proofs.VertexLemmas.{turns_permute, origin-turned}
use Rattle.tree_cotree.proofs.AfterLemmas.{twin_edge}
use Rattle.tree_cotree.proofs.ExchangeLemmas.{reached_soon}

-- reading an order with one more dart
old_at : (order : List ℕ) (x j : ℕ) → j < length order → get_or (order ++ x ∷ []) j 0 ≡ get_or order j 0
old_at order x j l = get_or_append_left order (x ∷ []) 0 j l

new_at : (order : List ℕ) (x j : ℕ) → j ≡ length order → get_or (order ++ x ∷ []) j 0 ≡ x
new_at order x j e = get_or_push order x 0 j (sym e)

-- what is kept for a node, after another dart is kept
pub kept_same : (from : List (Option ℕ)) (v x : ℕ) → v < length from → kept_at (set from v (Some x)) v ≡ Some x
kept_same from v x l = get_or-set_same from v (Some x) None l

pub kept_other : (from : List (Option ℕ)) (v w x : ℕ) → w ≢ v → kept_at (set from v (Some x)) w ≡ kept_at from w
kept_other from v w x ne = get_or-set_other from v w (Some x) None ne

-- a dart with a new node across an allowed edge
pub record IsNewDart (maps : Rotations) (node : ℕ → ℕ) (allowed : ℕ → Bool) (bound root : ℕ) (order : List ℕ)
    (from : List (Option ℕ)) (d : ℕ) : Type 0 where
  pub dart : d < maps.darts
  pub from_found : IsFound node order (node d)
  pub crosses : allowed (maps.edge d) ≡ true
  pub below : node (maps.twin d) < bound
  pub not_root : node (maps.twin d) ≢ root
  pub none_kept : kept_at from (node (maps.twin d)) ≡ None

-- what is kept for a number
pub option_cases : (o : Option ℕ) → (o ≡ None) ⊎ ((x : ℕ) × (o ≡ Some x))
option_cases None = inl refl
option_cases (Some x) = inr (x, refl)

pub not_both : (o : Option ℕ) (x : ℕ) → o ≡ Some x → o ≡ None → ⊥
not_both o x e k = cc

pub same_some : (o : Option ℕ) (x y : ℕ) → o ≡ Some x → o ≡ Some y → x ≡ y
same_some o x y e k = cc

pub order_more : {maps : Rotations} {node : ℕ → ℕ} {allowed : ℕ → Bool} {bound root : ℕ} {order : List ℕ}
    {from : List (Option ℕ)} {d : ℕ} (x : ℕ)
    → IsRotationSystem maps → IsOrder maps node allowed bound root order from → IsNewDart maps node allowed bound root order from d
    → x ≡ maps.twin d
    → IsOrder maps node allowed bound root (order ++ x ∷ []) (set from (node (maps.twin d)) (Some x))
order_more {maps} {node} {allowed} {order} {from} {d} x r h new is =
    let v : ℕ = node (maps.twin d) in
    let n : ℕ = length order in
    let more : List ℕ = order ++ x ∷ [] in
    let kept : List (Option ℕ) = set from v (Some x) in
    let long : length more ≡ n + 1 = length_push order x in
    let v_in : v < length from = omega (arith, new.below, h.long) in
    let x_node : node x ≡ v = ap node is in
    let old : (j : ℕ) → j < n → get_or more j 0 ≡ get_or order j 0 = old_at order x in
    let last : (j : ℕ) → j ≡ n → get_or more j 0 ≡ x = new_at order x in
    let unlike : (i : ℕ) → i < n → node (get_or order i 0) ≢ v =
    λ i l e. elim (cases_eq i 0) [
      | inl at_root ↦ new.not_root (sym e ∙ ap (λ k. node (get_or order k 0)) at_root ∙ h.first)
      | inr later ↦ not_both (kept_at from v) (get_or order i 0) (ap (kept_at from) (sym e) ∙ h.named i (omega (arith, later)) l)
          new.none_kept
    ] in
    record {
      long = length-set from v (Some x) ∙ h.long;
      some = omega (arith, long);
      first = ap node (old 0 h.some) ∙ h.first;
      within = λ j l. elim (cases_lt j n) [
        | inl less ↦ subst (λ y. y < maps.darts) (sym (old j less)) (h.within j less)
        | inr at_end ↦ subst (λ y. y < maps.darts) (sym (last j (omega (arith, l, long, at_end)) ∙ is)) (r.twin_within d new.dart)
      ];
      fresh = λ i j less l e. elim (cases_lt j n) [
        | inl before ↦ h.fresh i j less before (ap node (sym (old i (omega arith))) ∙ e ∙ ap node (old j before))
        | inr at_end ↦ unlike i (omega (arith, less, l, long)) (ap node (sym (old i (omega (arith, less, l, long)))) ∙ e
            ∙ ap node (last j (omega (arith, l, long, at_end))) ∙ x_node)
      ];
      back = λ j later l. elim (cases_lt j n) [
        | inl less ↦
            (let b : LeadsBack maps node order j = h.back j later less in
            record {
              place = b.place;
              before = b.before;
              is = ap (λ y. node (maps.twin y)) (old j less) ∙ b.is
                  ∙ ap node (sym (old b.place (omega (arith, b.before, less))));
            })
        | inr at_end ↦ record {
          place = new.from_found.place;
          before = omega (arith, at_end, new.from_found.within);
          is = ap (λ y. node (maps.twin y)) (last j (omega (arith, l, long, at_end)) ∙ is) ∙ ap node (r.twin_back d new.dart)
              ∙ sym new.from_found.is ∙ ap node (sym (old new.from_found.place new.from_found.within));
        }
      ];
      inside = λ j later l. elim (cases_lt j n) [
        | inl less ↦ ap (λ y. allowed (maps.edge y)) (old j less) ∙ h.inside j later less
        | inr at_end ↦ ap (λ y. allowed (maps.edge y)) (last j (omega (arith, l, long, at_end)) ∙ is)
            ∙ ap allowed (sym (twin_edge maps r d new.dart)) ∙ new.crosses
      ];
      named = λ j later l. elim (cases_lt j n) [
        | inl less ↦
            ap (λ y. kept_at kept (node y)) (old j less) ∙ kept_other from v (node (get_or order j 0)) x (unlike j less)
            ∙ h.named j later less
            ∙ ap Some (sym (old j less))
        | inr at_end ↦
            (let here : get_or more j 0 ≡ x = last j (omega (arith, l, long, at_end)) in
            ap (λ y. kept_at kept (node y)) here ∙ ap (kept_at kept) x_node ∙ kept_same from v x v_in ∙ ap Some (sym here))
      ];
      only = λ w y k. elim (cases_eq w v) [
        | inl same ↦
            (let own : Some y ≡ Some x = sym k ∙ ap (kept_at kept) same ∙ kept_same from v x v_in in
            let is_x : y ≡ x = cc in
            record {
              place = n;
              later = h.some;
              within = omega (arith, long);
              is = last n refl ∙ sym is_x;
              of_node = ap node is_x ∙ x_node ∙ sym same;
            })
        | inr other ↦
            (let before : IsNamed node order w y = h.only w y (sym (kept_other from v w x other) ∙ k) in
            record {
              place = before.place;
              later = before.later;
              within = omega (arith, before.within, long);
              is = old before.place before.within ∙ before.is;
              of_node = before.of_node;
            })
      ];
    }

-- an order goes on from another
pub record GoesOn (old new : List ℕ) : Type 0 where
  pub longer : length old ≤ length new
  pub same : (j : ℕ) → j < length old → get_or new j 0 ≡ get_or old j 0

pub found_on : {node : ℕ → ℕ} {old : List ℕ} (new : List ℕ) {v : ℕ} → GoesOn old new → IsFound node old v → IsFound node new v
found_on {node} new h found = grind arith

-- an order has no more darts than there are numbers of nodes
pub order_few : {maps : Rotations} {node : ℕ → ℕ} {allowed : ℕ → Bool} {bound root : ℕ} {order : List ℕ} {from : List (Option ℕ)}
    → IsOrder maps node allowed bound root order from → ((d : ℕ) → d < maps.darts → node d < bound) → length order ≤ bound
order_few {node} {bound} {order} h below =
    elim (cases_lt bound (length order)) [
      | inl more ↦
          (let alike : AreAlike (λ j. node (get_or order j 0)) (suc bound) = grind (arith, two_alike) in
          absurd (h.fresh alike.first alike.second alike.before (omega (arith, alike.within, more)) alike.same))
      | inr few ↦ few
    ]

-- going round once is going round all
round : (f : ℕ → ℕ) (x p i : ℕ) → 0 < p → after_steps f p x ≡ x → (j : ℕ) × (j < p) × (after_steps f i x ≡ after_steps f j x)
round f x p zero l e = (0, l, refl)
round f x p (suc i) l e =
    let before = round f x p i l e in
    elim (cases_lt (suc before.0) p) [
      | inl less ↦ (suc before.0, less, ap f before.2)
      | inr more ↦
          (let last : suc before.0 ≡ p = omega (arith, more, before.1) in
          (0, l, ap f before.2 ∙ ap (λ k. after_steps f k x) last ∙ e))
    ]

-- a map that goes round the darts of each node
pub record IsTurning (maps : Rotations) (node turn : ℕ → ℕ) : Type 0 where
  pub permutes : IsPermutationBelow maps.darts turn
  pub reaches : (d e : ℕ) → d < maps.darts → e < maps.darts → node d ≡ node e → IsReached turn d e
  pub keeps : (d : ℕ) → d < maps.darts → node (turn d) ≡ node d

-- the darts of a node up to so many turns are crossed
abbrev pub CrossedUpTo : Rotations → (ℕ → ℕ) → (ℕ → Bool) → (ℕ → ℕ) → List ℕ → ℕ → ℕ → Type 0
CrossedUpTo maps node allowed turn order first k =
    (i : ℕ) → i < k → allowed (maps.edge (after_steps turn i first)) ≡ true
    → IsFound node order (node (maps.twin (after_steps turn i first)))

pub crossed_round : {maps : Rotations} {node : ℕ → ℕ} (allowed : ℕ → Bool) {turn : ℕ → ℕ} (order : List ℕ) (first k : ℕ)
    → IsTurning maps node turn → first < maps.darts
    → CrossedUpTo maps node allowed turn order first k → (0 < k) × (after_steps turn k first ≡ first)
    → IsNodeCrossed maps node allowed order (node first)
crossed_round {maps} {node} allowed {turn} order first k t l crossed comes d b same passes =
    let way : IsReached turn first d = t.reaches first d l b (sym same) in
    let soon = round turn first k way.steps comes.0 comes.1 in
    let is : after_steps turn soon.0 first ≡ d = sym soon.2 ∙ way.leads in grind arith

pub crossed_all : {maps : Rotations} {node : ℕ → ℕ} (allowed : ℕ → Bool) {turn : ℕ → ℕ} (order : List ℕ) (first k : ℕ)
    → IsTurning maps node turn → first < maps.darts
    → CrossedUpTo maps node allowed turn order first k → maps.darts ≤ k → IsNodeCrossed maps node allowed order (node first)
crossed_all {maps} {node} allowed {turn} order first k t l crossed many d b same passes =
    let way : IsReached turn first d = t.reaches first d l b (sym same) in
    let soon = reached_soon maps.darts turn t.permutes first l (suc way.steps) way.steps d (omega arith) way.leads in grind arith

-- one more turn
pub crossed_more : (maps : Rotations) (node : ℕ → ℕ) (allowed : ℕ → Bool) (turn : ℕ → ℕ) (old new : List ℕ) (first k : ℕ) → GoesOn old new
    → CrossedUpTo maps node allowed turn old first k
    → (allowed (maps.edge (after_steps turn k first)) ≡ true → IsFound node new (node (maps.twin (after_steps turn k first))))
    → CrossedUpTo maps node allowed turn new first (k + 1)
crossed_more maps node allowed turn old new first k h crossed here i l passes = grind (arith, found_on)

pub crossed_on : (maps : Rotations) (node : ℕ → ℕ) (allowed : ℕ → Bool) (old new : List ℕ) (v : ℕ) → GoesOn old new
    → IsNodeCrossed maps node allowed old v → IsNodeCrossed maps node allowed new v
crossed_on maps node allowed old new v h crossed d l is passes = found_on new h (crossed d l is passes)

-- round a vertex by the next dart of the twin, round a face by the next dart
pub turning : {s : OrientedMesh} → IsOrientedSurface s → (nodes : Nodes)
    → IsTurning (rotations_of s) (node_of nodes (rotations_of s)) (next_round_node nodes (rotations_of s))
turning {s} h Vertices =
    let r : IsRotationSystem (rotations_of s) = rotation_system s h in grind (arith, turns_permute, origin-turned)
turning {s} h Faces =
    let r : IsRotationSystem (rotations_of s) = rotation_system s h in
    record {
      permutes = next_permutes s;
      reaches = λ d e l k same. (r.faces d e l k).0 same;
      keeps = λ d l. face-next s d l;
    }

-- a node that is the root, or for which a dart is kept, is found
pub root_found : {maps : Rotations} {node : ℕ → ℕ} {allowed : ℕ → Bool} {bound root : ℕ} {order : List ℕ}
    {from : List (Option ℕ)} (v : ℕ)
    → IsOrder maps node allowed bound root order from → v ≡ root → IsFound node order v
root_found v h is = record { place = 0; within = h.some; is = h.first ∙ sym is }

pub named_found : {node : ℕ → ℕ} {order : List ℕ} {v x : ℕ} → IsNamed node order v x → IsFound node order v
named_found {node} h = record { place = h.place; within = h.within; is = ap node h.is ∙ h.of_node }

kept_is : (from : List (Option ℕ)) (v : ℕ) (o : Option ℕ) → v < length from → o ≡ get_or from v o → get_or from v None ≡ o
kept_is from v o l e = sym (get_or_read from v o l e None)

-- what is read from a list of kept darts
pub kept_read : (from : List (Option ℕ)) (v : ℕ) (o : Option ℕ) (got x : Option DartName) → v < length from → o ≡ get_or from v o
    → option_map (λ d. d.0) got ≡ o → got ≡ x → kept_at from v ≡ option_map (λ d. d.0) x
kept_read from v o got x l e get is = kept_is from v o l e ∙ sym get ∙ ap (option_map (λ (d : DartName). d.0)) is

pub kept_found : {maps : Rotations} {node : ℕ → ℕ} {allowed : ℕ → Bool} {bound root : ℕ} {order : List ℕ}
    {from : List (Option ℕ)} (v : ℕ) (o : Option ℕ)
    → IsOrder maps node allowed bound root order from → v < length from → o ≡ get_or from v o → is_some o ≡ true → IsFound node order v
kept_found v None h l e some = cc
kept_found {from} v (Some x) h l e some = named_found (h.only v x (kept_is from v (Some x) l e))

pub none_kept : (from : List (Option ℕ)) (v : ℕ) (o : Option ℕ) → v < length from → o ≡ get_or from v o
    → is_some o ≡ false → kept_at from v ≡ None
none_kept from v None l e none = kept_is from v None l e
none_kept from v (Some x) l e none = cc

pub numbers_push : (xs ys : List DartName) (x : DartName) → ys ≡ xs ++ x ∷ [] → dart_numbers ys ≡ dart_numbers xs ++ x.0 ∷ []
numbers_push xs ys x e = ap dart_numbers e ∙ map-append (λ (d : DartName). d.0) xs (x ∷ [])

pub order_pushed : {maps : Rotations} {node : ℕ → ℕ} {allowed : ℕ → Bool} {bound root : ℕ} (xs ys : List DartName)
    {from : List (Option ℕ)} {d : ℕ} (v : ℕ) (x : DartName)
    → IsRotationSystem maps → IsOrder maps node allowed bound root (dart_numbers xs) from
    → IsNewDart maps node allowed bound root (dart_numbers xs) from d
    → x.0 ≡ maps.twin d → v ≡ node (maps.twin d) → ys ≡ xs ++ x ∷ []
    → IsOrder maps node allowed bound root (dart_numbers ys) (set from v (Some x.0))
order_pushed xs ys v x r h new is at pushed = rw (numbers_push xs ys x pushed, at) (order_more x.0 r h new is)

pub found_pushed : (maps : Rotations) (node : ℕ → ℕ) (xs ys : List DartName) (d : ℕ) (x : DartName) → x.0 ≡ maps.twin d → ys ≡ xs ++ x ∷ []
    → IsFound node (dart_numbers ys) (node (maps.twin d))
found_pushed maps node xs ys d x is pushed = grind (arith, common_steps, numbers_push, new_at)

-- what is added
pub added_none : (xs ws : List ℕ) → AreAdded xs ws xs ws
added_none xs ws = record { added = []; order = sym (append-nil xs); waits = sym (append-nil ws) }

pub added_pushed : (xs ys ws vs : List DartName) (x : DartName) → ys ≡ xs ++ x ∷ [] → vs ≡ ws ++ x ∷ []
    → AreAdded (dart_numbers xs) (dart_numbers ws) (dart_numbers ys) (dart_numbers vs)
added_pushed xs ys ws vs x pushed waits = grind (arith, common_steps, numbers_push)

pub added_on : {xs ws ys vs zs us : List ℕ} → AreAdded xs ws ys vs → AreAdded ys vs zs us → AreAdded xs ws zs us
added_on {xs} {ws} h k = grind (arith, common_steps)

pub added_goes : {xs ws ys vs : List ℕ} → AreAdded xs ws ys vs → GoesOn xs ys
added_goes {xs} h = grind (arith, common_steps)

-- going round a node: so many turns are done, and all that they cross is found
pub record IsVisiting (maps : Rotations) (node : ℕ → ℕ) (allowed : ℕ → Bool) (turn : ℕ → ℕ) (bound root : ℕ)
    (before waited order waiting : List ℕ) (from : List (Option ℕ)) (first dart k : ℕ) : Type 0 where
  pub is_order : IsOrder maps node allowed bound root order from
  pub added : AreAdded before waited order waiting
  pub at : dart ≡ after_steps turn k first
  pub crossed : CrossedUpTo maps node allowed turn order first k

pub visit_start : {maps : Rotations} {node : ℕ → ℕ} {allowed : ℕ → Bool} (turn : ℕ → ℕ) {bound root : ℕ} {order : List ℕ} (waiting : List ℕ)
    {from : List (Option ℕ)} (first : ℕ)
    → IsOrder maps node allowed bound root order from
    → IsVisiting maps node allowed turn bound root order waiting order waiting from first first 0
visit_start turn {order} waiting first h = grind (arith, added_none)

pub visit_more : {maps : Rotations} {node : ℕ → ℕ} {allowed : ℕ → Bool} {turn : ℕ → ℕ} {bound root : ℕ}
    {before waited order waiting new more : List ℕ} {from kept : List (Option ℕ)} {first dart : ℕ} (next : ℕ) {k : ℕ}
    → IsVisiting maps node allowed turn bound root before waited order waiting from first dart k
    → IsOrder maps node allowed bound root new kept
    → AreAdded order waiting new more → (allowed (maps.edge dart) ≡ true → IsFound node new (node (maps.twin dart))) → next ≡ turn dart
    → IsVisiting maps node allowed turn bound root before waited new more kept first next (k + 1)
visit_more {maps} {node} {allowed} {turn} {order} {new} {first} next {k} h is adds here turned =
    let step : k + 1 ≡ suc k = omega arith in
    record {
      is_order = is;
      added = added_on h.added adds;
      at = turned ∙ ap turn h.at ∙ ap (λ j. after_steps turn j first) (sym step);
      crossed = crossed_more maps node allowed turn order new first k (added_goes adds) h.crossed
          (subst (λ d. allowed (maps.edge d) ≡ true → IsFound node new (node (maps.twin d))) h.at here);
    }

pub visit_within : {maps : Rotations} {node : ℕ → ℕ} {turn : ℕ → ℕ} (first dart k : ℕ) → IsTurning maps node turn → first < maps.darts
    → dart ≡ after_steps turn k first → dart < maps.darts
visit_within {maps} {turn} first dart k t l at = subst (λ d. d < maps.darts) (sym at) (steps_within maps.darts turn t.permutes k first l)

pub visit_found : {maps : Rotations} {node : ℕ → ℕ} {allowed : ℕ → Bool} {turn : ℕ → ℕ} {bound root : ℕ}
    {before waited order waiting : List ℕ} {from : List (Option ℕ)} {first dart k : ℕ}
    → IsTurning maps node turn → first < maps.darts → IsFound node before (node first)
    → IsVisiting maps node allowed turn bound root before waited order waiting from first dart k → IsFound node order (node dart)
visit_found {maps} {node} {turn} {order} {first} {dart} {k} t l found h =
    let same : node dart ≡ node first = ap node h.at
    ∙ reached_keeps maps.darts turn node t.permutes t.keeps first (after_steps turn k first) l (record { steps = k; leads = refl }) in
    subst (IsFound node order) (sym same) (found_on order (added_goes h.added) found)

-- the order and its bound
pub rebound : {maps : Rotations} {node : ℕ → ℕ} {allowed : ℕ → Bool} {bound : ℕ} (other : ℕ) {root : ℕ} {order : List ℕ}
    {from : List (Option ℕ)} → bound ≡ other
    → IsOrder maps node allowed bound root order from → IsOrder maps node allowed other root order from
rebound {maps} {node} {allowed} other {root} {order} {from} e h = subst (λ b. IsOrder maps node allowed b root order from) e h
