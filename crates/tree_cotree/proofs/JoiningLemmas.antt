-- Edges are tried in turn: one whose two nodes lie in two classes is put into a set, and the classes become one. Once all are tried, the
-- set is a spanning tree.
use Rattle.tree_cotree.proofs.Common.{joined_keep, joins_only-alone, joins_only-joined_at, length-joined_at, joined_at_ends, joined_at_keeps, high_at, low_at, joined_at_high, joined_at_other, either_way, entries_own, least_range, least_joined_at, high_gone, others_own, joined_at, AreLeastMembers, Rotations, IsRotationSystem, ◌≡◌, ◌≢◌, ◌⊎◌, inl, inr, ℕ, suc, ◌+◌, ◌<◌, ◌≤◌, Bool, true, false, ◌&&◌, eqb, List, [], ◌∷◌, length, get_or, refl, ap, sym, ◌∙◌, arith, cases_Bool, both_ways, and_parts, and_from, eqb-true, eq-eqb, and_right, one_truth, range_with_len, count_below, IsPath, AreJoined, AreEnds, HangTogether, IsStepIn, StepsIn, IsSpanningTree}
use Rattle.connectivity.specs.Partitions.{JoinsOnlyBySteps}
use Rattle.std.proofs.lemmas.List.FromFn.{length-range_with_len, get_or-range_with_len}
use Rattle.tree_cotree.proofs.AfterLemmas.{twin_edge}
use Rattle.tree_cotree.proofs.ClassLemmas.{count_same, count_less, count_none}
use Rattle.tree_cotree.proofs.SetLemmas.{with_one, with_itself, with_keeps, with_cases, count_with}
use Rattle.tree_cotree.proofs.GrowthLemmas.{HasNodes}

-- steps in a set are steps in a larger one
widen_path : (maps : Rotations) (node : ℕ → ℕ) (set more : ℕ → Bool) → ((e : ℕ) → set e ≡ true → more e ≡ true) → (u v : ℕ) (path : List ℕ)
    → IsPath (StepsIn maps node set) u path v → IsPath (StepsIn maps node more) u path v
widen_path maps node set more wider u v [] p = p
widen_path maps node set more wider u v (w ∷ path) p =
    let dart : ℕ = p.0.0 in
    let step : IsStepIn maps node set u w dart = p.0.1 in (
      (dart, record { within = step.within; in_set = wider (maps.edge dart) step.in_set; starts = step.starts; ends = step.ends }),
      widen_path maps node set more wider w v path p.1,
    )

widen : (maps : Rotations) (node : ℕ → ℕ) (set more : ℕ → Bool) → ((e : ℕ) → set e ≡ true → more e ≡ true) → (u v : ℕ)
    → AreJoined (StepsIn maps node set) u v → AreJoined (StepsIn maps node more) u v
widen maps node set more wider u v h = (h.0, widen_path maps node set more wider u v h.0 h.1)

-- the nodes that are their own entries: one for each class of nodes
abbrev pub is_root : (ℕ → Bool) → List ℕ → ℕ → Bool
is_root is_node least v = is_node v && eqb (get_or least v 0) v

-- how far the edges are tried: those below n, and maybe some others
pub record IsJoining (maps : Rotations) (node : ℕ → ℕ) (is_node : ℕ → Bool) (bound edges : ℕ) (allowed : ℕ → Bool) (n : ℕ)
    (least : List ℕ) (set : ℕ → Bool) : Type 0 where
  pub long : length least ≡ bound
  pub members : AreLeastMembers least
  pub nodes : (v : ℕ) → v < bound → is_node v ≡ true → is_node (get_or least v 0) ≡ true
  pub sound : JoinsOnlyBySteps (λ v. v < bound) (λ v. v) (StepsIn maps node set) least
  pub within : (e : ℕ) → e < edges → set e ≡ true → allowed e ≡ true
  pub joined : (d : ℕ) → d < maps.darts → maps.edge d < edges → set (maps.edge d) ≡ true
      → get_or least (node d) 0 ≡ get_or least (node (maps.twin d)) 0
  pub ends : (d : ℕ) → d < maps.darts → maps.edge d < n → allowed (maps.edge d) ≡ true
      → get_or least (node d) 0 ≡ get_or least (node (maps.twin d)) 0
  pub count : count_below set edges + count_below (is_root is_node least) bound ≡ count_below is_node bound

and_true : (a b : Bool) → b ≡ true → (a && b) ≡ a
and_true true b h = h
and_true false b h = refl

-- at first each number is a class
pub joining_none : (maps : Rotations) (node : ℕ → ℕ) (is_node : ℕ → Bool) (bound edges : ℕ) (allowed set : ℕ → Bool)
    → ((e : ℕ) → e < edges → set e ≡ false)
    → IsJoining maps node is_node bound edges allowed 0 (range_with_len 0 bound) set
joining_none maps node is_node bound edges allowed set none = record {
  long = length-range_with_len 0 bound;
  members = least_range bound;
  nodes = λ v l is. ap is_node (read v l) ∙ is;
  sound = joins_only-alone (λ v. v < bound) (λ v. v) (StepsIn maps node set) bound (λ v l. l) (λ v w l k same. same);
  within = λ e l is. absurd (both_ways (set e) (none e l) is);
  joined = λ d l k is. absurd (both_ways (set (maps.edge d)) (none (maps.edge d) k) is);
  ends = λ d l k. absurd (omega (arith, k));
  count =
      let empty : count_below set edges ≡ 0 = count_same set (λ _. false) edges none ∙ count_none edges in
      let roots : count_below (is_root is_node (range_with_len 0 bound)) bound ≡ count_below is_node bound =
      count_same (is_root is_node (range_with_len 0 bound)) is_node bound
      (λ v l. and_true (is_node v) (eqb (get_or (range_with_len 0 bound) v 0) v)
      (eq-eqb (get_or (range_with_len 0 bound) v 0) v (read v l))) in
      omega (arith, empty, roots);
}
  where
    read : (v : ℕ) → v < bound → get_or (range_with_len 0 bound) v 0 ≡ v
    read v l = get_or-range_with_len 0 bound v 0 l ∙ omega arith

-- an edge that is not allowed is passed
pub joining_skip : {maps : Rotations} {node : ℕ → ℕ} {is_node : ℕ → Bool} {bound edges : ℕ} {allowed : ℕ → Bool} {n : ℕ} {least : List ℕ}
    {set : ℕ → Bool}
    → allowed n ≡ false → IsJoining maps node is_node bound edges allowed n least set
    → IsJoining maps node is_node bound edges allowed (n + 1) least set
joining_skip {maps} {allowed} {n} out h = grind arith

-- the nodes of the darts of an edge
ends_of : {maps : Rotations} {node : ℕ → ℕ} {n x y : ℕ} → IsRotationSystem maps → AreEnds maps node n x y → (d : ℕ) → d < maps.darts
    → maps.edge d ≡ n → ((node d ≡ x) × (node (maps.twin d) ≡ y)) ⊎ ((node d ≡ y) × (node (maps.twin d) ≡ x))
ends_of {maps} {node} r a d l on = grind arith

same_ends : {maps : Rotations} {node : ℕ → ℕ} {n x y : ℕ} (least : List ℕ) → IsRotationSystem maps → AreEnds maps node n x y
    → get_or least x 0 ≡ get_or least y 0 → (d : ℕ) → d < maps.darts → maps.edge d ≡ n
    → get_or least (node d) 0 ≡ get_or least (node (maps.twin d)) 0
same_ends least r a same d l on = grind (arith, ends_of)

-- one whose nodes are joined already is left out
pub joining_same : {maps : Rotations} {node : ℕ → ℕ} {is_node : ℕ → Bool} {bound edges : ℕ} {allowed : ℕ → Bool} {n : ℕ} {least : List ℕ}
    {set : ℕ → Bool} {x y : ℕ}
    → IsRotationSystem maps → AreEnds maps node n x y → get_or least x 0 ≡ get_or least y 0
    → IsJoining maps node is_node bound edges allowed n least set
    → IsJoining maps node is_node bound edges allowed (n + 1) least set
joining_same {maps} {n} {least} r a same h = grind (arith, same_ends)

-- one that is in the set already is passed
pub joining_set : {maps : Rotations} {node : ℕ → ℕ} {is_node : ℕ → Bool} {bound edges : ℕ} {allowed : ℕ → Bool} {n : ℕ} {least : List ℕ}
    {set : ℕ → Bool}
    → n < edges → set n ≡ true → IsJoining maps node is_node bound edges allowed n least set
    → IsJoining maps node is_node bound edges allowed (n + 1) least set
joining_set {maps} {n} {set} n_in kept h = grind arith

pub ends_within : {maps : Rotations} {node : ℕ → ℕ} {is_node : ℕ → Bool} {bound edges n x y : ℕ} → IsRotationSystem maps
    → HasNodes maps node is_node bound edges → AreEnds maps node n x y
    → ((x < bound) × (is_node x ≡ true)) × ((y < bound) × (is_node y ≡ true))
ends_within {maps} {is_node} {bound} r h a = grind arith

-- one whose nodes are apart joins them, whether its turn has come or not
pub joining_apart : {maps : Rotations} {node : ℕ → ℕ} {is_node : ℕ → Bool} {bound edges : ℕ} {allowed : ℕ → Bool} {n m : ℕ}
    {least : List ℕ} {set : ℕ → Bool} {x y : ℕ}
    → IsRotationSystem maps → HasNodes maps node is_node bound edges → m < edges → allowed m ≡ true → set m ≡ false
    → AreEnds maps node m x y → get_or least x 0 ≢ get_or least y 0
    → IsJoining maps node is_node bound edges allowed n least set
    → IsJoining maps node is_node bound edges allowed n (joined_at least x y) (with_one set m)
joining_apart {maps} {node} {is_node} {bound} {edges} {allowed} {m} {least} {set} {x} {y} r hn m_in passes fresh a apart h = record {
  long = length-joined_at least x y ∙ h.long;
  members = least_joined_at least x y h.members x_in y_in;
  nodes = λ v l is. grind (arith, joined_at_high, joined_at_other);
  sound = joins_only-joined_at (λ v. v < bound) (λ v. v) (StepsIn maps node (with_one set m)) least x y
      (λ u v l k same. widen maps node set (with_one set m) (λ e is. with_keeps set m e is) u v (h.sound u v l k same))
      (λ v l. omega (arith, l, h.long)) at.0.0 at.1.0 step back;
  within = λ e l is. elim (with_cases set m e is) [ inl same ↦ ap allowed same ∙ passes | inr old ↦ h.within e l old ];
  joined = λ d l k is. grind (arith, with_cases, same_ends, joined_at_ends, joined_at_keeps);
  ends = λ d l k is. joined_at_keeps least x y (node d) (node (maps.twin d)) (in_list d l) (in_list (maps.twin d) (r.twin_within d l))
      (h.ends d l k is);
  count =
      let one : count_below (with_one set m) edges ≡ suc (count_below set edges) = count_with set edges m m_in fresh in
      let less : count_below (is_root is_node least) bound ≡ suc (count_below (is_root is_node (joined_at least x y)) bound) =
      count_less (is_root is_node least) (is_root is_node (joined_at least x y)) bound high high_in
      (and_from (is_node high) (eqb (get_or least high 0) high) both_nodes.0 (eq-eqb (get_or least high 0) high own.0.1)) gone others in
      omega (arith, h.count, one, less);
}
  where
    at : ((x < bound) × (is_node x ≡ true)) × ((y < bound) × (is_node y ≡ true))
    at = ends_within r hn a

    in_list : (d : ℕ) → d < maps.darts → node d < length least
    in_list d l = omega (arith, hn.node_within d l, h.long)

    x_in : x < length least
    x_in = omega (arith, at.0.0, h.long)

    y_in : y < length least
    y_in = omega (arith, at.1.0, h.long)

    high : ℕ
    high = high_at least x y

    both_nodes : (is_node (high_at least x y) ≡ true) × (is_node (low_at least x y) ≡ true)
    both_nodes = either_way (λ v. is_node v ≡ true) (get_or least x 0) (get_or least y 0) (h.nodes x at.0.0 at.0.1)
        (h.nodes y at.1.0 at.1.1)

    own : ((high_at least x y < length least) × (get_or least (high_at least x y) 0 ≡ high_at least x y))
        × ((low_at least x y < length least) × (get_or least (low_at least x y) 0 ≡ low_at least x y))
    own = entries_own least x y h.members x_in y_in

    high_in : high < bound
    high_in = omega (arith, own.0.0, h.long)

    step : StepsIn maps node (with_one set m) x y
    step = (
      a.dart,
      record {
        within = a.within;
        in_set = ap (with_one set m) a.on_edge ∙ with_itself set m;
        starts = a.starts;
        ends = a.ends;
      },
    )

    back : StepsIn maps node (with_one set m) y x
    back = (
      maps.twin a.dart,
      record {
        within = r.twin_within a.dart a.within;
        in_set = ap (with_one set m) (sym (twin_edge maps r a.dart a.within) ∙ a.on_edge) ∙ with_itself set m;
        starts = a.ends;
        ends = ap node (r.twin_back a.dart a.within) ∙ a.starts;
      },
    )

    gone : is_root is_node (joined_at least x y) high ≡ false
    gone = and_right (is_node high) (eqb (get_or (joined_at least x y) high 0) high)
        (elim (cases_Bool (eqb (get_or (joined_at least x y) high 0) high)) [
          | inl is ↦ absurd (high_gone least x y h.members x_in y_in apart (eqb-true (get_or (joined_at least x y) high 0) high is))
          | inr is ↦ is
        ])

    others : (v : ℕ) → v < bound → v ≢ high → is_root is_node least v ≡ is_root is_node (joined_at least x y) v
    others v l ne =
        let either = others_own least x y v h.members x_in y_in (omega (arith, l, h.long)) ne in
        ap (λ b. is_node v && b) (one_truth (eqb (get_or least v 0) v) (eqb (get_or (joined_at least x y) v 0) v)
        (λ is. eq-eqb (get_or (joined_at least x y) v 0) v (either.0 (eqb-true (get_or least v 0) v is)))
        (λ is. eq-eqb (get_or least v 0) v (either.1 (eqb-true (get_or (joined_at least x y) v 0) v is))))

-- Once all edges are tried, and the nodes hang together across the allowed ones, all nodes are in one class, and the set spans them.
pub joined_spans : {maps : Rotations} {node : ℕ → ℕ} {is_node : ℕ → Bool} {bound edges : ℕ} {allowed : ℕ → Bool} {n : ℕ} {least : List ℕ}
    {set : ℕ → Bool}
    → HasNodes maps node is_node bound edges → 0 < maps.darts → HangTogether maps node allowed → edges ≤ n
    → IsJoining maps node is_node bound edges allowed n least set
    → IsSpanningTree maps node is_node bound edges set
joined_spans {maps} {node} {is_node} {bound} {allowed} {n} {least} hn some together all h = record {
  joins = λ d e l k. h.sound (node d) (node e) (hn.node_within d l) (hn.node_within e k) (one_entry d e l k);
  count = omega (arith, h.count, roots, count_none bound);
}
  where
    entry : ℕ → ℕ
    entry v = get_or least v 0

    keeps : (u v : ℕ) → StepsIn maps node allowed u v → entry u ≡ entry v
    keeps u v step =
        let is : IsStepIn maps node allowed u v step.0 = step.1 in
        let passed : maps.edge step.0 < n = omega (arith, hn.edge_within step.0 is.within, all) in
        ap entry (sym is.starts) ∙ h.ends step.0 is.within passed is.in_set ∙ ap entry is.ends

    one_entry : (d e : ℕ) → d < maps.darts → e < maps.darts → entry (node d) ≡ entry (node e)
    one_entry d e l k =
        let way = together d e l k in
        joined_keep (StepsIn maps node allowed) entry keeps (node d) way.0 (node e) way.1

    root : ℕ
    root = entry (node 0)

    start_in : node 0 < length least
    start_in = omega (arith, hn.node_within 0 some, h.long)

    root_in : root < bound
    root_in = omega (arith, h.members.lesser (node 0) start_in, hn.node_within 0 some)

    root_is : is_root is_node least root ≡ true
    root_is = and_from (is_node root) (eqb (entry root) root) (h.nodes (node 0) (hn.node_within 0 some) (hn.is_of_dart 0 some))
        (eq-eqb (entry root) root (h.members.itself (node 0) start_in))

    only : (v : ℕ) → v < bound → is_root is_node least v ≡ true → v ≡ root
    only v l is =
        let parts = and_parts (is_node v) (eqb (entry v) v) is in
        let dart = hn.has_dart v l parts.0 in
        sym (eqb-true (entry v) v parts.1) ∙ ap entry (sym dart.2) ∙ one_entry dart.0 0 dart.1 some

    roots : count_below (is_root is_node least) bound ≡ suc (count_below (λ _. false) bound)
    roots = count_less (is_root is_node least) (λ _. false) bound root root_in root_is refl
        (λ v l ne. elim (cases_Bool (is_root is_node least v)) [ inl is ↦ absurd (ne (only v l is)) | inr is ↦ is ])
