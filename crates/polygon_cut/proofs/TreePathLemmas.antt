-- Walks along the tree from any vertex to any other: up from the one to where the ways up meet, and down to the other. They pass no vertex
-- twice, so they have fewer darts than half of the surface's sides.
use Rattle.polygon_cut.proofs.Common.{rotation_system, names_all, darts_of, used_vertices, OrientedMesh, IsOrientedSurface, rotations_of, PolygonView, IsCutFrom, ◌≡◌, ◌≢◌, ◌⊎◌, inl, inr, ℕ, suc, ◌+◌, ◌*◌, ◌<◌, ◌≤◌, Bool, true, false, not, ◌&&◌, eqb, List, [], ◌∷◌, ◌++◌, length, refl, ap, sym, ◌∙◌, subst, arith, length-append, cases_Bool, cases_eq, eqb-true, eq-eqb, IsTrue, is_used, is_edge, count_below, IsPath, count_less, count_all, exact, SplitView, IsSplit, StepsToParent}
use Rattle.polygon_cut.proofs.CountLemmas.{count_darts}
use Rattle.polygon_cut.proofs.FreeProductLemmas.{inverse_of_one}
use Rattle.polygon_cut.proofs.WayLemmas.{IsWay, back, way_home, HasWays, loop_mul, loop_inv, loop_of}
use Rattle.polygon_cut.proofs.CongruenceLemmas.{no_dart, first_dart, dart_up}
use Rattle.polygon_cut.proofs.FreeLoopLemmas.{SameFreely, free_equality}
use Rattle.polygon_cut.proofs.TreeWayLemmas.{up, up_path, up_step, one_path, tree_ways}
use Rattle.polygon_cut.proofs.DartLoopLemmas.{Loops, one_of}
use Rattle.polygon_cut.proofs.FreeSpokeLemmas.{free_group}
use Rattle.polygon_cut.proofs.FreeWayLemmas.{loop_home}
use Rattle.polygon_cut.proofs.RingArcLemmas.{IsWorth, back-length}

-- the number is in the list
abbrev IsIn : ℕ → List ℕ → Type 0
IsIn x [] = ⊥
IsIn x (y ∷ ys) = (x ≡ y) ⊎ IsIn x ys

-- no number is in the list twice
abbrev AllDiffer : List ℕ → Type 0
AllDiffer [] = Unit {0}
AllDiffer (x ∷ xs) = (IsIn x xs → ⊥) × AllDiffer xs

is_in : (x : ℕ) (ys : List ℕ) → IsIn x ys ⊎ (IsIn x ys → ⊥)
is_in x [] = inr (λ h. h)
is_in x (y ∷ ys) = elim (cases_eq x y) [
  | inl same ↦ inl (inl same)
  | inr other ↦ elim (is_in x ys) [
    | inl later ↦ inl (inr later)
    | inr none ↦ inr (λ h. elim h [ inl same ↦ other same | inr later ↦ none later ])
  ]
]

in_either : (x : ℕ) (ys zs : List ℕ) → IsIn x (ys ++ zs) → IsIn x ys ⊎ IsIn x zs
in_either x [] zs h = inr h
in_either x (y ∷ ys) zs h = elim h [
  | inl same ↦ inl (inl same)
  | inr later ↦ elim (in_either x ys zs later) [ inl first ↦ inl (inr first) | inr second ↦ inr second ]
]

-- numbers below a bound that pass a test, all different, are no more than those that pass
few_members : (p : ℕ → Bool) (n : ℕ) (xs : List ℕ) → AllDiffer xs → ((x : ℕ) → IsIn x xs → (x < n) × (p x ≡ true))
    → length xs ≤ count_below p n
few_members p n [] differ each = omega arith
few_members p n (x ∷ xs) differ each =
    let others : ℕ → Bool = λ z. p z && not (eqb z x) in
    let here = each x (inl refl) in
    let gone : others x ≡ false = rw (here.1, eq-eqb x x refl) refl in
    let kept : (z : ℕ) → z ≢ x → p z ≡ others z = λ z ne. elim (cases_Bool (eqb z x)) [
      | inl same ↦ absurd (ne (eqb-true z x same))
      | inr other ↦ sym (ap (λ (b : Bool). p z && not b) other ∙ and_one (p z))
    ] in
    let less : count_below p n ≡ suc (count_below others n) = count_less p others n x here.0 here.1 gone (λ z l ne. kept z ne) in
    let rest : length xs ≤ count_below others n =
    few_members others n xs differ.1 (λ z m.
    let ne : z ≢ x = λ same. differ.0 (subst (λ y. IsIn y xs) same m) in
    ((each z (inr m)).0, sym (kept z ne) ∙ (each z (inr m)).1)) in
    omega (arith, less, rest)
  where
    and_one : (b : Bool) → (b && true) ≡ b
    and_one true = refl
    and_one false = refl

-- the parent is a used vertex
step_used : {s : OrientedMesh} {split : SplitView} → IsOrientedSurface s → IsSplit s split → (v w : ℕ)
    → StepsToParent (rotations_of s) split v w → is_used s.mesh w ≡ true
step_used {s} o t v w p =
    subst (λ x. is_used s.mesh x ≡ true) p.1.ends ((names_all s o).vertex_used ((rotations_of s).twin p.0)
    ((rotation_system s o).twin_within p.0 (t.parents.within v p.0 p.1.is_parent)))

-- the ways up from what stands on a way up are shorter
shorter_above : {s : OrientedMesh} {split : SplitView} → IsOrientedSurface s → (t : IsSplit s split) → (v : ℕ) (path : List ℕ)
    → IsPath (StepsToParent (rotations_of s) split) v path t.parents.root → (x : ℕ) → IsIn x path
    → length (up s split t x) < length path
shorter_above o t v [] p x m = absurd m
shorter_above {s} {split} o t v (w ∷ path) p x m =
    let w_used : is_used s.mesh w ≡ true = step_used o t v w p.0 in
    elim m [
      | inl here ↦
          let own : up s split t w ≡ path = one_path s split o t w (up s split t w) path (up_path s split t w w_used) p.1 in
          let long : length (up s split t x) ≡ length path = ap (λ y. length (up s split t y)) here ∙ ap (λ (l : List ℕ). length l) own in
          omega (arith, long)
      | inr later ↦ omega (arith, shorter_above o t w path p.1 x later)
    ]

not_above : {s : OrientedMesh} {split : SplitView} → IsOrientedSurface s → (t : IsSplit s split) → (v : ℕ) (path : List ℕ)
    → is_used s.mesh v ≡ true → IsPath (StepsToParent (rotations_of s) split) v path t.parents.root → IsIn v path → ⊥
not_above {s} {split} o t v path used p m =
    let own : up s split t v ≡ path = one_path s split o t v (up s split t v) path (up_path s split t v used) p in
    omega (arith, shorter_above o t v path p v m, ap (λ (l : List ℕ). length l) own)

path_differs : {s : OrientedMesh} {split : SplitView} → IsOrientedSurface s → (t : IsSplit s split) → (v : ℕ) (path : List ℕ)
    → is_used s.mesh v ≡ true → IsPath (StepsToParent (rotations_of s) split) v path t.parents.root → AllDiffer (v ∷ path)
path_differs o t v [] used p = ((λ m. m), tt)
path_differs o t v (w ∷ path) used p = (not_above o t v (w ∷ path) used p, path_differs o t w path (step_used o t v w p.0) p.1)

path_used : {s : OrientedMesh} {split : SplitView} → IsOrientedSurface s → (t : IsSplit s split) → (v : ℕ) (path : List ℕ)
    → is_used s.mesh v ≡ true → IsPath (StepsToParent (rotations_of s) split) v path t.parents.root → (x : ℕ) → IsIn x (v ∷ path)
    → is_used s.mesh x ≡ true
path_used {s} o t v [] used p x m = grind arith
path_used {s} o t v (w ∷ path) used p x m = elim m [
  | inl here ↦ subst (λ y. is_used s.mesh y ≡ true) (sym here) used
  | inr later ↦ path_used o t w path (step_used o t v w p.0) p.1 x later
]

root_on : (s : OrientedMesh) (split : SplitView) (root v : ℕ) (path : List ℕ)
    → IsPath (StepsToParent (rotations_of s) split) v path root → IsIn root (v ∷ path)
root_on s split root v [] p = inl (sym p)
root_on s split root v (w ∷ path) p = inr (root_on s split root w path p.1)

-- a walk of so many darts at most that is worth nothing
record IsIdle (s : OrientedMesh) (split : SplitView) (t : IsSplit s split) (u v most : ℕ) : Type 0 where
  rest : List ℕ
  few : length rest ≤ most
  way : IsWay s.mesh u v rest
  worth : IsWorth s split t u v rest (one_of s split t)

stays : {s : OrientedMesh} {split : SplitView} → IsOrientedSurface s → (t : IsSplit s split) → (u v most : ℕ) → u ≡ v
    → is_used s.mesh u ≡ true → IsIdle s split t u v most
stays {s} {split} o t u v most same used =
    let stay : IsWay s.mesh u v [] = (same, used) in
    record { rest = []; few = omega arith; way = stay; worth = no_dart (free_equality s.mesh) (tree_ways s split o t) u v stay }

-- one step up first
steps_up : {s : OrientedMesh} {split : SplitView} → IsOrientedSurface s → {t : IsSplit s split} → (u : ℕ) {w v most : ℕ} (more : ℕ)
    → suc most ≤ more → is_used s.mesh u ≡ true
    → StepsToParent (rotations_of s) split u w → IsIdle s split t w v most → IsIdle s split t u v more
steps_up {s} {split} o {t} u {w} {v} more less used p h =
    let g = free_group s split t in
    let ways : HasWays s.mesh t.parents.root (up s split t) = tree_ways s split o t in
    let w_used : is_used s.mesh w ≡ true = step_used o t u w p in
    let above : up s split t u ≡ w ∷ up s split t w = up_step s split o t u w used w_used p in
    let edge : IsTrue (is_edge s.mesh u w) = (subst (λ l. IsWay s.mesh u t.parents.root l) above (ways.way u used)).0 in
    let one : IsWay s.mesh u w (w ∷ []) = (edge, (refl, w_used)) in
    let whole : IsWay s.mesh u v (w ∷ h.rest) = (edge, h.way) in
    let dart : Loops s split t = loop_of s.mesh t.parents.root (up s split t) ways u w (w ∷ []) one in
    let later : Loops s split t = loop_of s.mesh t.parents.root (up s split t) ways w v h.rest h.way in
    let all : Loops s split t = loop_of s.mesh t.parents.root (up s split t) ways u v (w ∷ h.rest) whole in
    let none : Loops s split t = one_of s split t in
    let worth : SameFreely all none =
    g.on all (loop_mul dart later) none (first_dart (free_equality s.mesh) ways u w v h.rest whole one h.way)
    (g.on (loop_mul dart later) (loop_mul none none) none
    (g.mul_same dart none later none (dart_up (free_equality s.mesh) ways u w one above) h.worth) (g.one_left none)) in
    record { rest = w ∷ h.rest; few = omega (arith, h.few, less); way = whole; worth = worth }

-- up to a vertex on the way up
climbs : {s : OrientedMesh} {split : SplitView} → IsOrientedSurface s → (t : IsSplit s split) → (v : ℕ) (path : List ℕ) (u : ℕ)
    → is_used s.mesh v ≡ true → IsPath (StepsToParent (rotations_of s) split) v path t.parents.root → IsIn u (v ∷ path)
    → IsIdle s split t v u (length path)
climbs o t v [] u used p m = elim m [ inl here ↦ stays o t v u 0 (sym here) used | inr later ↦ absurd later ]
climbs o t v (w ∷ path) u used p m = elim m [
  | inl here ↦ stays o t v u (length (w ∷ path)) (sym here) used
  | inr later ↦
      steps_up o v (length (w ∷ path)) (omega arith) used p.0 (climbs o t w path u (step_used o t v w p.0) p.1 later)
]

comes_down : {s : OrientedMesh} {split : SplitView} → IsOrientedSurface s → {t : IsSplit s split} → {u v most : ℕ}
    → IsIdle s split t v u most → IsIdle s split t u v most
comes_down {s} {split} o {t} {u} {v} h =
    let g = free_group s split t in
    let ways : HasWays s.mesh t.parents.root (up s split t) = tree_ways s split o t in
    let home : IsWay s.mesh u v (back v h.rest) = way_home s.mesh v u h.rest h.way in
    let there_loop : Loops s split t = loop_of s.mesh t.parents.root (up s split t) ways v u h.rest h.way in
    let home_loop : Loops s split t = loop_of s.mesh t.parents.root (up s split t) ways u v (back v h.rest) home in
    let none : Loops s split t = one_of s split t in
    let worth : SameFreely home_loop none =
    g.on home_loop (loop_inv there_loop) none (loop_home s.mesh t.parents.root (up s split t) ways v u h.rest h.way home)
    (g.on (loop_inv there_loop) (loop_inv none) none (g.inv_same there_loop none h.worth)
    (g.turn none (loop_inv none) (inverse_of_one g))) in
    record { rest = back v h.rest; few = omega (arith, h.few, back-length v h.rest); way = home; worth = worth }

-- A walk along the tree, with the vertices on it before the way up from its end, none of which is on that way.
record Meets (s : OrientedMesh) (split : SplitView) (t : IsSplit s split) (u : ℕ) (path : List ℕ) (v : ℕ) : Type 0 where
  front : List ℕ
  idle : IsIdle s split t u v (length front + length (up s split t v))
  above : (x : ℕ) → IsIn x front → IsIn x (u ∷ path)
  differ : AllDiffer (front ++ (v ∷ up s split t v))

met_here : {s : OrientedMesh} {split : SplitView} → IsOrientedSurface s → (t : IsSplit s split) → (u : ℕ) (path : List ℕ) (v : ℕ)
    → is_used s.mesh v ≡ true → IsIn u (v ∷ up s split t v) → Meets s split t u path v
met_here {s} {split} o t u path v v_used m =
    let v_path = up_path s split t v v_used in
    let long : length (up s split t v) ≡ 0 + length (up s split t v) = omega arith in
    record {
      front = [];
      idle = comes_down o (subst (IsIdle s split t v u) long (climbs o t v (up s split t v) u v_used v_path m));
      above = λ x m. absurd m;
      differ = path_differs o t v (up s split t v) v_used v_path;
    }

meets : {s : OrientedMesh} {split : SplitView} → IsOrientedSurface s → (t : IsSplit s split) → (u : ℕ) (path : List ℕ) (v : ℕ)
    → is_used s.mesh u ≡ true → is_used s.mesh v ≡ true → IsPath (StepsToParent (rotations_of s) split) u path t.parents.root
    → Meets s split t u path v
meets {s} {split} o t u [] v used v_used p = elim (is_in u (v ∷ up s split t v)) [
  | inl m ↦ met_here o t u [] v v_used m
  | inr none ↦
      let v_path = up_path s split t v v_used in
      absurd (none (subst (λ x. IsIn x (v ∷ up s split t v)) (sym p) (root_on s split t.parents.root v (up s split t v) v_path)))
]
meets {s} {split} o t u (w ∷ path) v used v_used p = elim (is_in u (v ∷ up s split t v)) [
  | inl m ↦ met_here o t u (w ∷ path) v v_used m
  | inr none ↦
      let later : Meets s split t w path v = meets o t w path v (step_used o t u w p.0) v_used p.1 in
      let long : suc (length later.front + length (up s split t v)) ≤ length (u ∷ later.front) + length (up s split t v) = omega arith in
      record {
        front = u ∷ later.front;
        idle = steps_up o u (length (u ∷ later.front) + length (up s split t v)) long used p.0 later.idle;
        above = λ x m. elim m [ inl here ↦ inl here | inr more ↦ inr (later.above x more) ];
        differ = (
          (λ m. elim (in_either u later.front (v ∷ up s split t v) m) [
            | inl first ↦ not_above o t u (w ∷ path) used p (later.above u first)
            | inr second ↦ none second
          ]),
          later.differ,
        );
      }
]

-- a walk along the tree from any used vertex to any other, of fewer darts than half of the sides
pub record IsTreeWalk (s : OrientedMesh) (split : SplitView) (t : IsSplit s split) (u v : ℕ) : Type 0 where
  pub rest : List ℕ
  pub few : 2 * length rest + 4 ≤ darts_of s
  pub way : IsWay s.mesh u v rest
  pub worth : IsWorth s split t u v rest (one_of s split t)

-- there are fewer vertices than half of the sides
pub few_vertices : (s : OrientedMesh) (split : SplitView) (polygon : PolygonView) → IsOrientedSurface s → IsSplit s split
    → IsCutFrom s split polygon → 0 < polygon.degree → 2 * count_below (is_used s.mesh) s.mesh.count + 2 ≤ darts_of s
unfolding used_vertices
few_vertices s split polygon o t c some =
    let edges : count_below (λ d. true) (darts_of s) ≡ 2 * count_below (λ e. true) (length s.table) =
    count_darts (length s.table) (λ e. true) (rotation_system s o) (names_all s o).edge_below (names_all s o).each_edge in
    let euler : used_vertices s + length s.mesh.faces + 2 * split.genus ≡ length s.table + 2 = exact s split t.trees split.genus t.genus in
    omega (arith, edges, euler, count_all (darts_of s), count_all (length s.table), c.degree, some, o.closed.some_face)

pub tree_walk : {s : OrientedMesh} {split : SplitView} {polygon : PolygonView} → IsOrientedSurface s → (t : IsSplit s split)
    → IsCutFrom s split polygon → 0 < polygon.degree → (u v : ℕ) → is_used s.mesh u ≡ true → is_used s.mesh v ≡ true
    → IsTreeWalk s split t u v
tree_walk {s} {split} {polygon} o t c some u v used v_used =
    let u_path = up_path s split t u used in
    let v_path = up_path s split t v v_used in
    let h : Meets s split t u (up s split t u) v = meets o t u (up s split t u) v used v_used u_path in
    let each : (x : ℕ) → IsIn x (h.front ++ (v ∷ up s split t v)) → (x < s.mesh.count) × (is_used s.mesh x ≡ true) = λ x m.
    let x_used : is_used s.mesh x ≡ true = elim (in_either x h.front (v ∷ up s split t v) m) [
      | inl first ↦ path_used o t u (up s split t u) used u_path x (h.above x first)
      | inr second ↦ path_used o t v (up s split t v) v_used v_path x second
    ] in
    let dart = (names_all s o).each_vertex x x_used in
    (subst (λ y. y < s.mesh.count) dart.2 ((names_all s o).vertex_below dart.0 dart.1), x_used) in
    let most = few_members (is_used s.mesh) s.mesh.count (h.front ++ (v ∷ up s split t v)) h.differ each in
    record {
      rest = h.idle.rest;
      few = omega (arith, most, few_vertices s split polygon o t c some, h.idle.few, length-append h.front (v ∷ up s split t v));
      way = h.idle.way;
      worth = h.idle.worth;
    }
