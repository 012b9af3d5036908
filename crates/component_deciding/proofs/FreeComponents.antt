-- Free homotopy of closed walks on a mesh, and on a component over its own vertices.
use Rattle.component_deciding.proofs.Common.{FreeStep, FreelyHomotopic, FreelyLeads, IsClosedWalk, Moved, Rotated, after_all_free, after_free, IsApart, own_mesh, own_number, own_walk, Apart, IsOfComponent, piece_of_parts, walk_alone, walk_same_place, walk_whole, homotopic_alike, homotopic_renamed, led_back, valid_renamed, ends_renamed, restored, walk_renamed, IsRenamed, ◌≡◌, ◌↔◌, ℕ, ◌<◌, List, [], ◌∷◌, ◌++◌, length, get_or, map, refl, ap, sym, ◌∙◌, subst, arith, map-append, Some, used_below, component_at, component_mesh, FaceList, IsFaceList, HasGenus, Homotopic, AreJoinedByWalk, IsWalk, AreWalkPair, darts}
use Rattle.closed_walks.proofs.FreeStepLemmas.{on, parts_turn, step_keeps}
use Rattle.closed_walks.proofs.MovedSteps.{freely}
use Rattle.free_loops.proofs.ClosedLoopLemmas.{common_ends, way_ends}
use Rattle.polygon_cut.proofs.WalkLemmas.{walk_way}
use Rattle.polygon_cut.proofs.WayLemmas.{IsWay, back, way_home, way_on, way_walk}
use Rattle.surf_model.proofs.ContextLemmas.{first_answer}
use Rattle.surf_model.proofs.WayBackLemmas.{keeps_ends}
use Rattle.component_deciding.proofs.ComponentLemmas.{IsNumbered, component_valid}
use Rattle.component_deciding.proofs.OwnLemmas.{own_renamed, used_vertex}
use Rattle.component_deciding.proofs.OwnSurfaces.{own_homotopic}
use Rattle.component_deciding.proofs.SphereLemmas.{homotopic_on_sphere}

-- ---- steps that go over to another mesh, vertex by vertex

-- Lists of moves on walks that start inside go over, and a walk that starts inside stays there.
module _ (mesh other : FaceList) (there : ℕ → ℕ) (Inside : ℕ → Type 0)
    (stays : (walk : List ℕ) → IsWalk mesh walk → 1 < length walk → Inside (get_or walk 0 0) → Inside (get_or walk 1 0))
    (over : (first second : List ℕ) → AreWalkPair mesh first second → Inside (get_or first 0 0) → Homotopic mesh first second
    → Homotopic other (map there first) (map there second)) where
  pub record IsInside (walk : List ℕ) : Type 0 where
    pub closed : IsClosedWalk mesh walk
    pub start : Inside (get_or walk 0 0)

  -- where free steps lead is inside, and free steps lead there on the other mesh
  pub record GoesOver (walk end : List ℕ) : Type 0 where
    pub inside : IsInside end
    pub free : FreelyHomotopic other (map there walk) (map there end)

  step_over : (step : FreeStep) (walk next : List ℕ) → IsInside walk → after_free mesh walk step ≡ Some next → GoesOver walk next
  step_over (Moved move) walk next is e =
      let ends = keeps_ends mesh walk next move is.closed.is_walk.starts e in
      let closed : IsClosedWalk mesh next = step_keeps mesh (Moved move) walk next is.closed e in
      let pair : AreWalkPair mesh walk next =
      record { first_walk = is.closed.is_walk; second_walk = closed.is_walk; ends = ends } in
      record {
        inside = record { closed = closed; start = subst Inside ends.starts is.start };
        free = freely other (map there walk) (map there next) (over walk next pair is.start (move ∷ [], rw e refl));
      }
  step_over Rotated [] next is e = cc
  step_over Rotated (u ∷ []) next is e = cc
  step_over Rotated (u ∷ v ∷ rest) next is e =
      let same : v ∷ (rest ++ v ∷ []) ≡ next = cc in
      record {
        inside = record {
          closed = step_keeps mesh Rotated (u ∷ v ∷ rest) next is.closed e;
          start = subst (λ (w : List ℕ). Inside (get_or w 0 0)) same
              (stays (u ∷ v ∷ rest) is.closed.is_walk (omega arith) is.start);
        };
        free = (
          Rotated ∷ [],
          ap (λ (l : List ℕ). Some (there v ∷ l)) (sym (map-append there rest (v ∷ [])))
              ∙ ap (λ (w : List ℕ). Some (map there w)) same,
        );
      }

  pub goes_over : (steps : List FreeStep) (walk end : List ℕ) → IsInside walk → FreelyLeads mesh walk steps end → GoesOver walk end
  goes_over [] walk end is e =
      let same : walk ≡ end = cc in
      record { inside = subst IsInside same is; free = ([], ap (λ (w : List ℕ). Some (map there w)) same) }
  goes_over (step ∷ steps) walk end is e =
      let met = first_answer (λ w. after_all_free mesh w steps) (after_free mesh walk step) end e in
      let one = step_over step walk met.0 is met.1 in
      let rest = goes_over steps met.0 end one.inside met.2 in
      record { inside = rest.inside; free = on other (map there walk) (map there met.0) (map there end) one.free rest.free }

-- ---- a component over its own vertices

-- a closed walk that starts in the component at a place
pub record StartsIn (apart : Apart) (k : ℕ) (walk : List ℕ) : Type 0 where
  pub closed : IsClosedWalk apart.mesh.faces walk
  pub place : get_or apart.parts.places (get_or walk 0 0) 0 ≡ k

-- a walk as a way
way_between : (mesh : FaceList) (u v : ℕ) → AreJoinedByWalk mesh u v → (rest : List ℕ) × IsWay mesh u v rest
way_between mesh u v ([], joined) =
    let none : 0 < 0 = joined.walk_of.starts in
    absurd (omega arith)
way_between mesh u v (x ∷ rest, joined) =
    let last : darts (x ∷ rest) ≡ length rest = omega arith in (
      rest,
      subst (λ (y : ℕ). IsWay mesh y v rest) joined.starts
          (subst (λ (y : ℕ). IsWay mesh x y rest) (ap (λ (k : ℕ). get_or (x ∷ rest) k 0) (sym last) ∙ joined.ends)
          (walk_way mesh x rest joined.walk_of)),
    )

closed_way : (mesh : FaceList) (u : ℕ) (rest : List ℕ) → IsClosedWalk mesh (u ∷ rest) → IsWay mesh u u rest
unfolding way_between
closed_way mesh u rest h = (way_between mesh u u (u ∷ rest, record { walk_of = h.is_walk; starts = refl; ends = h.closed })).1

-- a closed walk starts in the component of its first vertex, which is one of the components
pub starts_in : (apart : Apart) (k v : ℕ) (walk : List ℕ) → IsClosedWalk apart.mesh.faces walk → v ≡ get_or walk 0 0
    → get_or apart.parts.places v 0 ≡ k → StartsIn apart k walk
starts_in apart k v walk closed start at =
    record { closed = closed; place = ap (λ (u : ℕ). get_or apart.parts.places u 0) (sym start) ∙ at }

pub place_within : (apart : Apart) (k : ℕ) (walk : List ℕ) → IsApart apart → StartsIn apart k walk → k < length apart.parts.components
place_within apart k walk is w =
    omega (arith, w.place, is.parts.places.below (get_or walk 0 0) (w.closed.is_walk.used 0 0 w.closed.is_walk.starts))

pub start_below : (apart : Apart) (v : ℕ) (walk : List ℕ) → IsApart apart → IsClosedWalk apart.mesh.faces walk → v ≡ get_or walk 0 0
    → v < length apart.parts.places
start_below apart v walk is closed start =
    omega (
      arith,
      start,
      used_below apart.mesh.faces (get_or walk 0 0) is.own.valid (closed.is_walk.used 0 0 closed.is_walk.starts),
      is.parts.places.each_vertex,
    )

module _ (apart : Apart) (k : ℕ) (is : IsApart apart) (l : k < length apart.parts.components) where
  abbrev mesh : FaceList
  mesh = apart.mesh.faces

  abbrev alone : FaceList
  alone = component_mesh mesh apart.parts k

  numbered : IsNumbered mesh apart.parts apart.own k
  numbered = record { parts_are = is.parts; numbers_are = is.own; within = l }

  renamed : IsRenamed (own_number alone) (used_vertex alone) alone (own_mesh alone)
  renamed = own_renamed alone (component_valid mesh apart.parts apart.own k numbered)

  home : IsRenamed (used_vertex alone) (own_number alone) (own_mesh alone) alone
  home =
      led_back (own_number alone) (used_vertex alone) alone (own_mesh alone) (component_valid mesh apart.parts apart.own k numbered) renamed

  alone_of : (walk : List ℕ) → StartsIn apart k walk → IsWalk alone walk
  alone_of walk w = walk_alone mesh apart.parts k walk is.parts l w.closed.is_walk w.place

  pub own_closed_walk : (walk : List ℕ) → StartsIn apart k walk → IsClosedWalk (own_mesh alone) (own_walk alone walk)
  own_closed_walk walk w =
      let ends =
      ends_renamed (own_number alone) walk (get_or walk 0 0 ∷ []) w.closed.is_walk.starts (omega arith)
      (record { starts = refl; ends = w.closed.closed }) in
      record {
        is_walk = walk_renamed (own_number alone) (used_vertex alone) alone (own_mesh alone) walk renamed (alone_of walk w);
        closed = ends.ends ∙ sym ends.starts;
      }

  down : (first second : List ℕ) → StartsIn apart k first → FreelyHomotopic mesh first second
      → StartsIn apart k second × FreelyHomotopic (own_mesh alone) (own_walk alone first) (own_walk alone second)
  down first second here free =
      let over =
      goes_over mesh (own_mesh alone) (own_number alone) (λ v. get_or apart.parts.places v 0 ≡ k)
      (λ walk w more at. walk_same_place mesh apart.parts walk 1 is.parts w more ∙ at)
      (λ a b pair at. (own_homotopic mesh apart.parts apart.own k a b numbered pair at).0) free.0 first second
      (record { closed = here.closed; start = here.place }) free.1 in
      (record { closed = over.inside.closed; place = over.inside.start }, over.free)

  moves_up : (first second : List ℕ) → AreWalkPair (own_mesh alone) first second → Homotopic (own_mesh alone) first second
      → Homotopic mesh (map (used_vertex alone) first) (map (used_vertex alone) second)
  moves_up first second pair moves =
      let valid : IsFaceList (own_mesh alone) =
      valid_renamed (own_number alone) (used_vertex alone) alone (own_mesh alone) renamed
      (component_valid mesh apart.parts apart.own k numbered) in
      let one : List ℕ = map (used_vertex alone) first in
      let whole = walk_whole mesh apart.parts k one is.parts l
      (walk_renamed (used_vertex alone) (own_number alone) (own_mesh alone) alone first home pair.first_walk) in
      (homotopic_alike mesh (IsOfComponent apart.parts.places k) (component_at apart.parts k) one (map (used_vertex alone) second)
      (piece_of_parts mesh apart.parts k is.parts l) whole.0 whole.1).1
      ((homotopic_renamed (used_vertex alone) (own_number alone) (own_mesh alone) alone first second valid home pair.first_walk
      pair.second_walk).0 moves)

  -- closed walks of the component are freely homotopic exactly where they are over its own vertices
  pub own_free : (first second : List ℕ) → StartsIn apart k first → StartsIn apart k second
      → FreelyHomotopic mesh first second ↔ FreelyHomotopic (own_mesh alone) (own_walk alone first) (own_walk alone second)
  own_free first second here there = (
    λ free. (down first second here free).1,
    λ free.
        let over =
        goes_over (own_mesh alone) mesh (used_vertex alone) (λ v. Unit {0}) (λ walk w more at. tt)
        (λ a b pair at moves. moves_up a b pair moves) free.0 (own_walk alone first) (own_walk alone second)
        (record { closed = own_closed_walk first here; start = tt }) free.1 in
        subst (λ (w : List ℕ). FreelyHomotopic mesh w second)
        (restored (own_number alone) (used_vertex alone) alone (own_mesh alone) first renamed (alone_of first here))
        (subst (FreelyHomotopic mesh (map (used_vertex alone) (own_walk alone first)))
        (restored (own_number alone) (used_vertex alone) alone (own_mesh alone) second renamed (alone_of second there)) over.free),
  )

  -- and one of another component is freely homotopic to none of them
  pub one_place : (first second : List ℕ) → StartsIn apart k first → FreelyHomotopic mesh first second
      → get_or apart.parts.places (get_or second 0 0) 0 ≡ k
  one_place first second here free = (down first second here free).0.place

  -- those of a sphere are
  on_sphere : HasGenus alone 0 → (u : ℕ) (rest others : List ℕ) → get_or apart.parts.places u 0 ≡ k → IsWay mesh u u rest
      → IsWay mesh u u others → FreelyHomotopic mesh (u ∷ rest) (u ∷ others)
  on_sphere sphere u rest others at one other =
      freely mesh (u ∷ rest) (u ∷ others)
      (homotopic_on_sphere apart k (u ∷ rest) (u ∷ others) is l sphere at
      (record {
        first_walk = way_walk mesh u u rest one;
        second_walk = way_walk mesh u u others other;
        ends = common_ends mesh u rest others one other;
      }))

  pub sphere_free : HasGenus alone 0 → (first second : List ℕ) → StartsIn apart k first → StartsIn apart k second
      → FreelyHomotopic mesh first second
  sphere_free sphere [] second here there =
      let none : 0 < 0 = here.closed.is_walk.starts in
      absurd (omega arith)
  sphere_free sphere (u ∷ rest) [] here there =
      let none : 0 < 0 = there.closed.is_walk.starts in
      absurd (omega arith)
  sphere_free sphere (u ∷ rest) (v ∷ others) here there =
      let joined =
      (is.parts.places.joined u v (here.closed.is_walk.used 0 0 here.closed.is_walk.starts)
      (there.closed.is_walk.used 0 0 there.closed.is_walk.starts)).0 (here.place ∙ sym there.place) in
      let out = way_between mesh u v joined in
      let way : List ℕ = out.0 in
      let again : List ℕ = back u way in
      let returns : IsWay mesh v u again = way_home mesh u v way out.1 in
      on mesh (u ∷ rest) (u ∷ (way ++ again)) (v ∷ others)
      (on_sphere sphere u rest (way ++ again) here.place (closed_way mesh u rest here.closed)
      (way_on mesh u v u way again out.1 returns))
      (on mesh (u ∷ (way ++ again)) (v ∷ (again ++ way)) (v ∷ others) (parts_turn mesh u v way again (way_ends mesh u v way out.1))
      (on_sphere sphere v (again ++ way) others there.place (way_on mesh v u v again way returns out.1)
      (closed_way mesh v others there.closed)))
