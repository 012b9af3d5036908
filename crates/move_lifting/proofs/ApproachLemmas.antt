-- The loops of spokes, as walks without spurs.
use Rattle.move_lifting.proofs.Common.{names_all, darts_of, origin_of, OrientedMesh, IsOrientedSurface, IsCutSurface, IsSpokeWalk, AreSpokeWalks, HasWalk, last_of, before, behind, home_and_there, there_and_home, value, spoke, root_is, up_is, loop_list, side_in, spoke_list, path_list, backward_is, free_equality, way_end, spoke_product, up, up_path, tree_ways, walk_way, other_way, IsWay, HasWays, loop_mul, loop_inv, loop_one, back, back_back, back-append, way_home, way_on, way_walk, PolygonView, side_at, AreWaysUp, backward, by_loop, dart_loop, last_side, spoke_loop, path_loop, ◌≡◌, ◌⊎◌, inl, inr, ℕ, suc, ◌+◌, ◌-◌, ◌<◌, Bool, true, false, List, [], ◌∷◌, ◌++◌, length, get_or, refl, ap, sym, ◌∙◌, subst, arith, append_assoc, length-append, cases_lt, both_ways, common_steps, get_or_append_left, get_or-append-add, get_or_past, IsTrue, Some, if◌then◌else◌, list_keeps_walk, list_keeps_ends, FaceList, is_used, AreFreelyEqual, HasNoSpur, apply_all, IsWalk, Move, SplitView, IsSplit}
use Rattle.move_lifting.proofs.BackLemmas.{way_of}
use Rattle.move_lifting.proofs.ListLemmas.{one_no_spur}
use Rattle.move_lifting.proofs.TreeUpLemmas.{own_ways}

-- the walk is a way from u to v
pub record GoesFrom (mesh : FaceList) (u v : ℕ) (walk : List ℕ) : Type 0 where
  pub rest : List ℕ
  pub walk_is : walk ≡ u ∷ rest
  pub way : IsWay mesh u v rest

-- a walk that spur moves join to a way is a way from and to the same vertices
pub free_way : (mesh : FaceList) (u v : ℕ) (rest walk : List ℕ) → IsWay mesh u v rest → AreFreelyEqual mesh (u ∷ rest) walk
    → GoesFrom mesh u v walk
free_way mesh u v rest [] h free =
    let none : 0 < 0 = (list_keeps_walk mesh free.0 (u ∷ rest) [] (way_walk mesh u v rest h) free.2).starts in
    absurd (omega arith)
free_way mesh u v rest (w ∷ others) h free =
    let is_walk : IsWalk mesh (u ∷ rest) = way_walk mesh u v rest h in
    let other_walk : IsWalk mesh (w ∷ others) = list_keeps_walk mesh free.0 (u ∷ rest) (w ∷ others) is_walk free.2 in
    let ends = list_keeps_ends mesh free.0 (u ∷ rest) (w ∷ others) is_walk.starts free.2 in
    let own_end : get_or (u ∷ rest) (length rest) 0 ≡ v =
    sym (way_end mesh u (get_or (u ∷ rest) (length rest) 0) rest (walk_way mesh u rest is_walk)) ∙ way_end mesh u v rest h in
    record {
      rest = others;
      walk_is = ap (λ (x : ℕ). x ∷ others) (sym ends.starts);
      way = subst (λ (x : ℕ). IsWay mesh u x others) own_end (other_way mesh u w rest others other_walk ends);
    }

-- ways up are ways
pub has_ways : (s : OrientedMesh) (split : SplitView) → IsOrientedSurface s → (t : IsSplit s split) → (ways : ℕ → List ℕ)
    → AreWaysUp s split t.parents.root ways → HasWays s.mesh t.parents.root ways
has_ways s split o t ways h = record {
  root_used = t.parents.root_used;
  way = λ v used. subst (IsWay s.mesh v t.parents.root) (sym (up_is s split o t ways h v used)) ((tree_ways s split o t).way v used);
}

-- the loops of darts, spokes and paths are ways
pub dart_loop_way : (s : OrientedMesh) (split : SplitView) → IsOrientedSurface s → (t : IsSplit s split) → (ways : ℕ → List ℕ)
    → AreWaysUp s split t.parents.root ways → (d : ℕ) → d < darts_of s → IsWay s.mesh t.parents.root t.parents.root (dart_loop s ways d)
dart_loop_way s split o t ways h d l =
    subst (IsWay s.mesh t.parents.root t.parents.root) (sym (loop_list s split o t ways h d l)) (value s split o t d).is_way

-- the loop of a way back is one
pub home_way : (mesh : FaceList) (root : ℕ) (loop : List ℕ) → IsWay mesh root root loop → IsWay mesh root root (backward root loop)
home_way mesh root loop h = subst (IsWay mesh root root) (sym (backward_is root loop)) (way_home mesh root root loop h)

-- up the tree from a vertex, a loop, and down the tree to it again
pub closed_way : (mesh : FaceList) (root : ℕ) (ways : ℕ → List ℕ) → HasWays mesh root ways → (y : ℕ) → IsTrue (is_used mesh y)
    → (loop : List ℕ) → IsWay mesh root root loop → IsWay mesh y y (ways y ++ (loop ++ backward y (ways y)))
closed_way mesh root ways w y used loop h = grind (arith, backward_is, way_on, back, way_home)

-- at the root, down the tree to a vertex and up again may be put in
pub down_and_up : (mesh : FaceList) (root : ℕ) (ways : ℕ → List ℕ) → HasWays mesh root ways → (y : ℕ) → IsTrue (is_used mesh y)
    → (u : ℕ) (rest more : List ℕ) → IsWay mesh u root rest
    → AreFreelyEqual mesh (u ∷ (rest ++ more)) (u ∷ ((rest ++ backward y (ways y)) ++ (ways y ++ more)))
down_and_up mesh root ways w y used u rest more h =
    let f = free_equality mesh in
    let up_way : IsWay mesh y root (ways y) = w.way y used in
    let down : List ℕ = back y (ways y) in
    let round : IsWay mesh root root (down ++ ways y) =
    way_on mesh root y root down (ways y) (way_home mesh y root (ways y) up_way) up_way in
    let comes : AreFreelyEqual mesh (root ∷ []) (root ∷ (down ++ ways y)) =
    f.turn (root ∷ (down ++ ways y)) (root ∷ []) (way_walk mesh root root (down ++ ways y) round)
    (home_and_there f y root (ways y) up_way) in
    let put : AreFreelyEqual mesh (u ∷ (rest ++ more)) (u ∷ (rest ++ ((down ++ ways y) ++ more))) =
    behind f u root rest more ((down ++ ways y) ++ more) h (before f root [] (down ++ ways y) more comes) in
    let shape : rest ++ ((down ++ ways y) ++ more) ≡ (rest ++ down) ++ (ways y ++ more) = simp append_assoc in
    let named : (rest ++ down) ++ (ways y ++ more) ≡ (rest ++ backward y (ways y)) ++ (ways y ++ more) =
    ap (λ (k : List ℕ). (rest ++ k) ++ (ways y ++ more)) (sym (backward_is y (ways y))) in
    subst (λ (k : List ℕ). AreFreelyEqual mesh (u ∷ (rest ++ more)) (u ∷ k)) (shape ∙ named) put

-- what two loops are from a vertex, one after the other, is what their product is
pub joined_loops : (mesh : FaceList) (root : ℕ) (ways : ℕ → List ℕ) → HasWays mesh root ways → (y : ℕ) → IsTrue (is_used mesh y)
    → (a b p q : List ℕ) → IsWay mesh root root a → IsWay mesh y y p
    → AreFreelyEqual mesh (by_loop ways y y a) (y ∷ p) → AreFreelyEqual mesh (by_loop ways y y b) (y ∷ q)
    → AreFreelyEqual mesh (by_loop ways y y (a ++ b)) (y ∷ (p ++ q))
joined_loops mesh root ways w y used a b p q a_way p_way first second =
    let f = free_equality mesh in
    let down : List ℕ = backward y (ways y) in
    let rest : List ℕ = ways y ++ (b ++ down) in
    let apart : AreFreelyEqual mesh (y ∷ ((ways y ++ a) ++ (b ++ down))) (y ∷ (((ways y ++ a) ++ down) ++ rest)) =
    down_and_up mesh root ways w y used y (ways y ++ a) (b ++ down) (way_on mesh y root root (ways y) a (w.way y used) a_way) in
    let whole : ways y ++ ((a ++ b) ++ down) ≡ (ways y ++ a) ++ (b ++ down) = simp append_assoc in
    let begun : AreFreelyEqual mesh (y ∷ ((ways y ++ a) ++ down)) (y ∷ p) =
    subst (λ (k : List ℕ). AreFreelyEqual mesh (y ∷ k) (y ∷ p)) (sym (append_assoc (ways y) a down)) first in
    f.on (y ∷ (ways y ++ ((a ++ b) ++ down))) (y ∷ (((ways y ++ a) ++ down) ++ rest)) (y ∷ (p ++ q))
    (subst (λ (k : List ℕ). AreFreelyEqual mesh (y ∷ k) (y ∷ (((ways y ++ a) ++ down) ++ rest))) (sym whole) apart)
    (f.on (y ∷ (((ways y ++ a) ++ down) ++ rest)) (y ∷ (p ++ rest)) (y ∷ (p ++ q))
    (before f y ((ways y ++ a) ++ down) p rest begun) (behind f y y p rest q p_way second))

-- no loop is nothing
pub no_loop : (mesh : FaceList) (root : ℕ) (ways : ℕ → List ℕ) → HasWays mesh root ways → (y : ℕ) → IsTrue (is_used mesh y)
    → AreFreelyEqual mesh (by_loop ways y y []) (y ∷ [])
no_loop mesh root ways w y used =
    subst (λ (k : List ℕ). AreFreelyEqual mesh (y ∷ (ways y ++ k)) (y ∷ [])) (sym (backward_is y (ways y)))
    (there_and_home (free_equality mesh) y root (ways y) (w.way y used))

-- back from a vertex, by way of a loop
pub back_by_loop : (mesh : FaceList) (root : ℕ) (ways : ℕ → List ℕ) → HasWays mesh root ways → (y : ℕ) → IsTrue (is_used mesh y)
    → (loop : List ℕ) → IsWay mesh root root loop
    → back y (ways y ++ (backward root loop ++ backward y (ways y))) ≡ ways y ++ (loop ++ backward y (ways y))
back_by_loop mesh root ways w y used loop h =
    let up_way : IsWay mesh y root (ways y) = w.way y used in
    let down : List ℕ = back y (ways y) in
    let away : List ℕ = back root loop in
    let away_way : IsWay mesh root root away = way_home mesh root root loop h in
    ap (λ (k : List ℕ). back y (ways y ++ (k ++ backward y (ways y)))) (backward_is root loop)
    ∙ ap (λ (k : List ℕ). back y (ways y ++ (away ++ k))) (backward_is y (ways y))
    ∙ back-append y (ways y) (away ++ down) root mesh up_way
    ∙ ap (λ (k : List ℕ). k ++ down) (back-append root away down root mesh away_way)
    ∙ ap (λ (k : List ℕ). (k ++ back root away) ++ down) (back_back mesh y root (ways y) up_way)
    ∙ ap (λ (k : List ℕ). (ways y ++ k) ++ down) (back_back mesh root root loop h) ∙ append_assoc (ways y) loop down
    ∙ ap (λ (k : List ℕ). ways y ++ (loop ++ k)) (sym (backward_is y (ways y)))

-- So many walks, each that of its spoke if it was made, and those that are named were made.
pub record AreMade (s : OrientedMesh) (split : SplitView) (polygon : PolygonView) (named : List Bool) (n : ℕ) (walks : List (List ℕ))
    (walk : List ℕ) : Type 0 where
  pub count : length walks ≡ n
  pub each : AreSpokeWalks s split polygon walks
  pub made : (i : ℕ) → i < n → get_or named i false ≡ true → HasWalk walks i
  pub own : IsSpokeWalk s split polygon n walk

pub none_made : (s : OrientedMesh) (split : SplitView) (polygon : PolygonView) (named : List Bool) (walks : List (List ℕ)) (walk : List ℕ)
    → walks ≡ [] → IsSpokeWalk s split polygon 0 walk → AreMade s split polygon named 0 walks walk
none_made s split polygon named walks walk is own = grind arith

-- one walk more, or none in its place
pub one_made : (s : OrientedMesh) (split : SplitView) (polygon : PolygonView) (named : List Bool) (n : ℕ) (walks more : List (List ℕ))
    (walk kept : List ℕ) → 0 < length walk
    → AreMade s split polygon named n walks walk → more ≡ walks ++ kept ∷ []
    → (kept ≡ walk) ⊎ ((kept ≡ []) × (get_or named n false ≡ false)) → (length more ≡ n + 1) × AreSpokeWalks s split polygon more
    × ((i : ℕ) → i < n + 1 → get_or named i false ≡ true → HasWalk more i)
one_made s split polygon named n walks more walk kept some all is which = (count, each, made)
  where
    count : length more ≡ n + 1
    count = ap (λ (l : List (List ℕ)). length l) is ∙ length-append walks (kept ∷ []) ∙ ap (λ (k : ℕ). k + 1) all.count

    early : (i : ℕ) → i < n → get_or more i [] ≡ get_or walks i []
    early i l = ap (λ (x : List (List ℕ)). get_or x i []) is ∙ get_or_append_left walks (kept ∷ []) [] i (omega (arith, l, all.count))

    late : (i : ℕ) → i ≡ n → get_or more i [] ≡ kept
    late i e =
        let at : i ≡ length walks + 0 = omega (arith, e, all.count) in
        ap (λ (x : List (List ℕ)). get_or x i []) is ∙ ap (λ (k : ℕ). get_or (walks ++ kept ∷ []) k []) at
        ∙ get_or-append-add walks (kept ∷ []) 0 []

    -- no walk is further on
    within : (i : ℕ) → HasWalk more i → i < n + 1
    within i has = elim (cases_lt i (n + 1)) [
      | inl below ↦ below
      | inr above ↦
          let none : 0 < 0 = subst (λ (l : List ℕ). 0 < length l) (get_or_past more i [] (omega (arith, above, count))) has in
          absurd (omega arith)
    ]

    each : AreSpokeWalks s split polygon more
    each i has = elim (cases_lt i n) [
      | inl below ↦
          subst (IsSpokeWalk s split polygon i) (sym (early i below))
          (all.each i (subst (λ (l : List ℕ). 0 < length l) (early i below) has))
      | inr above ↦
          let last : i ≡ n = omega (arith, above, within i has) in
          elim which [
            | inl same ↦
                subst (IsSpokeWalk s split polygon i) (sym (late i last ∙ same))
                (subst (λ (k : ℕ). IsSpokeWalk s split polygon k walk) (sym last) all.own)
            | inr other ↦
                let none : 0 < 0 = subst (λ (l : List ℕ). 0 < length l) (late i last ∙ other.0) has in absurd (omega arith)
          ]
    ]

    made : (i : ℕ) → i < n + 1 → get_or named i false ≡ true → HasWalk more i
    made i l marked = elim (cases_lt i n) [
      | inl below ↦ subst (λ (k : List ℕ). 0 < length k) (sym (early i below)) (all.made i below marked)
      | inr above ↦
          let last : i ≡ n = omega (arith, above, l) in
          elim which [
            | inl same ↦ subst (λ (k : List ℕ). 0 < length k) (sym (late i last ∙ same)) some
            | inr other ↦
                absurd (both_ways (get_or named n false) other.1 (subst (λ (k : ℕ). get_or named k false ≡ true) last marked))
          ]
    ]

which_kept : (is_named : Bool) (walk : List ℕ)
    → ((if is_named then walk else []) ≡ walk) ⊎ (((if is_named then walk else []) ≡ []) × (is_named ≡ false))
which_kept true walk = inl refl
which_kept false walk = inr (refl, refl)

-- a spoke that has a walk is one of those that there are
pub walk_within : (walks : List (List ℕ)) (i : ℕ) → HasWalk walks i → i < length walks
walk_within walks i has = grind (arith, common_steps)

-- where a way ends
pub goes_end : {mesh : FaceList} {u v : ℕ} {walk : List ℕ} → GoesFrom mesh u v walk → last_of walk ≡ v
goes_end {mesh} {u} {v} g =
    ap last_of g.walk_is ∙ sym (way_end mesh u (last_of (u ∷ g.rest)) g.rest (way_of mesh u g.rest (way_walk mesh u v g.rest g.way)))
    ∙ way_end mesh u v g.rest g.way

pub goes_start : {mesh : FaceList} {u v : ℕ} {walk : List ℕ} → GoesFrom mesh u v walk → get_or walk 0 0 ≡ u
goes_start g = ap (λ (l : List ℕ). get_or l 0 0) g.walk_is

pub goes_some : {mesh : FaceList} {u v : ℕ} {walk : List ℕ} → GoesFrom mesh u v walk → 0 < length walk
goes_some g = omega (arith, ap (λ (l : List ℕ). length l) g.walk_is)

pub goes_walk : {mesh : FaceList} {u v : ℕ} {walk : List ℕ} → GoesFrom mesh u v walk → IsWalk mesh walk
goes_walk {mesh} {u} {v} g = subst (IsWalk mesh) (sym g.walk_is) (way_walk mesh u v g.rest g.way)

-- a walk, from its first entry to its last
pub walk_goes : (mesh : FaceList) (walk : List ℕ) → IsWalk mesh walk → GoesFrom mesh (get_or walk 0 0) (last_of walk) walk
walk_goes mesh walk w = grind (arith, common_steps, way_of)

-- where moves lead from a single vertex
pub turn_goes_home : (mesh : FaceList) (y : ℕ) (walk : List ℕ) (moves : List Move) → IsTrue (is_used mesh y)
    → apply_all mesh (y ∷ []) moves ≡ Some walk → GoesFrom mesh y y walk
turn_goes_home mesh y walk moves used leads =
    let one : IsWalk mesh (y ∷ []) = way_walk mesh y y [] (refl, used) in
    let ends = list_keeps_ends mesh moves (y ∷ []) walk one.starts leads in
    let here : GoesFrom mesh (get_or walk 0 0) (last_of walk) walk =
    walk_goes mesh walk (list_keeps_walk mesh moves (y ∷ []) walk one leads) in
    subst (λ (x : ℕ). GoesFrom mesh y x walk) (sym ends.ends) (subst (λ (x : ℕ). GoesFrom mesh x (last_of walk) walk) (sym ends.starts)
    here)

module _ {s : OrientedMesh} {split : SplitView} {polygon : PolygonView} (is_cut : IsCutSurface s split polygon) where
  open is_cut use {valid as o, tree as t, cut as c, some}

  pub spoke_way : (ways : ℕ → List ℕ) → AreWaysUp s split t.parents.root ways → (i : ℕ)
      → IsWay s.mesh t.parents.root t.parents.root (spoke_loop s polygon t.parents.root ways i)
  spoke_way ways h i =
      subst (IsWay s.mesh t.parents.root t.parents.root) (sym (spoke_list s split o t polygon c some ways h i))
      (spoke s split o t polygon i).is_way

  pub path_way : (ways : ℕ → List ℕ) → AreWaysUp s split t.parents.root ways → (along : Bool) (path : List ℕ)
      → IsWay s.mesh t.parents.root t.parents.root (path_loop s polygon t.parents.root ways along path)
  path_way ways h along path =
      subst (IsWay s.mesh t.parents.root t.parents.root) (sym (path_list s split o t polygon c some ways h along path))
      (spoke_product loop_mul loop_inv (loop_one s.mesh t.parents.root t.parents.root_used) (spoke s split o t polygon) along path).is_way

  -- where the last side starts is used
  pub last_used : IsTrue (is_used s.mesh (origin_of s (last_side polygon)))
  last_used =
      (names_all s o).vertex_used (last_side polygon) (side_in s split polygon c some (polygon.degree - 1))

  -- what is told of the walk of a spoke
  pub spoke_walk : {i : ℕ} {walk : List ℕ} → IsSpokeWalk s split polygon i walk
      → GoesFrom s.mesh (origin_of s (last_side polygon)) (origin_of s (last_side polygon)) walk
  spoke_walk {i} {walk} is =
      let root : ℕ = t.parents.root in
      let y : ℕ = origin_of s (last_side polygon) in
      let ups : ℕ → List ℕ = up s split t in
      let own : AreWaysUp s split root ups = λ v used. up_path s split t v used in
      let loop : List ℕ = backward root (spoke_loop s polygon root ups i) in
      free_way s.mesh y y (ups y ++ (loop ++ backward y (ups y))) walk
      (closed_way s.mesh root ups (has_ways s split o t ups own) y last_used loop
      (home_way s.mesh root (spoke_loop s polygon root ups i) (spoke_way ups own i)))
      (is.freely root ups own)

  pub spoke_some : {i : ℕ} {walk : List ℕ} → IsSpokeWalk s split polygon i walk → 0 < length walk
  spoke_some is =
      omega (arith, ap (λ (l : List ℕ). length l) (spoke_walk is).walk_is)

  -- the walk of the first spoke
  pub first_spoke : (walk : List ℕ) → walk ≡ origin_of s (last_side polygon) ∷ [] → IsSpokeWalk s split polygon 0 walk
  first_spoke walk is = record {
    no_spur = subst HasNoSpur (sym is) (one_no_spur (origin_of s (last_side polygon)));
    freely = λ root ways h.
        let y : ℕ = origin_of s (last_side polygon) in
        let own : AreWaysUp s split t.parents.root ways = own_ways o t root ways h in
        subst (AreFreelyEqual s.mesh (by_loop ways y y [])) (sym is)
        (no_loop s.mesh t.parents.root ways (has_ways s split o t ways own) y last_used);
  }

  -- the walk of the spoke after another
  pub spoke_after : (i d y : ℕ) (walk next : List ℕ) → d ≡ side_at polygon i → y ≡ origin_of s (last_side polygon)
      → IsSpokeWalk s split polygon i walk → HasNoSpur next → ((root : ℕ) (ways : ℕ → List ℕ) → AreWaysUp s split root ways
      → AreFreelyEqual s.mesh (walk ++ (ways y ++ (dart_loop s ways d ++ backward y (ways y)))) next)
      → IsSpokeWalk s split polygon (suc i) next
  spoke_after i d y walk next side y_is is no_spur free = record { no_spur = no_spur; freely = at_any }
    where
      -- the loop backward goes on by that of the side
      turned : (ways : ℕ → List ℕ) → AreWaysUp s split t.parents.root ways
          → backward t.parents.root (spoke_loop s polygon t.parents.root ways (suc i))
          ≡ backward t.parents.root (spoke_loop s polygon t.parents.root ways i) ++ dart_loop s ways d
      turned ways h =
          let root : ℕ = t.parents.root in
          let loop : List ℕ = spoke_loop s polygon root ways i in
          let dart : List ℕ = dart_loop s ways (side_at polygon i) in
          let dart_way : IsWay s.mesh root root dart =
          dart_loop_way s split o t ways h (side_at polygon i) (side_in s split polygon c some i) in
          backward_is root (backward root dart ++ loop) ∙ ap (λ (k : List ℕ). back root (k ++ loop)) (backward_is root dart)
          ∙ back-append root (back root dart) loop root s.mesh (way_home s.mesh root root dart dart_way)
          ∙ ap (λ (k : List ℕ). back root loop ++ k) (back_back s.mesh root root dart dart_way)
          ∙ ap (λ (k : List ℕ). k ++ dart) (sym (backward_is root loop))
          ∙ ap (λ (x : ℕ). backward root loop ++ dart_loop s ways x) (sym side)

      at_root : (ways : ℕ → List ℕ) → AreWaysUp s split t.parents.root ways
          → AreFreelyEqual s.mesh (by_loop ways y y (backward t.parents.root (spoke_loop s polygon t.parents.root ways (suc i)))) next
      at_root ways h =
          let f = free_equality s.mesh in
          let root : ℕ = t.parents.root in
          let w : HasWays s.mesh root ways = has_ways s split o t ways h in
          let used : IsTrue (is_used s.mesh y) =
          subst (λ (x : ℕ). IsTrue (is_used s.mesh x)) (sym y_is) last_used in
          let known : GoesFrom s.mesh y y walk =
          subst (λ (x : ℕ). GoesFrom s.mesh x x walk) (sym y_is) (spoke_walk is) in
          let loop : List ℕ = spoke_loop s polygon root ways i in
          let dart : List ℕ = dart_loop s ways d in
          let more : List ℕ = ways y ++ (dart ++ backward y (ways y)) in
          let begun : AreFreelyEqual s.mesh (by_loop ways y y (backward root loop)) (y ∷ known.rest) =
          subst (AreFreelyEqual s.mesh (by_loop ways y y (backward root loop))) known.walk_is
          (subst (λ (x : ℕ). AreFreelyEqual s.mesh (by_loop ways x x (backward root loop)) walk) (sym y_is) (is.freely root ways h)) in
          let both : AreFreelyEqual s.mesh (by_loop ways y y (backward root loop ++ dart)) (y ∷ (known.rest ++ more)) =
          joined_loops s.mesh root ways w y used (backward root loop) dart known.rest more
          (home_way s.mesh root loop (spoke_way ways h i)) known.way begun
          (f.itself (by_loop ways y y dart)) in
          subst (λ (k : List ℕ). AreFreelyEqual s.mesh (by_loop ways y y k) next) (sym (turned ways h))
          (f.on (by_loop ways y y (backward root loop ++ dart)) (y ∷ (known.rest ++ more)) next both
          (subst (λ (k : List ℕ). AreFreelyEqual s.mesh (k ++ more) next) known.walk_is (free root ways h)))

      at_any : (root : ℕ) (ways : ℕ → List ℕ) → AreWaysUp s split root ways → AreFreelyEqual s.mesh
          (by_loop ways (origin_of s (last_side polygon)) (origin_of s (last_side polygon))
          (backward root (spoke_loop s polygon root ways (suc i)))) next
      at_any root ways h =
          subst (λ (x : ℕ). AreFreelyEqual s.mesh (by_loop ways x x (backward root (spoke_loop s polygon root ways (suc i)))) next) y_is
          (subst (λ (r : ℕ). AreFreelyEqual s.mesh (by_loop ways y y (backward r (spoke_loop s polygon r ways (suc i)))) next)
          (root_is s split o t root ways h) (at_root ways (own_ways o t root ways h)))

  -- and the walk of the next spoke is at hand
  pub made_more : (named : List Bool) (n d y : ℕ) (walks more : List (List ℕ)) (walk next : List ℕ) (is_named : Bool)
      → d ≡ side_at polygon n → y ≡ origin_of s (last_side polygon) → is_named ≡ get_or named n false
      → AreMade s split polygon named n walks walk → more ≡ walks ++ (if is_named then walk else []) ∷ [] → HasNoSpur next
      → ((root : ℕ) (ways : ℕ → List ℕ) → AreWaysUp s split root ways
      → AreFreelyEqual s.mesh (walk ++ (ways y ++ (dart_loop s ways d ++ backward y (ways y)))) next)
      → AreMade s split polygon named (n + 1) more next
  made_more named n d y walks more walk next is_named side y_is marked all is no_spur free =
      let kept : List ℕ = if is_named then walk else [] in
      let which : (kept ≡ walk) ⊎ ((kept ≡ []) × (get_or named n false ≡ false)) =
      subst (λ (b : Bool). (kept ≡ walk) ⊎ ((kept ≡ []) × (b ≡ false))) marked (which_kept is_named walk) in
      let one = one_made s split polygon named n walks more walk kept (spoke_some all.own) all is which in
      let own : IsSpokeWalk s split polygon (suc n) next =
      spoke_after n d y walk next side y_is all.own no_spur free in
      let count : suc n ≡ n + 1 = omega arith in
      record {
        count = one.0;
        each = one.1;
        made = one.2;
        own = subst (λ (k : ℕ). IsSpokeWalk s split polygon k next) count own;
      }
