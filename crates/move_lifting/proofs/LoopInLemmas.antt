-- The loop of the last side, put into a walk behind the spokes in front, by way of the tree.
use Rattle.move_lifting.proofs.Common.{origin_of, OrientedMesh, IsCutSurface, LeadsAtPeak, signed_loop, HasLoopIn, IsSpokeWalk, AreSpokeWalks, AreLoopTurns, HasWalk, IsLastLoop, along_or_back, walks_loop, last_of, Lifted, before, behind, home_and_there, to_loops, by_own_loop, root_is, side_in, backward_is, SameFreely, loops_make_a_free_group, free_equality, put_in, loop_in, up, up_path, IsWay, HasWays, Loop, loop_mul, loop_inv, loop_of, back, start_used, end_used, way_home, way_on, way_walk, PolygonView, AreWaysUp, backward, by_loop, dart_loop, last_side, last_side_loop, path_loop, put_behind, spoke_loop, ◌≡◌, ℕ, suc, ◌-◌, Bool, true, false, List, [], ◌∷◌, ◌++◌, drop, get_or, ap, sym, ◌∙◌, subst, arith, append_assoc, append-nil, IsTrue, All, Some, if◌then◌else◌, FaceList, is_used, AreFreelyEqual, apply_all, IsWalk, SplitView}
use Rattle.move_lifting.specs.declared.looping.Turns.{Turns}
use Rattle.move_lifting.proofs.ApproachLemmas.{GoesFrom, free_way, goes_end, goes_walk, walk_goes, turn_goes_home, has_ways, dart_loop_way, spoke_way, path_way, spoke_walk, home_way, closed_way, down_and_up, joined_loops, no_loop, back_by_loop, last_used}
use Rattle.move_lifting.proofs.TreeUpLemmas.{own_ways}

-- a loop, up the tree before it and down the tree behind it
pub whole_way : (mesh : FaceList) (root : ℕ) (ways : ℕ → List ℕ) (w : HasWays mesh root ways) (u v : ℕ) (loop : Loop mesh root)
    → IsTrue (is_used mesh u) → IsTrue (is_used mesh v) → IsWay mesh u v (ways u ++ (loop.rest ++ back v (ways v)))
whole_way mesh root ways w u v loop u_used v_used = grind (arith, way_on, back, way_home)

-- its loop is that loop
own_loop : (mesh : FaceList) (root : ℕ) (ways : ℕ → List ℕ) (w : HasWays mesh root ways) (u v : ℕ) (loop : Loop mesh root)
    (k : IsWay mesh u v (ways u ++ (loop.rest ++ back v (ways v))))
    → SameFreely (loop_of mesh root ways w u v (ways u ++ (loop.rest ++ back v (ways v))) k) loop
own_loop mesh root ways w u v loop k =
    let u_way : IsWay mesh u root (ways u) = w.way u (start_used mesh u v (ways u ++ (loop.rest ++ back v (ways v))) k) in
    let v_way : IsWay mesh v root (ways v) = w.way v (end_used mesh u v (ways u ++ (loop.rest ++ back v (ways v))) k) in
    let down : List ℕ = back u (ways u) in
    let home : List ℕ = back v (ways v) in
    let shape : down ++ ((ways u ++ (loop.rest ++ home)) ++ ways v) ≡ (down ++ ways u) ++ (loop.rest ++ (home ++ ways v)) =
    simp append_assoc in
    let front : AreFreelyEqual mesh (root ∷ ((down ++ ways u) ++ (loop.rest ++ (home ++ ways v)))) (root ∷ (loop.rest ++ (home ++ ways v)))
    =
    before (free_equality mesh) root (down ++ ways u) [] (loop.rest ++ (home ++ ways v))
    (home_and_there (free_equality mesh) u root (ways u) u_way) in
    let end : AreFreelyEqual mesh (root ∷ (loop.rest ++ (home ++ ways v))) (root ∷ loop.rest) =
    subst (λ (l : List ℕ). AreFreelyEqual mesh (root ∷ (loop.rest ++ (home ++ ways v))) (root ∷ l)) (append-nil loop.rest)
    (behind (free_equality mesh) root root loop.rest (home ++ ways v) [] loop.is_way
    (home_and_there (free_equality mesh) v root (ways v) v_way)) in
    subst (λ (l : List ℕ). AreFreelyEqual mesh (root ∷ l) (root ∷ loop.rest)) (sym shape)
    ((free_equality mesh).on (root ∷ ((down ++ ways u) ++ (loop.rest ++ (home ++ ways v)))) (root ∷ (loop.rest ++ (home ++ ways v)))
    (root ∷ loop.rest) front end)

-- so is that of a walk that spur moves lead to it
pub loop_by : (mesh : FaceList) (root : ℕ) (ways : ℕ → List ℕ) (w : HasWays mesh root ways) (u v : ℕ) (rest : List ℕ)
    (loop : Loop mesh root)
    (k : IsWay mesh u v rest)
    → AreFreelyEqual mesh (u ∷ rest) (by_loop ways u v loop.rest) → SameFreely (loop_of mesh root ways w u v rest k) loop
loop_by mesh root ways w u v rest loop k free =
    let g = loops_make_a_free_group mesh root w.root_used in
    let whole : List ℕ = ways u ++ (loop.rest ++ back v (ways v)) in
    let way : IsWay mesh u v whole = whole_way mesh root ways w u v loop (start_used mesh u v rest k) (end_used mesh u v rest k) in
    let own : AreFreelyEqual mesh (u ∷ rest) (u ∷ whole) =
    subst (λ (l : List ℕ). AreFreelyEqual mesh (u ∷ rest) (u ∷ (ways u ++ (loop.rest ++ l)))) (backward_is v (ways v)) free in
    g.on (loop_of mesh root ways w u v rest k) (loop_of mesh root ways w u v whole way) loop
    (to_loops (free_equality mesh) w u v rest whole k way own)
    (own_loop mesh root ways w u v loop way)

-- from a vertex up the tree, down the tree to another one, and along walks there
abbrev pub approach_by : (ℕ → List ℕ) → ℕ → ℕ → List ℕ → List ℕ
approach_by ways x y laid = x ∷ (ways x ++ (backward y (ways y) ++ laid))

-- the loop of the last side that is taken, or the way back along it
pub picked : (s : OrientedMesh) (split : SplitView) (polygon : PolygonView) (turns : Turns) (against : Bool) (turn : Lifted)
    → AreLoopTurns s split polygon turns → turn ≡ (if against then turns.back else turns.forth) → IsLastLoop s split polygon against turn
picked s split polygon turns true turn l is = subst (IsLastLoop s split polygon true) (sym is) l.back
picked s split polygon turns false turn l is = subst (IsLastLoop s split polygon false) (sym is) l.forth

-- what is ready to be put in
pub record IsReady (mesh : FaceList) (x y : ℕ) (approach : List ℕ) (turn : Lifted) : Type 0 where
  pub there : GoesFrom mesh x y approach
  pub round : GoesFrom mesh y y turn.walk
  pub leads : LeadsAtPeak mesh (last_of approach ∷ []) turn.moves turn.walk

-- Up to spurs the approach goes from x by way of the tree to y, where the last side starts, and along the walks of the spokes in front.
pub record IsByTree (s : OrientedMesh) (split : SplitView) (polygon : PolygonView) (walks : List (List ℕ)) (front : List ℕ) (x y : ℕ)
    (approach : List ℕ) : Type 0 where
  pub all : AreSpokeWalks s split polygon walks
  pub made : All (HasWalk walks) front
  pub starts : IsTrue (is_used s.mesh x)
  pub there : y ≡ origin_of s (last_side polygon)
  pub used : IsTrue (is_used s.mesh y)
  pub freely : (root : ℕ) (ways : ℕ → List ℕ) → AreWaysUp s split root ways
      → AreFreelyEqual s.mesh (approach_by ways x y (walks_loop walks true front)) approach

module _ {s : OrientedMesh} {split : SplitView} {polygon : PolygonView} (is_cut : IsCutSurface s split polygon) where
  open is_cut use {valid as o, tree as t, cut as c, some}

  -- The walks of spokes go the way of their loops, up to spurs.
  piece : (ways : ℕ → List ℕ) → AreWaysUp s split t.parents.root ways → (y : ℕ) → y ≡ origin_of s (last_side polygon)
      → (i : ℕ) (walk : List ℕ) → IsSpokeWalk s split polygon i walk
      → (AreFreelyEqual s.mesh (by_loop ways y y (spoke_loop s polygon t.parents.root ways i)) (y ∷ along_or_back true walk)
      × IsWay s.mesh y y (along_or_back true walk))
      × (AreFreelyEqual s.mesh (by_loop ways y y (backward t.parents.root (spoke_loop s polygon t.parents.root ways i)))
      (y ∷ along_or_back false walk)
      × IsWay s.mesh y y (along_or_back false walk))
  piece ways h y y_is i walk is =
      let root : ℕ = t.parents.root in
      let w : HasWays s.mesh root ways = has_ways s split o t ways h in
      let used : IsTrue (is_used s.mesh y) =
      subst (λ (x : ℕ). IsTrue (is_used s.mesh x)) (sym y_is) (last_used is_cut) in
      let known : GoesFrom s.mesh y y walk =
      subst (λ (x : ℕ). GoesFrom s.mesh x x walk) (sym y_is) (spoke_walk is_cut is) in
      let loop : List ℕ = spoke_loop s polygon root ways i in
      let loop_way : IsWay s.mesh root root loop = spoke_way is_cut ways h i in
      let whole : List ℕ = ways y ++ (backward root loop ++ backward y (ways y)) in
      let a : Loop s.mesh y = record {
        rest = whole;
        is_way = closed_way s.mesh root ways w y used (backward root loop) (home_way s.mesh root loop loop_way);
      } in
      let b : Loop s.mesh y = record { rest = known.rest; is_way = known.way } in
      let same : SameFreely a b =
      subst (AreFreelyEqual s.mesh (y ∷ whole)) known.walk_is
      (subst (λ (x : ℕ). AreFreelyEqual s.mesh (by_loop ways x x (backward root loop)) walk) (sym y_is) (is.freely root ways h)) in
      let turned : AreFreelyEqual s.mesh (y ∷ back y whole) (y ∷ back y known.rest) =
      (loops_make_a_free_group s.mesh y used).inv_same a b same in
      let home : known.rest ≡ along_or_back false walk = sym (ap (drop 1) known.walk_is) in
      let there : back y known.rest ≡ along_or_back true walk =
      sym (ap (λ (l : List ℕ). backward (get_or l 0 0) (drop 1 l)) known.walk_is ∙ backward_is y known.rest) in (
        (
          subst (λ (l : List ℕ). AreFreelyEqual s.mesh (by_loop ways y y loop) (y ∷ l)) there
              (subst (λ (l : List ℕ). AreFreelyEqual s.mesh (y ∷ l) (y ∷ back y known.rest))
              (back_by_loop s.mesh root ways w y used loop loop_way) turned),
          subst (IsWay s.mesh y y) there (way_home s.mesh y y known.rest known.way),
        ),
        (
          subst (λ (l : List ℕ). AreFreelyEqual s.mesh (y ∷ whole) (y ∷ l)) home same,
          subst (IsWay s.mesh y y) home known.way,
        ),
      )

  front_free : (ways : ℕ → List ℕ) → AreWaysUp s split t.parents.root ways → (y : ℕ) → y ≡ origin_of s (last_side polygon)
      → (walks : List (List ℕ)) → AreSpokeWalks s split polygon walks → (along : Bool) (path : List ℕ) → All (HasWalk walks) path
      → AreFreelyEqual s.mesh (by_loop ways y y (path_loop s polygon t.parents.root ways along path)) (y ∷ walks_loop walks along path)
  front_free ways h y y_is walks all along [] made =
      no_loop s.mesh t.parents.root ways (has_ways s split o t ways h) y
      (subst (λ (x : ℕ). IsTrue (is_used s.mesh x)) (sym y_is) (last_used is_cut))
  front_free ways h y y_is walks all true (i ∷ path) made =
      let root : ℕ = t.parents.root in
      let walk : List ℕ = get_or walks i [] in
      let one = (piece ways h y y_is i walk (all i (made 0 i (omega arith)))).0 in
      joined_loops s.mesh root ways (has_ways s split o t ways h) y
      (subst (λ (x : ℕ). IsTrue (is_used s.mesh x)) (sym y_is) (last_used is_cut))
      (spoke_loop s polygon root ways i) (path_loop s polygon root ways false path) (along_or_back true walk) (walks_loop walks false path)
      (spoke_way is_cut ways h i) one.1 one.0
      (front_free ways h y y_is walks all false path (λ k d l. made (suc k) d (omega arith)))
  front_free ways h y y_is walks all false (i ∷ path) made =
      let root : ℕ = t.parents.root in
      let walk : List ℕ = get_or walks i [] in
      let one = (piece ways h y y_is i walk (all i (made 0 i (omega arith)))).1 in
      joined_loops s.mesh root ways (has_ways s split o t ways h) y
      (subst (λ (x : ℕ). IsTrue (is_used s.mesh x)) (sym y_is) (last_used is_cut))
      (backward root (spoke_loop s polygon root ways i)) (path_loop s polygon root ways true path) (along_or_back false walk)
      (walks_loop walks true path)
      (home_way s.mesh root (spoke_loop s polygon root ways i) (spoke_way is_cut ways h i)) one.1 one.0
      (front_free ways h y y_is walks all true path (λ k d l. made (suc k) d (omega arith)))

  -- the loop of the last side, or the way back along it
  signed : (ways : ℕ → List ℕ) → AreWaysUp s split t.parents.root ways → (back_too : Bool)
      → IsWay s.mesh t.parents.root t.parents.root (signed_loop s polygon t.parents.root ways back_too)
  signed ways h back_too = by back_too
    where
      root : ℕ
      root = t.parents.root

      forth : IsWay s.mesh root root (last_side_loop s polygon root ways)
      forth =
          let z : ℕ = polygon.degree - 1 in
          way_on s.mesh root root root (dart_loop s ways (last_side polygon)) (path_loop s polygon root ways true (0 ∷ z ∷ []))
          (dart_loop_way s split o t ways h (last_side polygon) (side_in s split polygon c some z))
          (path_way is_cut ways h true (0 ∷ z ∷ []))

      by : (b : Bool) → IsWay s.mesh root root (signed_loop s polygon root ways b)
      by true = subst (IsWay s.mesh root root) (sym (backward_is root (last_side_loop s polygon root ways)))
          (way_home s.mesh root root (last_side_loop s polygon root ways) forth)
      by false = forth

  -- The loop is put in where the approach leads.
  put_in_there : (ways : ℕ → List ℕ) → AreWaysUp s split t.parents.root ways
      → (front path : List ℕ) (against : Bool) (x y : ℕ) (there turn more new : List ℕ)
      → IsWay s.mesh x y there → IsWay s.mesh y y turn → IsWay s.mesh x x more
      → AreFreelyEqual s.mesh (by_loop ways x y (path_loop s polygon t.parents.root ways true front)) (x ∷ there)
      → AreFreelyEqual s.mesh (y ∷ turn) (by_loop ways y y (signed_loop s polygon t.parents.root ways against))
      → AreFreelyEqual s.mesh (x ∷ more) (by_loop ways x x (path_loop s polygon t.parents.root ways true path))
      → AreFreelyEqual s.mesh (x ∷ put_behind x there turn more) new → AreFreelyEqual s.mesh new
      (by_loop ways x x
      (put_behind t.parents.root (path_loop s polygon t.parents.root ways true front) (signed_loop s polygon t.parents.root ways against)
      (path_loop s polygon t.parents.root ways true path)))
  put_in_there ways h front path against x y there turn more new there_way turn_way more_way a l m n =
      let root : ℕ = t.parents.root in
      let mesh : FaceList = s.mesh in
      let w : HasWays mesh root ways = has_ways s split o t ways h in
      let g = loops_make_a_free_group mesh root w.root_used in
      let f : Loop mesh root = record {
        rest = path_loop s polygon root ways true front;
        is_way = path_way is_cut ways h
            true front;
      } in
      let z : Loop mesh root = record {
        rest = signed_loop s polygon root ways against;
        is_way = signed ways h against;
      } in
      let p : Loop mesh root = record {
        rest = path_loop s polygon root ways true path;
        is_way = path_way is_cut ways h
            true path;
      } in
      let x_used : IsTrue (is_used mesh x) = start_used mesh x y there there_way in
      let y_used : IsTrue (is_used mesh y) = end_used mesh x y there there_way in
      let out : IsWay mesh x y (ways x ++ (f.rest ++ backward y (ways y))) =
      subst (λ (k : List ℕ). IsWay mesh x y (ways x ++ (f.rest ++ k))) (sym (backward_is y (ways y)))
      (whole_way mesh root ways w x y f x_used y_used) in
      let there_free : AreFreelyEqual mesh (x ∷ there) (by_loop ways x y f.rest) =
      (free_equality mesh).turn (by_loop ways x y f.rest) (x ∷ there) (way_walk mesh x y (ways x ++ (f.rest ++ backward y (ways y))) out) a
      in
      let there_loop : Loop mesh root = loop_of mesh root ways w x y there there_way in
      let turn_loop : Loop mesh root = loop_of mesh root ways w y y turn turn_way in
      let more_loop : Loop mesh root = loop_of mesh root ways w x x more more_way in
      let there_is : SameFreely there_loop f = loop_by mesh root ways w x y there f there_way there_free in
      let turn_is : SameFreely turn_loop z = loop_by mesh root ways w y y turn z turn_way l in
      let more_is : SameFreely more_loop p = loop_by mesh root ways w x x more p more_way m in
      let rest : List ℕ = there ++ (turn ++ (back x there ++ more)) in
      let rest_way : IsWay mesh x x rest =
      way_on mesh x y x there (turn ++ (back x there ++ more)) there_way
      (way_on mesh y y x turn (back x there ++ more) turn_way (way_on mesh y x x (back x there) more (way_home mesh x y there there_way)
      more_way)) in
      let inner : Loop mesh root = loop_in loop_mul loop_inv there_loop turn_loop more_loop in
      let outer : Loop mesh root = loop_in loop_mul loop_inv f z p in
      let inverse : SameFreely (loop_inv there_loop) (loop_inv f) = g.inv_same there_loop f there_is in
      let last : SameFreely (loop_mul (loop_inv there_loop) more_loop) (loop_mul (loop_inv f) p) =
      g.mul_same (loop_inv there_loop) (loop_inv f) more_loop p inverse more_is in
      let both : SameFreely (loop_mul turn_loop (loop_mul (loop_inv there_loop) more_loop)) (loop_mul z (loop_mul (loop_inv f) p)) =
      g.mul_same turn_loop z (loop_mul (loop_inv there_loop) more_loop) (loop_mul (loop_inv f) p) turn_is last in
      let all : SameFreely inner outer =
      g.mul_same there_loop f (loop_mul turn_loop (loop_mul (loop_inv there_loop) more_loop)) (loop_mul z (loop_mul (loop_inv f) p))
      there_is
      both in
      let worth : SameFreely (loop_of mesh root ways w x x rest rest_way) outer =
      g.on (loop_of mesh root ways w x x rest rest_way) inner outer (put_in mesh root ways w x y x there turn more there_way turn_way
      more_way
      rest_way) all in
      let by_outer : AreFreelyEqual mesh (x ∷ rest) (x ∷ (ways x ++ (outer.rest ++ back x (ways x)))) =
      by_own_loop mesh root ways w x x rest rest_way outer worth in
      let shape : x ∷ (ways x ++ (outer.rest ++ back x (ways x))) ≡ by_loop ways x x (put_behind root f.rest z.rest p.rest) =
      ap (λ (k : List ℕ). x ∷ (ways x ++ ((f.rest ++ (z.rest ++ (k ++ p.rest))) ++ back x (ways x)))) (sym (backward_is root f.rest))
      ∙ ap (λ (k : List ℕ). x ∷ (ways x ++ (put_behind root f.rest z.rest p.rest ++ k))) (sym (backward_is x (ways x))) in
      let own : AreFreelyEqual mesh (x ∷ rest) new =
      subst (λ (k : List ℕ). AreFreelyEqual mesh (x ∷ (there ++ (turn ++ (k ++ more)))) new) (backward_is x there) n in
      (free_equality mesh).on new (x ∷ rest) (by_loop ways x x (put_behind root f.rest z.rest p.rest))
      ((free_equality mesh).turn (x ∷ rest) new (way_walk mesh x x rest rest_way) own) (subst (AreFreelyEqual mesh (x ∷ rest)) shape
      by_outer)

  -- the way along the walks is the way along the loops, up the tree before it and down the tree behind it
  pub approach_free : {walks : List (List ℕ)} {front : List ℕ} {x y : ℕ} {approach : List ℕ} (ways : ℕ → List ℕ)
      → AreWaysUp s split t.parents.root ways → IsByTree s split polygon walks front x y approach
      → AreFreelyEqual s.mesh (by_loop ways x y (path_loop s polygon t.parents.root ways true front)) approach
  approach_free {walks} {front} {x} {y} {approach} ways h by =
      let f = free_equality s.mesh in
      let root : ℕ = t.parents.root in
      let w : HasWays s.mesh root ways = has_ways s split o t ways h in
      let path : List ℕ = path_loop s polygon root ways true front in
      let laid : List ℕ = walks_loop walks true front in
      let down : List ℕ = backward y (ways y) in
      let more : List ℕ = ways y ++ (path ++ down) in
      let there : IsWay s.mesh x y (ways x ++ down) =
      subst (λ (k : List ℕ). IsWay s.mesh x y (ways x ++ k)) (sym (backward_is y (ways y)))
      (way_on s.mesh x root y (ways x) (back y (ways y)) (w.way x by.starts) (way_home s.mesh y root (ways y) (w.way y by.used))) in
      f.on (by_loop ways x y path) (x ∷ ((ways x ++ down) ++ more)) approach
      (down_and_up s.mesh root ways w y by.used x (ways x) (path ++ down) (w.way x by.starts))
      (f.on (x ∷ ((ways x ++ down) ++ more)) (x ∷ ((ways x ++ down) ++ laid)) approach
      (behind f x y (ways x ++ down) more laid there (front_free ways h y by.there walks by.all true front by.made))
      (subst (λ (k : List ℕ). AreFreelyEqual s.mesh (x ∷ k) approach) (sym (append_assoc (ways x) down laid))
      (by.freely root ways h)))

  -- the approach is a way
  pub approach_goes : {walks : List (List ℕ)} {front : List ℕ} {x y : ℕ} {approach : List ℕ}
      → IsByTree s split polygon walks front x y approach → GoesFrom s.mesh x y approach
  approach_goes {walks} {front} {x} {y} {approach} by =
      let root : ℕ = t.parents.root in
      let ways : ℕ → List ℕ = up s split t in
      let h : AreWaysUp s split root ways = λ v used. up_path s split t v used in
      let w : HasWays s.mesh root ways = has_ways s split o t ways h in
      let loop : Loop s.mesh root = record {
        rest = path_loop s polygon root ways true front;
        is_way = path_way is_cut ways h true front;
      } in
      let way : IsWay s.mesh x y (ways x ++ (loop.rest ++ backward y (ways y))) =
      subst (λ (k : List ℕ). IsWay s.mesh x y (ways x ++ (loop.rest ++ k))) (sym (backward_is y (ways y)))
      (whole_way s.mesh root ways w x y loop by.starts by.used) in
      free_way s.mesh x y (ways x ++ (loop.rest ++ backward y (ways y))) approach way (approach_free ways h by)

  -- the loop of the last side is put in
  pub loop_put_in : {walks : List (List ℕ)} {front approach : List ℕ} {y : ℕ} {turn : Lifted} {against : Bool} (walk new : List ℕ)
      → IsLastLoop s split polygon against turn → IsByTree s split polygon walks front (get_or walk 0 0) y approach
      → IsWalk s.mesh walk → last_of walk ≡ get_or walk 0 0 → (IsWalk s.mesh approach
      → AreFreelyEqual s.mesh (get_or walk 0 0 ∷ put_behind (get_or walk 0 0) (drop 1 approach) (drop 1 turn.walk) (drop 1 walk)) new)
      → HasLoopIn s split polygon front against walk new
  loop_put_in {walks} {front} {approach} {y} {turn} {against} walk new last by w closed put root ways path h path_below old =
      let x : ℕ = get_or walk 0 0 in
      let own : AreWaysUp s split t.parents.root ways = own_ways o t root ways h in
      let same : t.parents.root ≡ root = root_is s split o t root ways h in
      let here : GoesFrom s.mesh x (last_of walk) walk = walk_goes s.mesh walk w in
      let there : GoesFrom s.mesh x y approach = approach_goes by in
      let round : GoesFrom s.mesh y y turn.walk =
      turn_goes_home s.mesh y turn.walk turn.moves.moves by.used
      (subst (λ (v : ℕ). apply_all s.mesh (v ∷ []) turn.moves.moves ≡ Some turn.walk) (sym by.there) last.leads.leads) in
      let home : IsWay s.mesh x x here.rest = subst (λ (v : ℕ). IsWay s.mesh x v here.rest) closed here.way in
      let there_rest : drop 1 approach ≡ there.rest = ap (drop 1) there.walk_is in
      let round_rest : drop 1 turn.walk ≡ round.rest = ap (drop 1) round.walk_is in
      let here_rest : drop 1 walk ≡ here.rest = ap (drop 1) here.walk_is in
      let out : AreFreelyEqual s.mesh (by_loop ways x y (path_loop s polygon t.parents.root ways true front)) (x ∷ there.rest) =
      subst (AreFreelyEqual s.mesh (by_loop ways x y (path_loop s polygon t.parents.root ways true front))) there.walk_is
      (approach_free ways own by) in
      let turned : AreFreelyEqual s.mesh (y ∷ round.rest) (by_loop ways y y (signed_loop s polygon t.parents.root ways against)) =
      subst (λ (l : List ℕ). AreFreelyEqual s.mesh l (by_loop ways y y (signed_loop s polygon t.parents.root ways against))) round.walk_is
      (subst (λ (v : ℕ). AreFreelyEqual s.mesh turn.walk (by_loop ways v v (signed_loop s polygon t.parents.root ways against)))
      (sym by.there) (last.freely t.parents.root ways own)) in
      let begun : AreFreelyEqual s.mesh (x ∷ here.rest) (by_loop ways x x (path_loop s polygon t.parents.root ways true path)) =
      subst (λ (l : List ℕ). AreFreelyEqual s.mesh l (by_loop ways x x (path_loop s polygon t.parents.root ways true path))) here.walk_is
      (subst (λ (r : ℕ). AreFreelyEqual s.mesh walk (by_loop ways x x (path_loop s polygon r ways true path))) (sym same) old) in
      let made : AreFreelyEqual s.mesh (x ∷ put_behind x there.rest round.rest here.rest) new =
      subst (λ (l : List ℕ). AreFreelyEqual s.mesh (x ∷ put_behind x l round.rest here.rest) new) there_rest
      (subst (λ (l : List ℕ). AreFreelyEqual s.mesh (x ∷ put_behind x (drop 1 approach) l here.rest) new) round_rest
      (subst (λ (l : List ℕ). AreFreelyEqual s.mesh (x ∷ put_behind x (drop 1 approach) (drop 1 turn.walk) l) new) here_rest
      (put (goes_walk there)))) in
      subst
      (λ (r : ℕ).
      AreFreelyEqual s.mesh new
      (by_loop ways x x
      (put_behind r (path_loop s polygon r ways true front) (signed_loop s polygon r ways against) (path_loop s polygon r ways true path))))
      same
      (put_in_there ways own front path against x y there.rest round.rest here.rest new there.way round.way home
      out turned begun made)

  pub is_ready : {walks : List (List ℕ)} {front approach : List ℕ} {x y : ℕ} {turn : Lifted} {against : Bool}
      → IsLastLoop s split polygon against turn → IsByTree s split polygon walks front x y approach → IsReady s.mesh x y approach turn
  is_ready {y = y} {turn} last by =
      let from_y : LeadsAtPeak s.mesh (y ∷ []) turn.moves turn.walk = grind arith in
      let there = approach_goes by in
      record {
        there = there;
        round = turn_goes_home s.mesh y turn.walk turn.moves.moves by.used from_y.leads;
        leads = subst (λ (v : ℕ). LeadsAtPeak s.mesh (v ∷ []) turn.moves turn.walk) (sym (goes_end there)) from_y;
      }
