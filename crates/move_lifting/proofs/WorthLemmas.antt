-- What a step on a path of spokes does to the loop of the path, up to spurs: nothing, but a turn across the quad of the last side puts the
-- loop of that side in.
use Rattle.move_lifting.proofs.Common.{rotation_system, OrientedMesh, IsOrientedSurface, rotations_of, IsCutSurface, spokes_in_front, signed_loop, IsFreelyPath, HasLoopIn, before, behind, Loops, spoke, root_is, up_is, backward_is, path_list, last_loop_as, last_loops, last_list, SameFreely, free_equality, free_group, IsGroup, sides_cross, loop_in, loop_out, free_spur, tree_ways, IsWay, back, loop_mul, loop_inv, loop_one, PolygonView, place_of, across, AreWaysUp, backward, by_loop, path_loop, put_behind, IsQuadWheel, upper_side, lower_side, loop_of_path, front_of_last, front_of_across, DownWorth, down_worth, polygon_wheel, spoke_at, AtPlace, at-place, old_way, new_way, IsTurned, is-turned, spur-is, quad_turned, from_spoke, from_vertex, ◌≡◌, ◌≢◌, ◌⊎◌, inl, inr, ℕ, suc, ◌+◌, ◌-◌, ◌<◌, Bool, true, false, not, List, [], ◌∷◌, ◌++◌, length, take, refl, ap, sym, ◌∙◌, subst, arith, take-append_seam, eq-eqb, ne_eqb, if◌then◌else◌, ◌==◌, slice_index, All, is_used, AreFreelyEqual, IsWalk, after_dart, SplitView, IsSplit, in_cotree, is_left}
use Rattle.polygon_cut.proofs.FreeQuadLemmas.{last_loop}
use Rattle.quad_system.proofs.PushWorthLemmas.{signed_loop as own_loop}
use Rattle.spoke_paths.specs.PathSteps.{spur_goes}
use Rattle.std.proofs.Common.{Some}
use Rattle.move_lifting.proofs.PathLemmas.{ends_at, quad_partner}

-- the ways round a quad, by the partner of the side
old_is : (rises : Bool) (d n : ℕ) (partner : ℕ → ℕ) (at_vertex : Bool) (a c : ℕ) (before after : List ℕ) → d ≡ n → c ≡ partner a
    → before ++ (old_way rises d at_vertex a c ++ after)
    ≡ (if rises then before ++ lower_side n partner at_vertex a after else before ++ upper_side n partner at_vertex a after)
old_is true d n partner at_vertex a c before after same e = grind (arith, before)
old_is false d n partner at_vertex a c before after same e = grind (arith, before)

new_is : (rises : Bool) (d n : ℕ) (partner : ℕ → ℕ) (at_vertex : Bool) (a c : ℕ) (before after : List ℕ) → d ≡ n → c ≡ partner a
    → before ++ (new_way rises d at_vertex a c ++ after)
    ≡ (if rises then before ++ upper_side n partner at_vertex a after else before ++ lower_side n partner at_vertex a after)
new_is true d n partner at_vertex a c before after same e = grind (arith, before)
new_is false d n partner at_vertex a c before after same e = grind (arith, before)

-- the spokes of a way that the loop goes in behind
own_front : (last a c k : ℕ) (at_vertex : Bool) → a ≡ last → c ≡ k
    → (if a == last then (if at_vertex then [] else (c + 1) ∷ []) else (if at_vertex then a ∷ (a + 1) ∷ [] else last ∷ [])) ≡ front_of_last
    k at_vertex
own_front last a c k true own other = rw (eq-eqb a last own) refl
own_front last a c k false own other = rw (eq-eqb a last own) (ap (λ n. n ∷ []) (let e : c + 1 ≡ suc k = omega (arith, other) in e))

other_front : (last a c k : ℕ) (at_vertex : Bool) → a ≢ last → a ≡ k
    → (if a == last then (if at_vertex then [] else (c + 1) ∷ []) else (if at_vertex then a ∷ (a + 1) ∷ [] else last ∷ []))
    ≡ front_of_across last k at_vertex
other_front last a c k true apart other = grind arith
other_front last a c k false apart other = rw (ne_eqb a last apart) refl

-- what a turn does to the loop of the spokes
pub record TurnWorth (s : OrientedMesh) (split : SplitView) (o : IsOrientedSurface s) (t : IsSplit s split) (polygon : PolygonView)
    (rises : Bool) (at a c : ℕ) (path next : List ℕ) : Type 0 where
  pub free : a ≢ polygon.degree - 1 → c ≢ polygon.degree - 1
      → SameFreely (loop_of_path s split o t polygon path) (loop_of_path s split o t polygon next)
  pub costly : (a ≡ polygon.degree - 1) ⊎ (c ≡ polygon.degree - 1) → SameFreely (loop_of_path s split o t polygon next)
      (loop_in loop_mul loop_inv (loop_of_path s split o t polygon (spokes_in_front (polygon.degree - 1) path at a c))
      (own_loop s split o t polygon rises)
      (loop_of_path s split o t polygon path))

module _ {s : OrientedMesh} {split : SplitView} {polygon : PolygonView} (is_cut : IsCutSurface s split polygon) where
  open is_cut use {valid as o, tree as t, cut, some}

  abbrev I : List ℕ → Loops s split t
  I path = loop_of_path s split o t polygon path

  abbrev G : IsGroup {X = Loops s split t} SameFreely loop_mul loop_inv (loop_one s.mesh t.parents.root t.parents.root_used)
  G = free_group s split t

  -- a turn of the upper way to the lower one, and back
  free_turn : (rises : Bool) (path next upper lower : List ℕ) → path ≡ (if rises then lower else upper)
      → next ≡ (if rises then upper else lower) → SameFreely (I upper) (I lower) → SameFreely (I path) (I next)
  free_turn true path next upper lower p n h =
      subst (λ (l : List ℕ). SameFreely (I l) (I next)) (sym p)
      (subst (λ (l : List ℕ). SameFreely (I lower) (I l)) (sym n) (G.turn (I upper) (I lower) h))
  free_turn false path next upper lower p n h =
      subst (λ (l : List ℕ). SameFreely (I l) (I next)) (sym p) (subst (λ (l : List ℕ). SameFreely (I upper) (I l)) (sym n) h)

  loop_turn : (rises : Bool) (path next upper lower front given : List ℕ) → path ≡ (if rises then lower else upper)
      → next ≡ (if rises then upper else lower) → given ≡ front
      → SameFreely (I lower) (loop_in loop_mul loop_inv (I front) (last_loop s split o t polygon) (I upper))
      → SameFreely (I next) (loop_in loop_mul loop_inv (I given) (own_loop s split o t polygon rises) (I path))
  loop_turn true path next upper lower front given p n f h =
      let loop : Loops s split t = last_loop s split o t polygon in
      subst (λ (l : List ℕ). SameFreely (I next) (loop_in loop_mul loop_inv (I l) (loop_inv loop) (I path))) (sym f)
      (subst (λ (l : List ℕ). SameFreely (I next) (loop_in loop_mul loop_inv (I front) (loop_inv loop) (I l))) (sym p)
      (subst (λ (l : List ℕ). SameFreely (I l) (loop_in loop_mul loop_inv (I front) (loop_inv loop) (I lower))) (sym n)
      (loop_out SameFreely loop_mul loop_inv (loop_one s.mesh t.parents.root t.parents.root_used) G (I front) loop (I upper) (I lower) h)))
  loop_turn false path next upper lower front given p n f h =
      let loop : Loops s split t = last_loop s split o t polygon in
      subst (λ (l : List ℕ). SameFreely (I next) (loop_in loop_mul loop_inv (I l) loop (I path))) (sym f)
      (subst (λ (l : List ℕ). SameFreely (I next) (loop_in loop_mul loop_inv (I front) loop (I l))) (sym p)
      (subst (λ (l : List ℕ). SameFreely (I l) (loop_in loop_mul loop_inv (I front) loop (I upper))) (sym n) h))

  pub turn_worth : (rises : Bool) (at a c : ℕ) (path next : List ℕ)
      → from_spoke at true (quad_turned polygon.places a c rises) path ≡ Some next → TurnWorth s split o t polygon rises at a c path next
  turn_worth rises at a c path next e = record { free = free; costly = costly }
    where
      z : ℕ
      z = polygon.degree - 1

      k : ℕ
      k = across (rotations_of s) polygon (polygon.degree - 1)

      r : AtPlace (quad_turned polygon.places a c rises) at path next
      r = at-place (quad_turned polygon.places a c rises) at path next e

      flag : Bool
      flag = from_vertex at

      turned : IsTurned polygon.places a c rises flag r.part r.instead
      turned = is-turned polygon.places a c rises flag r.part r.instead r.does

      same : length polygon.places ≡ polygon.degree
      same = (cut.places some).each_spoke

      q : IsQuadWheel polygon.degree (place_of polygon) (spoke_at polygon) (across (rotations_of s) polygon)
      q = polygon_wheel s split o t polygon cut some

      z_in : polygon.degree - 1 < polygon.degree
      z_in = omega arith

      a_in : a < polygon.degree
      a_in = subst (λ n. a < n) same turned.quad.a_below

      is : c ≡ across (rotations_of s) polygon a
      is = quad_partner is_cut turned.quad

      back_is : across (rotations_of s) polygon c ≡ a
      back_is = ap (across (rotations_of s) polygon) is ∙ q.partner_back a a_in

      worth : DownWorth s split o t polygon flag a r.before turned.after
      worth = down_worth s split o t polygon cut some flag a r.before turned.after a_in (ends_at r.before ∙ ap from_vertex r.long)

      upper : List ℕ
      upper = r.before ++ upper_side polygon.degree (across (rotations_of s) polygon) flag a turned.after

      lower : List ℕ
      lower = r.before ++ lower_side polygon.degree (across (rotations_of s) polygon) flag a turned.after

      path_is : path ≡ (if rises then lower else upper)
      path_is =
          r.path_is ∙ ap (λ (l : List ℕ). r.before ++ l) turned.from
          ∙ old_is rises (length polygon.places) polygon.degree (across (rotations_of s) polygon) flag a c r.before turned.after same is

      next_is : next ≡ (if rises then upper else lower)
      next_is =
          r.next_is ∙ ap (λ (l : List ℕ). r.before ++ l) turned.to
          ∙ new_is rises (length polygon.places) polygon.degree (across (rotations_of s) polygon) flag a c r.before turned.after same is

      front_is : take at path ≡ r.before
      front_is = ap (take at) r.path_is ∙ ap (λ n. take n (r.before ++ r.part)) (sym r.long) ∙ take-append_seam r.before r.part

      spokes_are : (extra : List ℕ)
          → (if a == z then (if flag then [] else (c + 1) ∷ []) else (if flag then a ∷ (a + 1) ∷ [] else z ∷ [])) ≡ extra
          → spokes_in_front (polygon.degree - 1) path at a c ≡ r.before ++ extra
      spokes_are extra h =
          ap (λ (l : List ℕ). l ++ (if a == z then (if from_vertex at then [] else (c + 1) ∷ []) else
          (if from_vertex at then a ∷ (a + 1) ∷ [] else z ∷ []))) front_is
          ∙ ap (λ (l : List ℕ). r.before ++ l) h

      apart : across (rotations_of s) polygon (polygon.degree - 1) ≢ polygon.degree - 1
      apart =
          (sides_cross (rotations_of s) (after_dart (rotations_of s) (λ e. not (in_cotree split e))) (is_left split) polygon
          (rotation_system s o)
          (cut.labels some)).other (polygon.degree - 1) z_in

      free : a ≢ polygon.degree - 1 → c ≢ polygon.degree - 1 → SameFreely (I path) (I next)
      free not_last not_other =
          free_turn rises path next upper lower path_is next_is
          (worth.other not_last (λ opposite. not_other (is ∙ ap (across (rotations_of s) polygon) opposite
          ∙ q.partner_back (polygon.degree - 1) z_in)))

      costly : (a ≡ polygon.degree - 1) ⊎ (c ≡ polygon.degree - 1)
          → SameFreely (I next) (loop_in loop_mul loop_inv (I (spokes_in_front (polygon.degree - 1) path at a c))
          (own_loop s split o t polygon rises) (I path))
      costly (inl own) =
          loop_turn rises path next upper lower (r.before ++ front_of_last k flag) (spokes_in_front (polygon.degree - 1) path at a c)
          path_is next_is
          (spokes_are (front_of_last k flag) (own_front z a c k flag own (is ∙ ap (across (rotations_of s) polygon) own))) (worth.last own)
      costly (inr other) =
          let opposite : a ≡ k = sym back_is ∙ ap (across (rotations_of s) polygon) other in
          let not_last : a ≢ z = λ own. apart (sym opposite ∙ own) in
          loop_turn rises path next upper lower (r.before ++ front_of_across z k flag) (spokes_in_front (polygon.degree - 1) path at a c)
          path_is next_is
          (spokes_are (front_of_across z k flag) (other_front z a c k flag not_last opposite)) (worth.opposite opposite)

  -- a spur that goes leaves the loop as it is
  pub spur_worth : (at : ℕ) (path next : List ℕ) → from_spoke at true (λ at_vertex. spur_goes) path ≡ Some next
      → SameFreely (I path) (I next)
  spur_worth at path next e =
      let r : AtPlace (λ at_vertex. spur_goes) at path next = at-place (λ at_vertex. spur_goes) at path next e in
      let goes = spur-is r.part r.instead r.does in
      let x : ℕ = goes.x in
      let from : path ≡ r.before ++ (x ∷ x ∷ r.instead) = r.path_is ∙ ap (λ (l : List ℕ). r.before ++ l) goes.is in
      subst (λ (l : List ℕ). SameFreely (I l) (I next)) (sym from)
      (subst (λ (l : List ℕ). SameFreely (I (r.before ++ (x ∷ x ∷ r.instead))) (I l)) (sym r.next_is)
      (free_spur SameFreely loop_mul loop_inv (loop_one s.mesh t.parents.root t.parents.root_used) G (spoke s split o t polygon) r.before
      r.instead x))

  -- The loops of spokes as lists, by ways up the tree.
  abbrev AtRoot : (ℕ → (ℕ → List ℕ) → Type 0) → Type 0
  AtRoot P = (ways : ℕ → List ℕ) → AreWaysUp s split t.parents.root ways → P t.parents.root ways

  any_root : (P : ℕ → (ℕ → List ℕ) → Type 0) → AtRoot P → (root : ℕ) (ways : ℕ → List ℕ) → AreWaysUp s split root ways → P root ways
  any_root P at_root root ways h =
      subst (λ x. P x ways) (root_is s split o t root ways h)
      (at_root ways (subst (λ x. AreWaysUp s split x ways) (sym (root_is s split o t root ways h)) h))

  list_of : (ways : ℕ → List ℕ) → AreWaysUp s split t.parents.root ways → (path : List ℕ)
      → (I path).rest ≡ path_loop s polygon t.parents.root ways true path
  list_of ways h path = sym (path_list s split o t polygon cut some ways h true path)

  -- equal loops are equal by lists
  pub same_lists : (path next : List ℕ) → SameFreely (I path) (I next) → (root : ℕ) (ways : ℕ → List ℕ) → AreWaysUp s split root ways
      → AreFreelyEqual s.mesh (root ∷ path_loop s polygon root ways true path) (root ∷ path_loop s polygon root ways true next)
  same_lists path next same =
      any_root (λ root ways. AreFreelyEqual s.mesh (root ∷ path_loop s polygon root ways true path)
      (root ∷ path_loop s polygon root ways true next))
      (λ ways h.
      subst (λ (l : List ℕ). AreFreelyEqual s.mesh (t.parents.root ∷ l) (t.parents.root ∷ path_loop s polygon t.parents.root ways true
      next)) (list_of ways h path)
      (subst (λ (l : List ℕ). AreFreelyEqual s.mesh (t.parents.root ∷ (I path).rest) (t.parents.root ∷ l)) (list_of ways h next) same))

  -- the loop of the last side, or the way back along it, as a list
  other_loop : Bool → Loops s split t
  other_loop true = loop_inv (last_loop_as s split o t polygon)
  other_loop false = last_loop_as s split o t polygon

  other_same : (rises : Bool) → SameFreely (own_loop s split o t polygon rises) (other_loop rises)
  unfolding other_loop
  other_same true = G.inv_same (last_loop s split o t polygon) (last_loop_as s split o t polygon) (last_loops s split o t polygon)
  other_same false = last_loops s split o t polygon

  other_list : (rises : Bool) (ways : ℕ → List ℕ) → AreWaysUp s split t.parents.root ways
      → (other_loop rises).rest ≡ signed_loop s polygon t.parents.root ways rises
  unfolding other_loop
  other_list true ways h = grind (arith, back, last_list, backward_is)
  other_list false ways h = last_list s split o t polygon cut some ways h

  pub loop_lists : (rises : Bool) (path front next : List ℕ)
      → SameFreely (I next) (loop_in loop_mul loop_inv (I front) (own_loop s split o t polygon rises) (I path))
      → (root : ℕ) (ways : ℕ → List ℕ) → AreWaysUp s split root ways → AreFreelyEqual s.mesh
      (root ∷ put_behind root (path_loop s polygon root ways true front) (signed_loop s polygon root ways rises)
      (path_loop s polygon root ways true path))
      (root ∷ path_loop s polygon root ways true next)
  loop_lists rises path front next same =
      any_root
      (λ root ways. AreFreelyEqual s.mesh
      (root ∷ put_behind root (path_loop s polygon root ways true front) (signed_loop s polygon root ways rises)
      (path_loop s polygon root ways true path))
      (root ∷ path_loop s polygon root ways true next))
      (λ ways h.
      let root : ℕ = t.parents.root in
      let a : Loops s split t = I path in
      let f : Loops s split t = I front in
      let own : Loops s split t = own_loop s split o t polygon rises in
      let other : Loops s split t = other_loop rises in
      let tail : Loops s split t = loop_mul (loop_inv f) a in
      let put : SameFreely (I next) (loop_in loop_mul loop_inv f other a) =
      G.on (I next) (loop_in loop_mul loop_inv f own a) (loop_in loop_mul loop_inv f other a) same
      (G.mul_same f f (loop_mul own tail) (loop_mul other tail) (G.itself f)
      (G.mul_same own other tail tail (other_same rises) (G.itself tail))) in
      let F : List ℕ = path_loop s polygon root ways true front in
      let shape : f.rest ++ (other.rest ++ (back root f.rest ++ a.rest))
      ≡ put_behind root F (signed_loop s polygon root ways rises) (path_loop s polygon root ways true path) =
      ap (λ (l : List ℕ). l ++ (other.rest ++ (back root l ++ a.rest))) (list_of ways h front)
      ∙ ap (λ (l : List ℕ). F ++ (l ++ (back root F ++ a.rest))) (other_list rises ways h)
      ∙ ap (λ (l : List ℕ). F ++ (signed_loop s polygon root ways rises ++ (l ++ a.rest))) (sym (backward_is root F))
      ∙ ap (λ (l : List ℕ). F ++ (signed_loop s polygon root ways rises ++ (backward root F ++ l))) (list_of ways h path) in
      subst (λ (l : List ℕ). AreFreelyEqual s.mesh (root ∷ l) (root ∷ path_loop s polygon root ways true next)) shape
      (subst (λ (l : List ℕ). AreFreelyEqual s.mesh (root ∷ (f.rest ++ (other.rest ++ (back root f.rest ++ a.rest)))) (root ∷ l))
      (list_of ways h next)
      (G.turn (I next) (loop_in loop_mul loop_inv f other a) put)))

  -- walks by way of equal loops are equal
  by_same : (x : ℕ) → is_used s.mesh x ≡ true → (one two : ℕ → (ℕ → List ℕ) → List ℕ)
      → ((root : ℕ) (ways : ℕ → List ℕ) → AreWaysUp s split root ways → AreFreelyEqual s.mesh (root ∷ one root ways) (root ∷ two root ways))
      → (root : ℕ) (ways : ℕ → List ℕ) → AreWaysUp s split root ways
      → AreFreelyEqual s.mesh (by_loop ways x x (one root ways)) (by_loop ways x x (two root ways))
  by_same x used one two same =
      any_root (λ root ways. AreFreelyEqual s.mesh (by_loop ways x x (one root ways)) (by_loop ways x x (two root ways)))
      (λ ways h.
      let root : ℕ = t.parents.root in
      let way : IsWay s.mesh x root (ways x) =
      subst (IsWay s.mesh x root) (sym (up_is s split o t ways h x used)) ((tree_ways s split o t).way x used) in
      behind (free_equality s.mesh) x root (ways x) (one root ways ++ backward x (ways x)) (two root ways ++ backward x (ways x)) way
      (before (free_equality s.mesh) root (one root ways) (two root ways) (backward x (ways x)) (same root ways h)))

  -- A step that costs nothing leaves the walk as it is, and one across the quad of the last side asks for the loop.
  pub walk_stays : (path next walk : List ℕ) → IsWalk s.mesh walk → SameFreely (I path) (I next) → IsFreelyPath s split polygon path walk
      → IsFreelyPath s split polygon next walk
  walk_stays path next walk w same free root ways h =
      let x : ℕ = slice_index walk 0 in
      (free_equality s.mesh).on walk (by_loop ways x x (path_loop s polygon root ways true path))
      (by_loop ways x x (path_loop s polygon root ways true next)) (free root ways h)
      (by_same x (w.used 0 0 w.starts) (λ r u. path_loop s polygon r u true path) (λ r u. path_loop s polygon r u true next)
      (same_lists path next same) root ways h)

  pub walk_changes : (rises : Bool) (path front next old new : List ℕ) → IsWalk s.mesh old → slice_index new 0 ≡ slice_index old 0
      → All (λ i. i < polygon.degree) path
      → SameFreely (I next) (loop_in loop_mul loop_inv (I front) (own_loop s split o t polygon rises) (I path))
      → HasLoopIn s split polygon front rises old new → IsFreelyPath s split polygon path old → IsFreelyPath s split polygon next new
  walk_changes rises path front next old new w starts below same puts free root ways h =
      let x : ℕ = slice_index old 0 in
      let put : ℕ → (ℕ → List ℕ) → List ℕ = λ r u. put_behind r (path_loop s polygon r u true front) (signed_loop s polygon r u rises)
      (path_loop s polygon r u true path) in
      subst (λ y. AreFreelyEqual s.mesh new (by_loop ways y y (path_loop s polygon root ways true next))) (sym starts)
      ((free_equality s.mesh).on new (by_loop ways x x (put root ways)) (by_loop ways x x (path_loop s polygon root ways true next))
      (puts root ways path h below (free root ways h))
      (by_same x (w.used 0 0 w.starts) put (λ r u. path_loop s polygon r u true next) (loop_lists rises path front next same) root ways h))
