-- Homotopy is a congruence of walks: closed walks at a root, up to homotopy, are a group, and walks are products of the loops of their
-- darts, where a way leads from each vertex to the root.
use Rattle.polygon_cut.proofs.Common.{◌≡◌, ℕ, List, [], ◌∷◌, ◌++◌, length, refl, arith, IsTrue, Some, list_in_context, one_after_another, by_replacing, list_undone, FaceList, is_used, apply, Homotopic, all_raised, way_back, Remove}
use Rattle.polygon_cut.proofs.GroupLemmas.{IsGroup}
pub use Rattle.polygon_cut.proofs.WayLemmas.{
  IsWay,
  back,
  way_walk,
  start_used,
  end_used,
  way_on,
  way_home,
  back_back,
  append_none,
  Loop,
  loop_mul,
  loop_inv,
  loop_one,
  HasWays,
  loop_of,
}
use Rattle.polygon_cut.proofs.CongruenceLemmas as Congruence
use Rattle.polygon_cut.proofs.CongruenceLemmas.{IsWalkCongruence}

-- a spur goes out
pub spur_out : (mesh : FaceList) (u w : ℕ) → apply mesh (u ∷ w ∷ u ∷ []) (Remove 0 (record { 0 = w })) ≡ Some (u ∷ [])
spur_out mesh u w =
    (by_replacing mesh (u ∷ w ∷ u ∷ []) (u ∷ []) (Remove 0 (record { 0 = w })) (omega arith)).1
    (record {
      before = [];
      part = u ∷ w ∷ u ∷ [];
      other = u ∷ [];
      after = [];
      walk_is = refl;
      next_is = refl;
      place = refl;
      replaces = (u, refl, refl);
    })

pub homotopy : (mesh : FaceList) → IsWalkCongruence mesh (Homotopic mesh)
homotopy mesh = record {
  itself = λ walk. ([], refl);
  turn = λ a b w h. (way_back mesh h.0, list_undone mesh h.0 a b w h.1);
  on = λ a b c h k. (h.0 ++ k.0, one_after_another mesh h.0 k.0 a b c h.1 k.1);
  within = λ before a b after some h. (all_raised (length before) h.0, list_in_context mesh h.0 a b before after some h.1);
  spur = λ u w. (Remove 0 (record { 0 = w }) ∷ [], rw (spur_out mesh u w) refl);
}

-- The loops at a root, up to homotopy.
abbrev pub SameLoop : {mesh : FaceList} {root : ℕ} → Loop mesh root → Loop mesh root → Type 0
SameLoop {mesh} {root} a b = Homotopic mesh (root ∷ a.rest) (root ∷ b.rest)

pub loops_make_a_group : (mesh : FaceList) (root : ℕ) (used : IsTrue (is_used mesh root))
    → IsGroup {X = Loop mesh root} SameLoop loop_mul loop_inv (loop_one mesh root used)
loops_make_a_group mesh root used = Congruence.loops_are_a_group (homotopy mesh) root used

-- ways with homotopic loops are homotopic
pub from_loops : (mesh : FaceList) (root : ℕ) (up : ℕ → List ℕ) (ways : HasWays mesh root up) (u v : ℕ) (rest others : List ℕ)
    → (h : IsWay mesh u v rest) (k : IsWay mesh u v others)
    → SameLoop (loop_of mesh root up ways u v rest h) (loop_of mesh root up ways u v others k) → Homotopic mesh (u ∷ rest) (u ∷ others)
from_loops mesh root up ways u v rest others h k same = Congruence.from_loops (homotopy mesh) ways u v rest others h k same

-- the loop of no dart is nothing, and that of a first dart and others is the product
pub no_dart : (mesh : FaceList) (root : ℕ) (up : ℕ → List ℕ) (ways : HasWays mesh root up) (u v : ℕ) (h : IsWay mesh u v [])
    → SameLoop (loop_of mesh root up ways u v [] h) (loop_one mesh root ways.root_used)
no_dart mesh root up ways u v h = Congruence.no_dart (homotopy mesh) ways u v h

pub first_dart : (mesh : FaceList) (root : ℕ) (up : ℕ → List ℕ) (ways : HasWays mesh root up) (u w v : ℕ) (rest : List ℕ)
    → (h : IsWay mesh u v (w ∷ rest)) (one : IsWay mesh u w (w ∷ [])) (more : IsWay mesh w v rest)
    → SameLoop (loop_of mesh root up ways u v (w ∷ rest) h)
    (loop_mul (loop_of mesh root up ways u w (w ∷ []) one) (loop_of mesh root up ways w v rest more))
first_dart mesh root up ways u w v rest h one more = Congruence.first_dart (homotopy mesh) ways u w v rest h one more
