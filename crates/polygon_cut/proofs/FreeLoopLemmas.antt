-- Equality of walks up to spurs alone is a congruence of walks: closed walks at a root, up to spurs, are a group.
use Rattle.polygon_cut.proofs.Common.{ℕ, [], ◌∷◌, ◌++◌, length, refl, IsTrue, list_in_context, one_after_another, list_undone, FaceList, is_used, IsSpurMove, AreFreelyEqual, all_raised, way_back, Remove}
use Rattle.std.proofs.lemmas.List.Elements.{All-nil, All-cons, All-append}
use Rattle.surf_model.proofs.FreeWalkLemmas.{spurs_raised, spurs_back}
use Rattle.polygon_cut.proofs.GroupLemmas.{IsGroup}
use Rattle.polygon_cut.proofs.WayLemmas.{Loop, loop_mul, loop_inv, loop_one}
use Rattle.polygon_cut.proofs.CongruenceLemmas.{IsWalkCongruence, loops_are_a_group}
use Rattle.polygon_cut.proofs.LoopLemmas.{spur_out}

pub free_equality : (mesh : FaceList) → IsWalkCongruence mesh (AreFreelyEqual mesh)
free_equality mesh = record {
  itself = λ walk. ([], All-nil IsSpurMove, refl);
  turn = λ a b w h. (way_back mesh h.0, spurs_back mesh h.0 h.1, list_undone mesh h.0 a b w h.2);
  on = λ a b c h k. (h.0 ++ k.0, All-append IsSpurMove h.0 k.0 h.1 k.1, one_after_another mesh h.0 k.0 a b c h.2 k.2);
  within = λ before a b after some h.
      (all_raised (length before) h.0, spurs_raised (length before) h.0 h.1, list_in_context mesh h.0 a b before after some h.2);
  spur = λ u w. (
    Remove 0 (record { 0 = w }) ∷ [],
    All-cons IsSpurMove (Remove 0 (record { 0 = w })) [] tt (All-nil IsSpurMove),
    rw (spur_out mesh u w) refl,
  );
}

-- The loops at a root, up to spurs.
abbrev pub SameFreely : {mesh : FaceList} {root : ℕ} → Loop mesh root → Loop mesh root → Type 0
SameFreely {mesh} {root} a b = AreFreelyEqual mesh (root ∷ a.rest) (root ∷ b.rest)

pub loops_make_a_free_group : (mesh : FaceList) (root : ℕ) (used : IsTrue (is_used mesh root))
    → IsGroup {X = Loop mesh root} SameFreely loop_mul loop_inv (loop_one mesh root used)
loops_make_a_free_group mesh root used = loops_are_a_group (free_equality mesh) root used
