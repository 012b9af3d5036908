-- What a move leaves: a walk with the same ends, from which the move back leads home.
use Rattle.surf_model.proofs.Common.{◌≡◌, ℕ, ◌+◌, ◌-◌, ◌<◌, Bool, not, List, [], ◌∷◌, ◌++◌, length, get_or, refl, ap, sym, ◌∙◌, subst, arith, append_assoc, length-append, common_steps, get_or-append-add, get_or_append_left, All-append, IsTrue, All, Some, FaceList, face_at, corners_from, is_used, apply, apply_all, Replaces, place_of_move, inverse_of, sides_of_move, way_back, IsWalk, HaveCommonEnds, Move, Insert, Remove, Across}
use Rattle.std.proofs.Math.Bool.{not-not}
use Rattle.surf_model.proofs.ReplacementLemmas.{by_replacing}
use Rattle.surf_model.proofs.ContextLemmas.{stays_walk, first_answer, one_after_another}
use Rattle.surf_model.proofs.EdgeLemmas.{edge_swap, tail_used, head_used}
use Rattle.surf_model.proofs.RoundLemmas.{corner_after, corners_before, first_corner, last_corner, meet}
use Rattle.surf_model.proofs.LinkLemmas.{Linked, links, walk_from, together, front_of, rest_of, round_linked, round_used, all_more, none_yet}

-- two lists with one first and one last entry
pub record AreAlike (part other : List ℕ) : Type 0 where
  pub first : ℕ
  pub last : ℕ
  pub part_rest : List ℕ
  pub part_front : List ℕ
  pub other_rest : List ℕ
  pub other_front : List ℕ
  pub part_begins : part ≡ first ∷ part_rest
  pub part_ends : part ≡ part_front ++ last ∷ []
  pub other_begins : other ≡ first ∷ other_rest
  pub other_ends : other ≡ other_front ++ last ∷ []

pub alike : (mesh : FaceList) (move : Move) (part other : List ℕ) → Replaces mesh move part other → AreAlike part other
alike mesh (Insert at via) part other h = record {
  first = h.0;
  last = h.0;
  part_rest = [];
  part_front = [];
  other_rest = via.0 ∷ h.0 ∷ [];
  other_front = h.0 ∷ via.0 ∷ [];
  part_begins = h.2;
  part_ends = h.2;
  other_begins = h.3;
  other_ends = h.3;
}
alike mesh (Remove at via) part other h = record {
  first = h.0;
  last = h.0;
  part_rest = via.0 ∷ h.0 ∷ [];
  part_front = h.0 ∷ via.0 ∷ [];
  other_rest = [];
  other_front = [];
  part_begins = h.1;
  part_ends = h.1;
  other_begins = h.2;
  other_ends = h.2;
}
alike mesh (Across at face corner forward taken) part other h =
    let ring : List ℕ = face_at mesh face.0 in
    let m : ℕ = length ring in
    let one = first_corner ring forward corner taken in
    let two = first_corner ring (not forward) corner (m - taken) in
    record {
      first = get_or ring corner 0;
      last = get_or ring (corner_after forward m corner taken) 0;
      part_rest = one.0;
      part_front = corners_before ring forward corner taken;
      other_rest = two.0;
      other_front = corners_before ring (not forward) corner (m - taken);
      part_begins = h.3 ∙ one.1;
      part_ends = h.3 ∙ last_corner ring forward corner taken;
      other_begins = h.4 ∙ two.1;
      other_ends = h.4 ∙ last_corner ring (not forward) corner (m - taken)
          ∙ ap (λ (k : ℕ). corners_before ring (not forward) corner (m - taken) ++ get_or ring k 0 ∷ [])
          (sym (meet forward m corner taken h.1 h.2));
    }

-- the new part is a way along edges, and all that it meets is used
other_linked : (mesh : FaceList) (move : Move) (part other : List ℕ) → Replaces mesh move part other → Linked mesh other
other_linked mesh (Insert at via) part other h = rw h.3 (h.1, (edge_swap mesh via.0 h.0 ∙ h.1, tt))
other_linked mesh (Remove at via) part other h = rw h.2 tt
other_linked mesh (Across at face corner forward taken) part other h = grind (arith, round_linked)

abbrev IsUsed : FaceList → ℕ → Type 0
IsUsed mesh v = IsTrue (is_used mesh v)

other_used : (mesh : FaceList) (move : Move) (part other : List ℕ) → Replaces mesh move part other → All (IsUsed mesh) part
    → All (IsUsed mesh) other
other_used mesh (Insert at via) part other h used = grind (arith, tail_used, all_more, head_used, none_yet)
other_used mesh (Remove at via) part other h used =
    let all : All (IsUsed mesh) (h.0 ∷ via.0 ∷ h.0 ∷ []) = subst (All (IsUsed mesh)) h.1 used in
    rw h.2 (all_more (IsUsed mesh) h.0 [] (all 0 0 (omega arith)) (none_yet (IsUsed mesh)))
other_used mesh (Across at face corner forward taken) part other h used = grind (arith, round_used)

-- the walk taken apart before the first entry of the part, and before its last
pub at_first : (before part after rest : List ℕ) (x : ℕ) → part ≡ x ∷ rest → before ++ part ++ after ≡ before ++ (x ∷ (rest ++ after))
at_first before part after rest x e = ap (λ (l : List ℕ). before ++ l ++ after) e ∙ append_assoc before (x ∷ rest) after

pub at_last : (before part after front : List ℕ) (x : ℕ) → part ≡ front ++ x ∷ [] → before ++ part ++ after ≡ before ++ front ++ (x ∷ after)
at_last before part after front x e = ap (λ (l : List ℕ). before ++ l ++ after) e ∙ simp append_assoc

replaced_linked : (mesh : FaceList) (before part other after : List ℕ) → AreAlike part other → Linked mesh other
    → Linked mesh (before ++ part ++ after) → Linked mesh (before ++ other ++ after)
replaced_linked mesh before part other after a linked h =
    let front : Linked mesh (before ++ a.first ∷ []) =
    front_of mesh a.first before (a.part_rest ++ after)
    (subst (Linked mesh) (at_first before part after a.part_rest a.first a.part_begins) h) in
    let rest : Linked mesh (a.last ∷ after) =
    rest_of mesh a.last (before ++ a.part_front) after
    (subst (Linked mesh) (at_last before part after a.part_front a.last a.part_ends) h) in
    let more : Linked mesh (a.other_front ++ a.last ∷ after) = grind (arith, together) in
    let same : a.other_front ++ a.last ∷ after ≡ a.first ∷ (a.other_rest ++ after) =
    sym (at_last [] other after a.other_front a.last a.other_ends) ∙ at_first [] other after a.other_rest a.first a.other_begins in
    let whole : Linked mesh (before ++ (a.first ∷ (a.other_rest ++ after))) =
    together mesh a.first before (a.other_rest ++ after) front (subst (Linked mesh) same more) in
    subst (Linked mesh) (sym (at_first before other after a.other_rest a.first a.other_begins)) whole

-- what holds of all entries holds of those in front, and of those behind
all_parts : (P : ℕ → Type 0) (front rest : List ℕ) → All P (front ++ rest) → All P front × All P rest
all_parts P front rest h = (
  λ k d l. subst P (get_or_append_left front rest d k l) (h k d (rw length-append (omega arith))),
  λ k d l. subst P (get_or-append-add front rest k d) (h (length front + k) d (rw length-append (omega arith))),
)

-- a move leads from a walk to a walk
pub keeps_walk : (mesh : FaceList) (walk next : List ℕ) (move : Move) → IsWalk mesh walk → apply mesh walk move ≡ Some next
    → IsWalk mesh next
keeps_walk mesh walk next move w e =
    let r = (by_replacing mesh walk next move w.starts).0 e in
    let a = alike mesh move r.part r.other r.replaces in
    let linked : Linked mesh (r.before ++ r.part ++ r.after) = subst (Linked mesh) r.walk_is (links mesh walk w) in
    let used : All (IsUsed mesh) (r.before ++ r.part ++ r.after) = subst (All (IsUsed mesh)) r.walk_is w.used in
    let two = all_parts (IsUsed mesh) (r.before ++ r.part) r.after used in
    let one = all_parts (IsUsed mesh) r.before r.part two.0 in
    let others : All (IsUsed mesh) (r.before ++ r.other ++ r.after) =
    All-append (IsUsed mesh) (r.before ++ r.other) r.after
    (All-append (IsUsed mesh) r.before r.other one.0 (other_used mesh move r.part r.other r.replaces one.1)) two.1 in
    walk_from mesh next (stays_walk mesh walk next move w.starts e) (subst (All (IsUsed mesh)) (sym r.next_is) others)
    (subst (Linked mesh) (sym r.next_is) (replaced_linked mesh r.before r.part r.other r.after a
    (other_linked mesh move r.part r.other r.replaces) linked))

-- the last entry of a list
abbrev end_of : List ℕ → ℕ
end_of xs = get_or xs (length xs - 1) 0

end_behind : (front rest : List ℕ) → 0 < length rest → end_of (front ++ rest) ≡ end_of rest
end_behind front rest some = grind (arith, common_steps)

same_start : (x : ℕ) (front rest others : List ℕ) → get_or (front ++ (x ∷ rest)) 0 0 ≡ get_or (front ++ (x ∷ others)) 0 0
same_start x [] rest others = refl
same_start x (a ∷ front) rest others = refl

-- a move keeps the ends
pub keeps_ends : (mesh : FaceList) (walk next : List ℕ) (move : Move) → 0 < length walk → apply mesh walk move ≡ Some next
    → HaveCommonEnds walk next
keeps_ends mesh walk next move start e =
    let r = (by_replacing mesh walk next move start).0 e in
    let a = alike mesh move r.part r.other r.replaces in
    let behind : 0 < length (a.last ∷ r.after) = omega arith in
    record {
      starts =
          ap (λ (l : List ℕ). get_or l 0 0) (r.walk_is ∙ at_first r.before r.part r.after a.part_rest a.first a.part_begins)
          ∙ same_start a.first r.before (a.part_rest ++ r.after) (a.other_rest ++ r.after)
          ∙ sym (ap (λ (l : List ℕ). get_or l 0 0) (r.next_is ∙ at_first r.before r.other r.after a.other_rest a.first a.other_begins));
      ends =
          ap end_of (r.walk_is ∙ at_last r.before r.part r.after a.part_front a.last a.part_ends)
          ∙ end_behind (r.before ++ a.part_front) (a.last ∷ r.after) behind
          ∙ sym (end_behind (r.before ++ a.other_front) (a.last ∷ r.after) behind)
          ∙ sym (ap end_of (r.next_is ∙ at_last r.before r.other r.after a.other_front a.last a.other_ends));
    }

place_back : (sides : ℕ) (move : Move) → place_of_move (inverse_of sides move) ≡ place_of_move move
place_back sides (Insert at via) = refl
place_back sides (Remove at via) = refl
place_back sides (Across at face corner forward taken) = refl

-- the move back replaces the new part by the old one
replaces_back : (mesh : FaceList) (move : Move) (before part other after : List ℕ) → Linked mesh (before ++ part ++ after)
    → Replaces mesh move part other
    → Replaces mesh (inverse_of (sides_of_move mesh move) move) other part
replaces_back mesh (Insert at via) before part other after linked h = (h.0, h.3, h.2)
replaces_back mesh (Remove at via) before part other after linked h =
    let open_walk : Linked mesh (before ++ (h.0 ∷ (via.0 ∷ h.0 ∷ after))) =
    subst (Linked mesh) (at_first before part after (via.0 ∷ h.0 ∷ []) h.0 h.1) linked in
    let spur : Linked mesh (h.0 ∷ via.0 ∷ h.0 ∷ after) = rest_of mesh h.0 before (via.0 ∷ h.0 ∷ after) open_walk in grind arith
replaces_back mesh (Across at face corner forward taken) before part other after linked h =
    let ring : List ℕ = face_at mesh face.0 in
    let left : length ring - (length ring - taken) ≡ taken = omega (arith, h.2) in (
      h.0,
      h.1,
      omega arith,
      h.4,
      h.3 ∙ ap (λ (b : Bool). corners_from ring b corner taken) (sym (not-not forward))
          ∙ ap (λ (k : ℕ). corners_from ring (not (not forward)) corner k) (sym left),
    )

-- a move is undone by the move back
pub undone : (mesh : FaceList) (walk next : List ℕ) (move : Move) → IsWalk mesh walk → apply mesh walk move ≡ Some next
    → apply mesh next (inverse_of (sides_of_move mesh move) move) ≡ Some walk
undone mesh walk next move w e =
    let r = (by_replacing mesh walk next move w.starts).0 e in
    let linked : Linked mesh (r.before ++ r.part ++ r.after) = subst (Linked mesh) r.walk_is (links mesh walk w) in
    let back : Move = inverse_of (sides_of_move mesh move) move in
    (by_replacing mesh next walk back (stays_walk mesh walk next move w.starts e)).1
    (record {
      before = r.before;
      part = r.other;
      other = r.part;
      after = r.after;
      walk_is = r.next_is;
      next_is = r.walk_is;
      place = r.place ∙ sym (place_back (sides_of_move mesh move) move);
      replaces = replaces_back mesh move r.before r.part r.other r.after linked r.replaces;
    })

-- the same of lists of moves
pub list_keeps_walk : (mesh : FaceList) (moves : List Move) (walk next : List ℕ) → IsWalk mesh walk
    → apply_all mesh walk moves ≡ Some next → IsWalk mesh next
list_keeps_walk mesh [] walk next w e = grind arith
list_keeps_walk mesh (move ∷ moves) walk next w e =
    let told = first_answer (λ x. apply_all mesh x moves) (apply mesh walk move) next e in
    list_keeps_walk mesh moves told.0 next (keeps_walk mesh walk told.0 move w told.1) told.2

pub list_keeps_ends : (mesh : FaceList) (moves : List Move) (walk next : List ℕ) → 0 < length walk → apply_all mesh walk moves ≡ Some next
    → HaveCommonEnds walk next
list_keeps_ends mesh [] walk next start e = grind arith
list_keeps_ends mesh (move ∷ moves) walk next start e =
    let told = first_answer (λ x. apply_all mesh x moves) (apply mesh walk move) next e in
    let one = keeps_ends mesh walk told.0 move start told.1 in
    let more = list_keeps_ends mesh moves told.0 next (stays_walk mesh walk told.0 move start told.1) told.2 in grind arith

pub list_undone : (mesh : FaceList) (moves : List Move) (walk next : List ℕ) → IsWalk mesh walk → apply_all mesh walk moves ≡ Some next
    → apply_all mesh next (way_back mesh moves) ≡ Some walk
list_undone mesh [] walk next w e = grind arith
list_undone mesh (move ∷ moves) walk next w e =
    let told = first_answer (λ x. apply_all mesh x moves) (apply mesh walk move) next e in
    let most : apply_all mesh next (way_back mesh moves) ≡ Some told.0 =
    list_undone mesh moves told.0 next (keeps_walk mesh walk told.0 move w told.1) told.2 in
    let back : Move = inverse_of (sides_of_move mesh move) move in
    let last : apply mesh told.0 back ≡ Some walk = undone mesh walk told.0 move w told.1 in
    let alone : apply_all mesh told.0 (back ∷ []) ≡ Some walk = rw last refl in
    one_after_another mesh (way_back mesh moves) (back ∷ []) next told.0 walk most alone
