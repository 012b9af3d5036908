-- A walk that is led off the cotree, step by step: what holds on the way.
use Rattle.move_lifting.proofs.Common.{one_more, leads_nowhere, last_entry, dart_between, darts_of, edge_of, OrientedMesh, IsOrientedSurface, rotations_of, IsDartFrom, beyond, IsFaceBelow, IsCrossed, LeadsAtPeak, load_of, StaysWithin, IsLedOn, TrackView, GoesOn, GrowsOrShrinks, last_of, FaceStep, IsOffCotree, ◌≡◌, inl, inr, ℕ, suc, ◌+◌, ◌-◌, ◌<◌, ◌≤◌, Bool, true, false, not, max, List, [], ◌∷◌, ◌++◌, length, take, drop, get_or, refl, ap, sym, ◌∙◌, subst, arith, append_assoc, length-append, common_steps, map-append, length-map, length-drop, append-nil, reverse-append, length-reverse, get_or_append_left, Some, reverse, Linked, together, round_linked, by_replacing, length-corners_from, corner_after, corners_before, last_corner, FaceList, face_at, next_corner, corners_from, is_edge, IsFaceList, IsFace, HasNoSpur, PeakedMoves, apply, numbers, IsWalk, darts, Across, VertexName, SplitView, IsSplit, in_cotree}
use Rattle.move_lifting.proofs.LeavingLemmas.{crossed_leaves}
use Rattle.move_lifting.proofs.ListLemmas.{read_on, one_no_spur}
use Rattle.move_lifting.proofs.RoundLemmas.{before-from, rest_turned, rest_ends}
use Rattle.move_lifting.proofs.RestLemmas.{load, load-join, load_long, pair_weight, pair_positive, pair_most, rest_falls}
use Rattle.move_lifting.proofs.WithinLemmas.{load-joined, darts_weigh}
use Rattle.move_lifting.proofs.LedLemmas.{last-behind, last-push, led_after, led_behind, led_itself}

-- keeping off the cotree: a part in front does, and one more dart that is not of the cotree
pub avoids_front : (s : OrientedMesh) (split : SplitView) (front rest : List ℕ) → IsOffCotree s split (front ++ rest)
    → IsOffCotree s split front
avoids_front s split front rest h k d l from =
    let more : k + 1 < length (front ++ rest) = omega (arith, length-append front rest, l) in
    let one : get_or front k 0 ≡ get_or (front ++ rest) k 0 = sym (get_or_append_left front rest 0 k (omega arith)) in
    let two : get_or front (k + 1) 0 ≡ get_or (front ++ rest) (k + 1) 0 = sym (get_or_append_left front rest 0 (k + 1) l) in
    h k d more (subst (λ (x : ℕ). IsDartFrom (rotations_of s) x (get_or (front ++ rest) (k + 1) 0) d) one
    (subst (λ (x : ℕ). IsDartFrom (rotations_of s) (get_or front k 0) x d) two from))

pub avoids_on : (s : OrientedMesh) (split : SplitView) (walk : List ℕ) (v : ℕ) → 0 < length walk → IsOffCotree s split walk
    → ((d : ℕ) → IsDartFrom (rotations_of s) (last_of walk) v d → in_cotree split (edge_of s d) ≡ false)
    → IsOffCotree s split (walk ++ v ∷ [])
avoids_on s split walk v some h last k d l from = grind (arith, common_steps)

-- what holds while a walk is led on to a vertex: so many steps are done, and the vertices that are still to come are pending, the next
-- one last
pub record IsUnderWay (s : OrientedMesh) (split : SplitView) (behind to : ℕ) (begun : TrackView) (track : TrackView) (pending : List ℕ)
    (steps : ℕ) : Type 0 where
  pub some : 0 < length track.walk
  pub no_spur : HasNoSpur track.walk
  pub off_cotree : IsOffCotree s split track.walk
  pub linked : Linked s.mesh (last_of track.walk ∷ reverse pending)
  pub falls : (t : IsSplit s split) → load s split t (last_of track.walk ∷ reverse pending) + steps ≤ darts_of s
  pub long : length track.walk ≤ length begun.walk + steps
  pub led : IsLedOn s split behind (begun.walk ++ to ∷ []) begun.list (track.walk ++ reverse pending) track.list

-- at the start, with cells in reserve
pub under_way : (s : OrientedMesh) (split : SplitView) → IsOrientedSurface s → (behind to spare : ℕ) (begun track : TrackView)
    (pending : List ℕ)
    → track ≡ record begun { spare = spare } → pending ≡ to ∷ []
    → 0 < length begun.walk → HasNoSpur begun.walk → IsOffCotree s split begun.walk → is_edge s.mesh (last_of begun.walk) to ≡ true
    → IsUnderWay s split behind to begun track pending 0
under_way s split o behind to spare begun track pending same is some no_spur off edge =
    grind (arith, common_steps, dart_between, pair_most, led_itself)

-- a vertex is taken from what is pending
pub reverse-push : (pending : List ℕ) (v : ℕ) → reverse (pending ++ v ∷ []) ≡ v ∷ reverse pending
reverse-push pending v = reverse-append pending (v ∷ [])

-- what is left to come, where its next vertex is v
pub rest_turned_to : {s : OrientedMesh} {split : SplitView} {behind to : ℕ} {begun track : TrackView} {pending : List ℕ} {steps : ℕ}
    (rest : List ℕ) (v : ℕ) → IsUnderWay s split behind to begun track pending steps → pending ≡ rest ++ v ∷ []
    → Linked s.mesh (last_of track.walk ∷ v ∷ reverse rest)
    × ((t : IsSplit s split) → load s split t (last_of track.walk ∷ v ∷ reverse rest) + steps ≤ darts_of s)
    × IsLedOn s split behind (begun.walk ++ to ∷ []) begun.list (track.walk ++ v ∷ reverse rest) track.list
rest_turned_to {s} {split} {behind} {to} {begun} {track} {pending} {steps} rest v on popped =
    let turned : reverse pending ≡ v ∷ reverse rest = ap (λ (l : List ℕ). reverse l) popped ∙ reverse-push rest v in
    let u : ℕ = last_of track.walk in (
      subst (λ (l : List ℕ). Linked s.mesh (u ∷ l)) turned on.linked,
      λ t. subst (λ (l : List ℕ). load s split t (u ∷ l) + steps ≤ darts_of s) turned (on.falls t),
      subst (λ (l : List ℕ). IsLedOn s split behind (begun.walk ++ to ∷ []) begun.list (track.walk ++ l) track.list) turned on.led,
    )

-- a step that keeps off the cotree: the vertex is put on the track
pub put_on_way : {s : OrientedMesh} {split : SplitView} {behind to : ℕ} {begun track : TrackView} {pending : List ℕ} {steps : ℕ}
    (new : TrackView) (rest : List ℕ) (v after : ℕ)
    → IsUnderWay s split behind to begun track pending steps → pending ≡ rest ++ v ∷ [] → after ≡ length rest + behind
    → ((d : ℕ) → IsDartFrom (rotations_of s) (last_of track.walk) v d → in_cotree split (edge_of s d) ≡ false)
    → IsLedOn s split after (track.walk ++ v ∷ []) track.list new.walk new.list → HasNoSpur new.walk
    → length new.walk ≤ length track.walk + 1 → GrowsOrShrinks track.walk new.walk v
    → IsUnderWay s split behind to begun new rest (steps + 1)
put_on_way {s} {split} {behind} {track = track} {steps = steps} new rest v after on popped counted off put no_spur long shape =
    let last : last_of new.walk ≡ v = put.last ∙ last-push track.walk v in
    let turned = rest_turned_to rest v on popped in
    record {
      some = put.some;
      no_spur = no_spur;
      off_cotree = elim shape [
        | inl grown ↦ subst (IsOffCotree s split) (sym grown) (avoids_on s split track.walk v on.some on.off_cotree off)
        | inr shrunk ↦ avoids_front s split new.walk (shrunk.0 ∷ []) (subst (IsOffCotree s split) shrunk.1 on.off_cotree)
      ];
      linked = subst (λ (x : ℕ). Linked s.mesh (x ∷ reverse rest)) (sym last) turned.0.1;
      falls = λ t. grind (arith, pair_positive);
      long = omega (arith, long, on.long);
      led = led_after turned.2 (led_behind behind track.walk v (reverse rest) put (omega (arith, counted, length-reverse rest)));
    }

-- round a face the other way, from the start of a step to its end
pub record IsRest (mesh : FaceList) (step : FaceStep) (u v : ℕ) : Type 0 where
  pub front : List ℕ
  pub ends : corners_from (face_at mesh step.face.0) (not step.forward) step.corner (length (face_at mesh step.face.0) - 1)
      ≡ front ++ v ∷ []
  pub turned : corners_from (face_at mesh step.face.0) (not step.forward) step.corner (length (face_at mesh step.face.0) - 1) ≡ u ∷ reverse
      (beyond mesh step)
  pub long : length (beyond mesh step) + 1 ≡ length (face_at mesh step.face.0)

pub rest_of_step : {s : OrientedMesh} {split : SplitView} → IsFaceList s.mesh → {u v : ℕ} {step : FaceStep} → IsFaceBelow s split u v step
    → IsRest s.mesh step u v
rest_of_step {s} valid {u} {v} {step} under =
    let ring : List ℕ = face_at s.mesh step.face.0 in
    let m : ℕ = length ring in
    let b : Bool = step.forward in
    let c : ℕ = step.corner in
    let face : IsFace s.mesh.count ring = valid.faces step.face.0 [] under.is_step.face in
    let big : 3 ≤ m = face.polygon in
    let k : ℕ = m - 2 in
    let one_more_than : m - 1 ≡ suc k = omega arith in
    let start : get_or ring c 0 ≡ u = under.starts in
    let end : get_or ring (corner_after (not b) m c (m - 1)) 0 ≡ v =
    ap (λ (x : ℕ). get_or ring x 0) (rest_ends b m c under.is_step.corner) ∙ under.ends in
    let beyond_is : beyond s.mesh step ≡ corners_from ring b (next_corner b m c) k =
    ap (corners_before ring b (next_corner b m c)) one_more_than ∙ before-from ring b (next_corner b m c) k in
    let back : reverse (beyond s.mesh step) ≡ corners_from ring (not b) (next_corner (not b) m c) k =
    ap (λ (l : List ℕ). reverse l) beyond_is ∙ rest_turned ring b c k under.is_step.corner (omega arith) in
    record {
      front = corners_before ring (not b) c (m - 1);
      ends = last_corner ring (not b) c (m - 1) ∙ ap (λ (x : ℕ). corners_before ring (not b) c (m - 1) ++ x ∷ []) end;
      turned = ap (corners_from ring (not b) c) one_more_than
          ∙ ap (λ (x : ℕ). x ∷ corners_from ring (not b) (next_corner (not b) m c) k) start ∙ ap (λ (l : List ℕ). u ∷ l) (sym back);
      long = omega (arith, ap (λ (l : List ℕ). length l) beyond_is, length-corners_from ring b (next_corner b m c) k);
    }

-- it weighs less than the edge
pub below_falls : {s : OrientedMesh} {split : SplitView} → IsOrientedSurface s → (t : IsSplit s split) → {u v : ℕ} {step : FaceStep}
    → IsFaceBelow s split u v step
    → load s split t (corners_from (face_at s.mesh step.face.0) (not step.forward) step.corner (length (face_at s.mesh step.face.0) - 1))
    + 1 ≤ pair_weight s split t u v
below_falls o t {u} {v} {step} under =
    rest_falls o t step.face.0 step.corner step.forward u v under.dart under.is_step.face under.is_step.corner under.starts
    under.ends under.from under.below

-- the move across the face
pub face_crossed : {s : OrientedMesh} {split : SplitView} {u v : ℕ} {step : FaceStep} (front behind : List ℕ) → IsFaceBelow s split u v step
    → 3 ≤ length (face_at s.mesh step.face.0)
    → apply s.mesh (front ++ u ∷ v ∷ behind) (Across (length front) step.face step.corner step.forward 1)
    ≡ Some (front ++ corners_from (face_at s.mesh step.face.0) (not step.forward) step.corner (length (face_at s.mesh step.face.0) - 1)
    ++ behind)
face_crossed {s} {u} {v} {step} front behind under big =
    let ring : List ℕ = face_at s.mesh step.face.0 in
    let other : List ℕ = corners_from ring (not step.forward) step.corner (length ring - 1) in
    let some : 0 < length (front ++ u ∷ v ∷ behind) = rw length-append (omega arith) in
    (by_replacing s.mesh (front ++ u ∷ v ∷ behind) (front ++ other ++ behind) (Across (length front) step.face step.corner step.forward 1)
    some).1
    (record {
      before = front;
      part = u ∷ v ∷ [];
      other = other;
      after = behind;
      walk_is = sym (append_assoc front (u ∷ v ∷ []) behind);
      next_is = refl;
      place = refl;
      replaces = (
        under.is_step.face,
        under.is_step.corner,
        omega arith,
        ap (λ (x : ℕ). x ∷ v ∷ []) (sym under.starts) ∙ ap (λ (x : ℕ). get_or ring step.corner 0 ∷ x ∷ []) (sym under.ends),
        refl,
      );
    })

-- what stands there then: it weighs less, and is as long as the move notes
pub crossed_led : {s : OrientedMesh} {split : SplitView} → IsFaceList s.mesh → {behind : ℕ} {track new : TrackView} {rest left : List ℕ}
    {step : FaceStep} (v : ℕ)
    → 0 < length track.walk → IsFaceBelow s split (last_of track.walk) v step → IsCrossed s.mesh step behind track rest new left
    → IsLedOn s split behind (track.walk ++ v ∷ reverse rest) track.list (new.walk ++ reverse left) new.list
crossed_led {s} {split} valid {behind} {track} {new} {rest} {left} {step} v some under crossed = record {
  some = omega (arith, some, ap (λ (l : List ℕ). length l) crossed.walk, length-append new.walk (reverse left));
  last = ap last_of (to ∙ ap (λ (l : List ℕ). front ++ l) inside ∙ sym (append_assoc front around.front (v ∷ reverse rest)))
      ∙ last-behind (front ++ around.front) (reverse rest) v ∙ sym (last-behind track.walk (reverse rest) v);
  goes = goes;
  leaves = crossed_leaves under crossed;
  within = within;
}
  where
    u : ℕ
    u = last_of track.walk

    front : List ℕ
    front = take (length track.walk - 1) track.walk

    back : List ℕ
    back = reverse (beyond s.mesh step)

    around : IsRest s.mesh step u v
    around = rest_of_step valid under

    walk_is : track.walk ≡ front ++ u ∷ []
    walk_is = last_entry track.walk some

    left_is : reverse left ≡ back ++ reverse rest
    left_is = ap (λ (x : List ℕ). reverse x) crossed.comes ∙ reverse-append rest (beyond s.mesh step)

    from : track.walk ++ v ∷ reverse rest ≡ front ++ u ∷ v ∷ reverse rest
    from = ap (λ (l : List ℕ). l ++ v ∷ reverse rest) walk_is ∙ append_assoc front (u ∷ []) (v ∷ reverse rest)

    to : new.walk ++ reverse left ≡ front ++ u ∷ (back ++ reverse rest)
    to =
        ap (λ (l : List ℕ). l ++ reverse left) (crossed.walk ∙ walk_is) ∙ append_assoc front (u ∷ []) (reverse left)
        ∙ ap (λ (l : List ℕ). front ++ u ∷ l) left_is

    ends : u ∷ back ≡ around.front ++ v ∷ []
    ends = sym around.turned ∙ around.ends

    inside : u ∷ (back ++ reverse rest) ≡ around.front ++ v ∷ reverse rest
    inside = ap (λ (l : List ℕ). l ++ reverse rest) ends ∙ append_assoc around.front (v ∷ []) (reverse rest)

    goes : GoesOn s.mesh behind (track.walk ++ v ∷ reverse rest) track.list (new.walk ++ reverse left) new.list
    goes first others l h =
        let ring : List ℕ = face_at s.mesh step.face.0 in
        let round : List ℕ = corners_from ring (not step.forward) step.corner (length ring - 1) in
        let big : 3 ≤ length ring = (valid.faces step.face.0 [] under.is_step.face).polygon in
        let noted : ℕ → ℕ → PeakedMoves = λ n darts_then. record {
          moves = track.list.moves ++ Across n step.face step.corner step.forward 1 ∷ [];
          peak = max track.list.peak darts_then;
        } in
        let end : List ℕ = front ++ round ++ (reverse rest ++ others) in
        let end_is : end ≡ new.walk ++ reverse left ++ others =
        ap (λ (x : List ℕ). front ++ x ++ (reverse rest ++ others)) around.turned ∙ regroup front back (reverse rest) others u
        ∙ ap (λ (x : List ℕ). x ++ others) (sym to) in
        let start : track.walk ++ v ∷ reverse rest ++ others ≡ front ++ u ∷ v ∷ (reverse rest ++ others) =
        ap (λ (x : List ℕ). x ++ others) from ∙ append_assoc front (u ∷ v ∷ reverse rest) others in
        let front_long : darts track.walk ≡ length front =
        omega (arith, ap (λ (x : List ℕ). length x) walk_is, length-append front (u ∷ []), some) in
        let count : darts track.walk + (length left + behind) ≡ darts end =
        omega (
          arith,
          ap (λ (x : List ℕ). length x) end_is,
          length-append (new.walk ++ reverse left) others,
          length-append new.walk (reverse left),
          length-reverse left,
          ap (λ (x : List ℕ). length x) crossed.walk,
          some,
          l,
        ) in
        subst (LeadsAtPeak s.mesh first new.list) end_is
        (one_more s.mesh first (front ++ u ∷ v ∷ (reverse rest ++ others)) end (Across (length front) step.face step.corner step.forward 1)
        track.list new.list (subst (LeadsAtPeak s.mesh first track.list) start h)
        (face_crossed front (reverse rest ++ others) under big)
        (crossed.list ∙ ap (λ (n : ℕ). noted n (darts track.walk + (length left + behind))) front_long ∙ ap (noted (length front)) count))
      where
        regroup : (front back rest others : List ℕ) (u : ℕ)
            → front ++ (u ∷ back) ++ (rest ++ others) ≡ front ++ u ∷ (back ++ rest) ++ others
        regroup front back rest others u = simp append_assoc

    within : StaysWithin s split behind (track.walk ++ v ∷ reverse rest) track.list (new.walk ++ reverse left) new.list
    within weight are =
        let less : load_of weight (new.walk ++ reverse left) + 1 ≤ load_of weight (track.walk ++ v ∷ reverse rest) =
        omega (
          arith,
          are.falls u v step under,
          load-joined weight front (v ∷ reverse rest) u,
          load-joined weight front (back ++ reverse rest) u,
          load-joined weight around.front (reverse rest) v,
          ap (load_of weight) from,
          ap (load_of weight) to,
          ap (load_of weight) ends,
          ap (load_of weight) inside,
        ) in (
          omega (arith, less),
          omega (
            arith,
            less,
            some,
            darts_weigh weight are.some (new.walk ++ reverse left),
            length-append new.walk (reverse left),
            length-reverse left,
            ap (λ (l : List ℕ). length l) crossed.walk,
            ap (λ (l : PeakedMoves). l.peak) crossed.list,
          ),
          omega (
            arith,
            less,
            ap (λ (l : PeakedMoves). length l.moves) crossed.list,
            length-append track.list.moves (Across (darts track.walk) step.face step.corner step.forward 1 ∷ []),
          ),
        )

-- a step across the face below an edge
pub cross_on_way : {s : OrientedMesh} {split : SplitView} → IsOrientedSurface s
    → {behind to : ℕ} {begun track new : TrackView} {pending left : List ℕ} {steps : ℕ} {step : FaceStep} (rest : List ℕ) (v : ℕ)
    → IsUnderWay s split behind to begun track pending steps → pending ≡ rest ++ v ∷ [] → IsFaceBelow s split (last_of track.walk) v step
    → IsCrossed s.mesh step behind track rest new left
    → IsUnderWay s split behind to begun new left (steps + 1)
cross_on_way {s} {split} o {track = track} {new} {left = left} {steps} {step} rest v on popped under crossed =
    let u : ℕ = last_of track.walk in
    let ring : List ℕ = face_at s.mesh step.face.0 in
    let around : IsRest s.mesh step u v = rest_of_step o.faces under in
    let turned = rest_turned_to rest v on popped in
    let whole : u ∷ reverse left ≡ around.front ++ v ∷ reverse rest =
    ap (λ (x : List ℕ). u ∷ reverse x) crossed.comes ∙ ap (λ (x : List ℕ). u ∷ x) (reverse-append rest (beyond s.mesh step))
    ∙ ap (λ (x : List ℕ). x ++ reverse rest) (sym around.turned ∙ around.ends) ∙ append_assoc around.front (v ∷ []) (reverse rest) in
    let same_end : last_of new.walk ≡ u = ap last_of crossed.walk in
    let round_is_linked : Linked s.mesh (around.front ++ v ∷ []) =
    subst (Linked s.mesh) around.ends (round_linked s.mesh step.face.0 (not step.forward) step.corner (length ring - 1) under.is_step.face
    under.is_step.corner) in
    record {
      some = subst (λ (l : List ℕ). 0 < length l) (sym crossed.walk) on.some;
      no_spur = subst HasNoSpur (sym crossed.walk) on.no_spur;
      off_cotree = subst (IsOffCotree s split) (sym crossed.walk) on.off_cotree;
      linked = subst (λ (x : ℕ). Linked s.mesh (x ∷ reverse left)) (sym same_end)
          (subst (Linked s.mesh) (sym whole) (together s.mesh v around.front (reverse rest) round_is_linked turned.0.1));
      falls = λ t. subst (λ (x : ℕ). load s split t (x ∷ reverse left) + (steps + 1) ≤ darts_of s) (sym same_end)
          (omega (
            arith,
            turned.1 t,
            below_falls o t under,
            load-join s split t around.front (reverse rest) v,
            ap (load s split t) around.ends,
            ap (load s split t) whole,
          ));
      long = omega (arith, on.long, ap (λ (l : List ℕ). length l) crossed.walk);
      led = led_after turned.2 (crossed_led o.faces v on.some under crossed);
    }

-- after as many steps as there are darts nothing is pending
pub all_come : {s : OrientedMesh} {split : SplitView} → IsSplit s split
    → {behind to : ℕ} {begun track : TrackView} {pending : List ℕ} {steps : ℕ}
    → IsUnderWay s split behind to begun track pending steps → darts_of s ≤ steps → length pending ≡ 0
all_come {s} {split} t {track = track} {pending} on done =
    omega (arith, on.falls t, load_long s split t (last_of track.walk ∷ reverse pending), length-reverse pending)

-- where nothing is pending, the walk is led on
pub all_led : {s : OrientedMesh} {split : SplitView} {behind to : ℕ} {begun track : TrackView} {pending : List ℕ} {steps : ℕ}
    → IsUnderWay s split behind to begun track pending steps → pending ≡ []
    → IsLedOn s split behind (begun.walk ++ to ∷ []) begun.list track.walk track.list
all_led {s} {split} {behind} {to} {begun} {track} on none = grind (arith, common_steps)

pub one_pending : (xs ys : List VertexName) (v : VertexName) → xs ≡ ys ++ v ∷ [] → numbers xs ≡ numbers ys ++ v.0 ∷ []
one_pending xs ys v is = ap numbers is ∙ map-append (λ (x : VertexName). x.0) ys (v ∷ [])

pub length-numbers : (xs : List VertexName) → length (numbers xs) ≡ length xs
length-numbers xs = length-map xs (λ (x : VertexName). x.0)

-- each vertex of a walk is reached along an edge
pub edge_to : (mesh : FaceList) (names : List VertexName) → IsWalk mesh (numbers names) → (n : ℕ) → 0 < n → n < length names
    → (none : VertexName) → is_edge mesh (get_or (numbers names) (n - 1) 0) (get_or names n none).0 ≡ true
edge_to mesh names walk n later within none = grind (arith, common_steps, length-numbers)

-- there is room for a step along the edge, and for one across a face
pub room_along : {s : OrientedMesh} {split : SplitView} → IsSplit s split
    → {behind to : ℕ} {begun track : TrackView} {pending : List ℕ} {steps : ℕ} (rest : List ℕ) (v : ℕ)
    → IsUnderWay s split behind to begun track pending steps → pending ≡ rest ++ v ∷ []
    → length track.walk + length rest + 1 ≤ length begun.walk + darts_of s
room_along {s} {split} t {track = track} rest v on popped =
    omega (
      arith,
      on.long,
      (rest_turned_to rest v on popped).1 t,
      load_long s split t (last_of track.walk ∷ v ∷ reverse rest),
      length-reverse rest,
    )

pub room_across : {s : OrientedMesh} {split : SplitView} → IsOrientedSurface s → (t : IsSplit s split)
    → {behind to : ℕ} {begun track : TrackView} {pending : List ℕ} {steps : ℕ} {step : FaceStep} (rest : List ℕ) (v : ℕ)
    → IsUnderWay s split behind to begun track pending steps → pending ≡ rest ++ v ∷ [] → IsFaceBelow s split (last_of track.walk) v step
    → length track.walk + length rest + length (face_at s.mesh step.face.0) ≤ length begun.walk + darts_of s
room_across {s} {split} o t {track = track} {step = step} rest v on popped under =
    let ring : List ℕ = face_at s.mesh step.face.0 in
    let round : List ℕ = corners_from ring (not step.forward) step.corner (length ring - 1) in
    omega (
      arith,
      on.long,
      (rest_turned_to rest v on popped).1 t,
      below_falls o t under,
      under.is_step.corner,
      load_long s split t (v ∷ reverse rest),
      length-reverse rest,
      load_long s split t round,
      length-corners_from ring (not step.forward) step.corner (length ring - 1),
    )

-- what holds while a walk is led off the cotree, dart by dart, when its first n entries are read
pub record IsLedSoFar (s : OrientedMesh) (split : SplitView) (behind : ℕ) (walk : List ℕ) (begun : PeakedMoves) (track : TrackView)
    (n : ℕ) : Type 0 where
  pub some : 0 < length track.walk
  pub no_spur : HasNoSpur track.walk
  pub last : last_of track.walk ≡ get_or walk (n - 1) 0
  pub led : IsLedOn s split behind walk begun (track.walk ++ drop n walk) track.list

pub led_first : (s : OrientedMesh) (split : SplitView) (behind : ℕ) (walk : List ℕ) (begun : PeakedMoves) (track : TrackView) (v spare : ℕ)
    → 0 < length walk
    → get_or walk 0 0 ≡ v → track ≡ record { walk = v ∷ []; list = begun; spare = spare } → IsLedSoFar s split behind walk begun track 1
led_first s split behind walk begun track v spare some is start = grind (arith, common_steps, one_no_spur, led_itself)

pub led_more : {s : OrientedMesh} {split : SplitView} {behind : ℕ} {walk : List ℕ} {begun : PeakedMoves} {track : TrackView} {n : ℕ}
    (new : TrackView) (v after : ℕ)
    → IsLedSoFar s split behind walk begun track n → n < length walk → get_or walk n 0 ≡ v → after ≡ length walk - n - 1 + behind
    → IsLedOn s split after (track.walk ++ v ∷ []) track.list new.walk new.list → HasNoSpur new.walk
    → IsLedSoFar s split behind walk begun new (n + 1)
led_more {s} {split} {behind} {walk} {begun} {track} {n} new v after so_far l is counted led no_spur =
    let place : n + 1 - 1 ≡ n = omega arith in
    let read : track.walk ++ drop n walk ≡ track.walk ++ v ∷ drop (n + 1) walk =
    read_on track.walk walk n v l is ∙ append_assoc track.walk (v ∷ []) (drop (n + 1) walk) in
    record {
      some = led.some;
      no_spur = no_spur;
      last = led.last ∙ last-push track.walk v ∙ sym is ∙ ap (λ (k : ℕ). get_or walk k 0) (sym place);
      led = led_after (subst (λ (w : List ℕ). IsLedOn s split behind walk begun w track.list) read so_far.led)
          (led_behind behind track.walk v (drop (n + 1) walk) led (omega (arith, counted, length-drop (n + 1) walk)));
    }

-- when all entries are read
pub led_all : {s : OrientedMesh} {split : SplitView} {behind : ℕ} {walk : List ℕ} {begun : PeakedMoves} {track : TrackView} {n : ℕ}
    → IsLedSoFar s split behind walk begun track n → n ≡ length walk → IsLedOn s split behind walk begun track.walk track.list
led_all {s} {split} {behind} {walk} {begun} {track} {n} so_far all = grind (arith, common_steps)

-- a walk that is led on from itself
pub led_whole : (mesh : FaceList) (walk vertices : List ℕ) (begun : PeakedMoves) (track : TrackView) → vertices ≡ walk
    → begun ≡ record { moves = []; peak = darts walk } → GoesOn mesh 0 vertices begun track.walk track.list
    → LeadsAtPeak mesh walk track.list track.walk
led_whole mesh walk vertices begun track same nowhere goes =
    let start : LeadsAtPeak mesh walk begun (vertices ++ []) =
    subst (LeadsAtPeak mesh walk begun) (sym (append-nil vertices ∙ same)) (leads_nowhere mesh walk begun nowhere) in
    subst (LeadsAtPeak mesh walk track.list) (append-nil track.walk) (goes walk [] refl start)
