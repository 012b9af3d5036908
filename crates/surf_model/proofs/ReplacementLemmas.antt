-- The table of moves is a table of replacements.
use Rattle.surf_model.proofs.Common.{◌≡◌, ℕ, zero, suc, ◌+◌, ◌-◌, ◌<◌, ◌≤◌, Bool, true, false, not, List, [], ◌∷◌, ◌++◌, length, take, drop, get_or, refl, ap, sym, ◌∙◌, arith, append_assoc, and_parts, ltb-true, leb-true, eqb-true, lt-ltb, le-leb, common_steps, take-append-drop, drop-drop, drop_more, length-take-le, ◌==◌, nat_lt, nat_le, Some, None, FaceList, face_at, corners_from, next_corner, is_edge, apply, replaced, same_walk, IsReplacement, darts, Move, Insert, Remove, Across, VertexName}
use Rattle.std.specs.Prelude.{◌↔◌, ◌&&◌, cond}
use lib.Pointwise.{bytes_decides}

-- a list is its first entries, the n after them, and the rest
in_three : (walk : List ℕ) (at n : ℕ) → walk ≡ take at walk ++ take n (drop at walk) ++ drop (at + n) walk
in_three walk at n =
    sym (
    append_assoc (take at walk) (take n (drop at walk)) (drop (at + n) walk)
    ∙ ap (λ (l : List ℕ). take at walk ++ (take n (drop at walk) ++ l)) (sym (drop-drop n at walk))
    ∙ ap (λ (l : List ℕ). take at walk ++ l) (take-append-drop n (drop at walk))
    ∙ take-append-drop at walk
    )

-- the parts of a list that is put together of three
record AreParts (walk before part after : List ℕ) (at n : ℕ) : Type 0 where
  pub front : take at walk ≡ before
  pub middle : take n (drop at walk) ≡ part
  pub rest : drop (at + n) walk ≡ after
  pub long : at + n ≤ length walk

parts_of : (walk before part after : List ℕ) (at n : ℕ) → walk ≡ before ++ part ++ after → length before ≡ at → length part ≡ n
    → AreParts walk before part after at n
parts_of walk before part after at n e p q = grind (arith, common_steps)

-- the entries of the part of such a list
entry_of_part : (walk before part after : List ℕ) (at k : ℕ) → walk ≡ before ++ part ++ after → length before ≡ at
    → get_or walk (at + k) 0 ≡ get_or (part ++ after) k 0
entry_of_part walk before part after at k e p = grind (arith, common_steps)

pub length-corners_from : (ring : List ℕ) (forward : Bool) (corner k : ℕ) → length (corners_from ring forward corner k) ≡ k + 1
length-corners_from ring forward corner zero = refl
length-corners_from ring forward corner (suc k) =
    let more : suc (k + 1) ≡ suc k + 1 = omega arith in
    ap suc (length-corners_from ring forward (next_corner forward (length ring) corner) k) ∙ more

-- what a test tells that gave a walk
given : (test : Bool) (x y : List ℕ) → cond test (Some x) None ≡ Some y → (test ≡ true) × (y ≡ x)
given true x y e = (refl, let same : x ≡ y = cc in sym same)
given false x y e = cc

one_there : (walk : List ℕ) (at : ℕ) → at < length walk → take 1 (drop at walk) ≡ get_or walk at 0 ∷ []
one_there walk at h = ap (take 1) (drop_more walk at 0 h)

three_there : (walk : List ℕ) (at : ℕ) → at + 2 < length walk
    → take 3 (drop at walk) ≡ get_or walk at 0 ∷ get_or walk (at + 1) 0 ∷ get_or walk (at + 2) 0 ∷ []
three_there walk at h = grind (arith, common_steps)

gives_replacement : (mesh : FaceList) (walk next : List ℕ) (move : Move) → 0 < length walk → apply mesh walk move ≡ Some next
    → IsReplacement mesh move walk next
unfolding apply
gives_replacement mesh walk next (Insert at via) start e =
    let here : ℕ = get_or walk at 0 in
    let told = given (nat_le at (darts walk) && is_edge mesh here via.0) _ next e in
    let tests = and_parts (nat_le at (darts walk)) (is_edge mesh here via.0) told.0 in
    let within : at < length walk = omega (arith, start, leb-true at (darts walk) tests.0) in
    record {
      before = take at walk;
      part = take 1 (drop at walk);
      other = here ∷ via.0 ∷ here ∷ [];
      after = drop (at + 1) walk;
      walk_is = in_three walk at 1;
      next_is = told.1;
      place = length-take-le at walk (omega arith);
      replaces = (here, tests.1, one_there walk at within, refl);
    }
gives_replacement mesh walk next (Remove at via) start e =
    let here : ℕ = get_or walk at 0 in
    let place : Bool = nat_le (at + 2) (darts walk) in
    let same : Bool = here == get_or walk (at + 2) 0 in
    let middle : Bool = get_or walk (at + 1) 0 == via.0 in
    let told = given (place && same && middle) _ next e in
    let tests = and_parts (place && same) middle told.0 in
    let ends = and_parts place same tests.0 in
    let within : at + 2 < length walk = omega (arith, start, leb-true (at + 2) (darts walk) ends.0) in
    let back : here ≡ get_or walk (at + 2) 0 = eqb-true here (get_or walk (at + 2) 0) ends.1 in
    let out : get_or walk (at + 1) 0 ≡ via.0 = eqb-true (get_or walk (at + 1) 0) via.0 tests.1 in
    record {
      before = take at walk;
      part = take 3 (drop at walk);
      other = here ∷ [];
      after = drop (at + 3) walk;
      walk_is = in_three walk at 3;
      next_is = told.1;
      place = length-take-le at walk (omega arith);
      replaces = (
        here,
        three_there walk at within ∙ ap (λ (v : ℕ). here ∷ v ∷ get_or walk (at + 2) 0 ∷ []) out
            ∙ ap (λ (v : ℕ). here ∷ via.0 ∷ v ∷ []) (sym back),
        refl,
      );
    }
gives_replacement mesh walk next (Across at face corner forward taken) start e =
    let ring : List ℕ = face_at mesh face.0 in
    let there : Bool = nat_lt face.0 (length mesh.faces) in
    let cornered : Bool = nat_lt corner (length ring) in
    let enough : Bool = nat_le taken (length ring) in
    let place : Bool = nat_le (at + taken) (darts walk) in
    let reads : Bool = same_walk (take (taken + 1) (drop at walk)) (corners_from ring forward corner taken) in
    let told = given (there && cornered && enough && place && reads) _ next e in
    let four = and_parts (there && cornered && enough && place) reads told.0 in
    let three = and_parts (there && cornered && enough) place four.0 in
    let two = and_parts (there && cornered) enough three.0 in
    let one = and_parts there cornered two.0 in
    let within : at + taken ≤ darts walk = leb-true (at + taken) (darts walk) three.1 in
    record {
      before = take at walk;
      part = take (taken + 1) (drop at walk);
      other = corners_from ring (not forward) corner (length ring - taken);
      after = drop (at + (taken + 1)) walk;
      walk_is = in_three walk at (taken + 1);
      next_is = told.1;
      place = length-take-le at walk (omega arith);
      replaces = (
        ltb-true face.0 (length mesh.faces) one.0,
        ltb-true corner (length ring) one.1,
        leb-true taken (length ring) two.1,
        (bytes_decides (take (taken + 1) (drop at walk)) (corners_from ring forward corner taken)).0 four.1,
        refl,
      );
    }

-- a walk that is put together anew
put_together : (walk before other others after : List ℕ) (at n : ℕ) → take at walk ≡ before → drop (at + n) walk ≡ after
    → others ≡ other → replaced at n others walk ≡ before ++ other ++ after
put_together walk before other others after at n f r o = rw (f, r, o) refl

replacement_gives : (mesh : FaceList) (walk next : List ℕ) (move : Move) → IsReplacement mesh move walk next
    → apply mesh walk move ≡ Some next
unfolding apply
replacement_gives mesh walk next (Insert at via) r = grind (arith, common_steps, parts_of, entry_of_part, put_together)
replacement_gives mesh walk next (Remove at via) r = grind (arith, common_steps, parts_of, entry_of_part, put_together)
replacement_gives mesh walk next (Across at face corner forward taken) r =
    let ring : List ℕ = face_at mesh face.0 in
    let way : List ℕ = corners_from ring forward corner taken in
    let reads : r.part ≡ way = r.replaces.3 in
    let parts = parts_of walk r.before r.part r.after at (taken + 1) r.walk_is r.place
    (ap length reads ∙ length-corners_from ring forward corner taken) in
    let there : nat_lt face.0 (length mesh.faces) ≡ true = lt-ltb face.0 (length mesh.faces) r.replaces.0 in
    let cornered : nat_lt corner (length ring) ≡ true = lt-ltb corner (length ring) r.replaces.1 in
    let enough : nat_le taken (length ring) ≡ true = le-leb taken (length ring) r.replaces.2 in
    let place : nat_le (at + taken) (darts walk) ≡ true = le-leb (at + taken) (darts walk) (omega (arith, parts.long)) in
    let same : same_walk (take (taken + 1) (drop at walk)) way ≡ true =
    (bytes_decides (take (taken + 1) (drop at walk)) way).1 (parts.middle ∙ reads) in
    let others : List ℕ = corners_from ring (not forward) corner (length ring - taken) in
    let whole = put_together walk r.before r.other others r.after at (taken + 1) parts.front parts.rest (sym r.replaces.4) in
    rw (there, cornered, enough, place, same) (ap Some (whole ∙ sym r.next_is))

pub by_replacing : (mesh : FaceList) (walk next : List ℕ) (move : Move) → 0 < length walk → (apply mesh walk move ≡ Some next)
    ↔ IsReplacement mesh move walk next
by_replacing mesh walk next move start = (gives_replacement mesh walk next move start, replacement_gives mesh walk next move)

pub spur_in : (mesh : FaceList) (walk next : List ℕ) (at : ℕ) (via : VertexName) → 0 < length walk
    → apply mesh walk (Insert at via) ≡ Some next
    → next ≡ take (at + 1) walk ++ via.0 ∷ get_or walk at 0 ∷ drop (at + 1) walk
unfolding apply
spur_in mesh walk next at via start e = grind (arith, common_steps, given)

pub spur_out : (mesh : FaceList) (walk next : List ℕ) (at : ℕ) (via : VertexName) → 0 < length walk
    → apply mesh walk (Remove at via) ≡ Some next
    → next ≡ take (at + 1) walk ++ drop (at + 3) walk
unfolding apply
spur_out mesh walk next at via start e = grind (arith, common_steps, given)
