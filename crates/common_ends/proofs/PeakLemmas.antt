-- Lists of moves that lead at their peaks: one move more, a spur that comes in or goes out, and all moves further on in a longer walk.
use Rattle.common_ends.proofs.Common.{◌≡◌, ℕ, ◌+◌, ◌<◌, ◌≤◌, max, true, List, [], ◌∷◌, ◌++◌, length, take, refl, ap, sym, ◌∙◌, subst, arith, append_assoc, length-append, take_more, map_push, Some, All, slice_get, first_answer, in_context, one_after_another, stays_walk, FaceList, is_edge, PeakedMoves, apply, apply_all, greatest_darts, LeadsAtPeak, raised, all_raised, darts, Move, Insert, Remove, VertexName}
use Rattle.std.proofs.lemmas.List.Elements.{All-cons, All-nil}
use Rattle.std.proofs.lemmas.Option.{get_or_from_slice_get}
use Rattle.surf_model.proofs.ReplacementLemmas.{by_replacing}
use Rattle.surf_model.proofs.WayBackLemmas.{alike}
use Rattle.surf_model.specs.Replacements.{place_of_move}

-- the darts that a list of moves passes, the first move taken off
pub greatest_darts-more : (mesh : FaceList) (walk next : List ℕ) (move : Move) (moves : List Move) → apply mesh walk move ≡ Some next
    → greatest_darts mesh walk (move ∷ moves) ≡ max (darts walk) (greatest_darts mesh next moves)
unfolding greatest_darts
greatest_darts-more mesh walk next move moves e = rw e refl

pub greatest_darts-first : (mesh : FaceList) (walk : List ℕ) (moves : List Move) → darts walk ≤ greatest_darts mesh walk moves
unfolding greatest_darts
greatest_darts-first mesh walk [] = omega arith
greatest_darts-first mesh walk (move ∷ moves) = omega arith

pub greatest_darts-none : (mesh : FaceList) (walk : List ℕ) → greatest_darts mesh walk [] ≡ darts walk
unfolding greatest_darts
greatest_darts-none mesh walk = refl

-- the greatest number of darts, with one move more
pub greatest_darts-push : (mesh : FaceList) (moves : List Move) (first walk next : List ℕ) (move : Move)
    → apply_all mesh first moves ≡ Some walk
    → apply mesh walk move ≡ Some next → greatest_darts mesh first (moves ++ move ∷ []) ≡ max (greatest_darts mesh first moves) (darts next)
greatest_darts-push mesh [] first walk next move e f =
    let same : first ≡ walk = cc in
    let one : apply mesh first move ≡ Some next = ap (λ (w : List ℕ). apply mesh w move) same ∙ f in
    omega (arith, greatest_darts-more mesh first next move [] one, greatest_darts-none mesh first, greatest_darts-none mesh next)
greatest_darts-push mesh (one ∷ moves) first walk next move e f =
    let told = first_answer (λ x. apply_all mesh x moves) (apply mesh first one) walk e in
    let rest = greatest_darts-push mesh moves told.0 walk next move told.2 f in
    omega (
      arith,
      rest,
      greatest_darts-more mesh first told.0 one moves told.1,
      greatest_darts-more mesh first told.0 one
          (moves ++ move ∷ []) told.1,
    )

-- a list of moves that leads at its peak, with one move more
pub one_more : (mesh : FaceList) (first walk next : List ℕ) (move : Move) (list more : PeakedMoves) → LeadsAtPeak mesh first list walk
    → apply mesh walk move ≡ Some next → more ≡ record { moves = list.moves ++ move ∷ []; peak = max list.peak (darts next) }
    → LeadsAtPeak mesh first more next
one_more mesh first walk next move list more h e is =
    let alone : apply_all mesh walk (move ∷ []) ≡ Some next = rw e refl in
    subst (λ (l : PeakedMoves). LeadsAtPeak mesh first l next) (sym is)
    (record {
      leads = one_after_another mesh list.moves (move ∷ []) first walk next h.leads alone;
      peak = ap (λ (p : ℕ). max p (darts next)) h.peak ∙ sym (greatest_darts-push mesh list.moves first walk next move h.leads e);
    })

-- no moves lead from a walk to itself
pub leads_nowhere : (mesh : FaceList) (walk : List ℕ) (list : PeakedMoves) → list ≡ record { moves = []; peak = darts walk }
    → LeadsAtPeak mesh walk list walk
leads_nowhere mesh walk list is =
    subst (λ (l : PeakedMoves). LeadsAtPeak mesh walk l walk) (sym is) (record { leads = refl; peak = sym (greatest_darts-none mesh walk) })

-- a spur comes in
pub spur_comes : (mesh : FaceList) (front rest : List ℕ) (here : ℕ) (via : VertexName) → is_edge mesh here via.0 ≡ true
    → apply mesh (front ++ here ∷ rest) (Insert (length front) via) ≡ Some (front ++ here ∷ via.0 ∷ here ∷ rest)
spur_comes mesh front rest here via edge =
    let some : 0 < length (front ++ here ∷ rest) = rw length-append (omega arith) in
    (by_replacing mesh (front ++ here ∷ rest) (front ++ here ∷ via.0 ∷ here ∷ rest) (Insert (length front) via) some).1
    (record {
      before = front;
      part = here ∷ [];
      other = here ∷ via.0 ∷ here ∷ [];
      after = rest;
      walk_is = sym (append_assoc front (here ∷ []) rest);
      next_is = sym (append_assoc front (here ∷ via.0 ∷ here ∷ []) rest);
      place = refl;
      replaces = (here, edge, refl, refl);
    })

-- a spur goes out
pub spur_goes : (mesh : FaceList) (front rest : List ℕ) (here : ℕ) (via : VertexName)
    → apply mesh (front ++ here ∷ via.0 ∷ here ∷ rest) (Remove (length front) via) ≡ Some (front ++ here ∷ rest)
spur_goes mesh front rest here via =
    let some : 0 < length (front ++ here ∷ via.0 ∷ here ∷ rest) = rw length-append (omega arith) in
    (by_replacing mesh (front ++ here ∷ via.0 ∷ here ∷ rest) (front ++ here ∷ rest) (Remove (length front) via) some).1
    (record {
      before = front;
      part = here ∷ via.0 ∷ here ∷ [];
      other = here ∷ [];
      after = rest;
      walk_is = sym (append_assoc front (here ∷ via.0 ∷ here ∷ []) rest);
      next_is = sym (append_assoc front (here ∷ []) rest);
      place = refl;
      replaces = (here, refl, refl);
    })

-- the greatest number of darts where so many entries stand in front and behind
pub greatest_raised : (mesh : FaceList) (moves : List Move) (walk next before after : List ℕ) → 0 < length walk
    → apply_all mesh walk moves ≡ Some next
    → greatest_darts mesh (before ++ walk ++ after) (all_raised (length before) moves) ≡ length before + length after + greatest_darts mesh
    walk moves
greatest_raised mesh [] walk next before after some e =
    omega (
      arith,
      some,
      greatest_darts-none mesh walk,
      greatest_darts-none mesh (before ++ walk ++ after),
      length-append (before ++ walk)
          after,
      length-append before walk,
    )
greatest_raised mesh (move ∷ moves) walk next before after some e =
    let told = first_answer (λ x. apply_all mesh x moves) (apply mesh walk move) next e in
    let one = in_context mesh walk told.0 before after move some told.1 in
    let rest = greatest_raised mesh moves told.0 next before after (stays_walk mesh walk told.0 move some told.1) told.2 in
    omega (
      arith,
      some,
      rest,
      greatest_darts-more mesh walk told.0 move moves told.1,
      greatest_darts-more mesh (before ++ walk ++ after) (before ++ told.0 ++ after) (raised (length before) move)
          (all_raised (length before) moves) one,
      length-append (before ++ walk) after,
      length-append before walk,
    )

-- the greatest number of darts of one list of moves after another
pub greatest_both : (mesh : FaceList) (moves others : List Move) (first between : List ℕ) → apply_all mesh first moves ≡ Some between
    → greatest_darts mesh first (moves ++ others) ≡ max (greatest_darts mesh first moves) (greatest_darts mesh between others)
greatest_both mesh [] others first between e =
    let same : first ≡ between = cc in
    omega (
      arith,
      greatest_darts-none mesh first,
      greatest_darts-first mesh first others,
      ap (λ (w : List ℕ). greatest_darts mesh w others)
          same,
    )
greatest_both mesh (move ∷ moves) others first between e =
    let told = first_answer (λ x. apply_all mesh x moves) (apply mesh first move) between e in
    let rest = greatest_both mesh moves others told.0 between told.2 in
    omega (
      arith,
      rest,
      greatest_darts-more mesh first told.0 move moves told.1,
      greatest_darts-more mesh first told.0 move
          (moves ++ others) told.1,
    )

-- no move acts beyond the greatest number of darts
pub places_below : (mesh : FaceList) (moves : List Move) (first last : List ℕ) (peak : ℕ) → 0 < length first
    → apply_all mesh first moves ≡ Some last
    → greatest_darts mesh first moves ≤ peak → All (λ (move : Move). place_of_move move ≤ peak) moves
places_below mesh [] first last peak some e le = All-nil (λ (move : Move). place_of_move move ≤ peak)
places_below mesh (move ∷ moves) first last peak some e le =
    let told = first_answer (λ x. apply_all mesh x moves) (apply mesh first move) last e in
    let r = (by_replacing mesh first told.0 move some).0 told.1 in
    let more = greatest_darts-more mesh first told.0 move moves told.1 in
    let walk : length first ≡ length r.before + length r.part + length r.after =
    ap (λ (l : List ℕ). length l) r.walk_is ∙ length-append (r.before ++ r.part) r.after
    ∙ ap (λ (n : ℕ). n + length r.after) (length-append r.before r.part) in
    All-cons (λ (m : Move). place_of_move m ≤ peak) move moves
    (omega (arith, r.place, walk, more, ap (λ (l : List ℕ). length l) (alike mesh move r.part r.other r.replaces).part_begins))
    (places_below mesh moves told.0 last peak (stays_walk mesh first told.0 move some told.1) told.2 (omega (arith, more)))

-- nor beyond the peak of a list
pub places_within : (mesh : FaceList) (first second : List ℕ) (list : PeakedMoves) → 0 < length first → LeadsAtPeak mesh first list second
    → All (λ (move : Move). place_of_move move ≤ list.peak) list.moves
places_within mesh first second list some h =
    places_below mesh list.moves first second list.peak some h.leads (omega (arith, h.peak))

-- one move more is noted further on
pub raised_more : (by : ℕ) (turn now begun : List Move) (k : ℕ) (move further : Move) → k < length turn → slice_get turn k ≡ Some move
    → further ≡ raised by move
    → now ≡ begun ++ all_raised by (take k turn) → now ++ further ∷ [] ≡ begun ++ all_raised by (take (k + 1) turn)
raised_more by turn now begun k move further l is same so_far =
    let more : take (k + 1) turn ≡ take k turn ++ move ∷ [] =
    take_more turn k move l ∙ ap (λ (m : Move). take k turn ++ m ∷ []) (get_or_from_slice_get turn k move move is) in
    let all : all_raised by (take (k + 1) turn) ≡ all_raised by (take k turn) ++ raised by move ∷ [] =
    ap (all_raised by) more ∙ map_push (raised by) (take k turn) move in
    ap (λ (l : List Move). l ++ further ∷ []) so_far ∙ append_assoc begun (all_raised by (take k turn)) (further ∷ [])
    ∙ ap (λ (m : Move). begun ++ (all_raised by (take k turn) ++ m ∷ [])) same ∙ ap (λ (l : List Move). begun ++ l) (sym all)
