-- Spurs that are taken out of a walk in place: what stands in front has none, and the rest is as it was.
use Rattle.move_lifting.proofs.Common.{cut, IsRemoval, TrackView, GoesOn, IsStepBack, IsNextPut, last_of, ◌≡◌, inr, ℕ, ◌+◌, ◌-◌, ◌<◌, ◌≤◌, max, List, [], ◌∷◌, ◌++◌, length, take, drop, get_or, ap, sym, ◌∙◌, subst, arith, length-append, common_steps, take_more, take_all, drop_all, length-take-le, length-drop, get_or-take, get_or-drop, take-append-le, drop-append-le, drop-drop, All-cons, All-nil, FaceList, AreFreelyEqual, HasNoSpur, PeakedMoves, darts, Remove, VertexName}
use Rattle.move_lifting.proofs.MoveLemmas.{step_back_goes, step_back_no_spur}
use Rattle.move_lifting.proofs.SpurLemmas.{IsReducedSoFar, reduced_first, reduced_more, reduced_all}

-- the first entries of a walk, as a track of their own
abbrev pub front_of : TrackView → ℕ → TrackView
front_of track front = record { walk = take front track.walk; list = track.list; spare = 0 }

-- the next entry leads straight back, and the last one in front goes with it
pub next_back : (behind : ℕ) (old new : TrackView) (front : ℕ) (via : VertexName) → 1 < front → front < length old.walk
    → HasNoSpur (take front old.walk) → get_or old.walk (front - 2) 0 ≡ get_or old.walk front 0
    → via.0 ≡ get_or old.walk (front - 1) 0 → new.walk ≡ cut old.walk (front - 1) (front + 1)
    → new.list ≡ record {
      moves = old.list.moves ++ Remove (front - 2) via ∷ [];
      peak = max old.list.peak (length old.walk - 3 + behind);
    } → IsNextPut behind old front new (front - 1)
next_back behind old new front via some l no_spur same read walk_is noted =
    let next : ℕ = get_or old.walk front 0 in
    let laid : List ℕ = take front old.walk in
    let shorter : List ℕ = take (front - 1) old.walk in
    let after : ℕ = length old.walk - front - 1 + behind in
    let front_is : front - 1 + 1 ≡ front = omega arith in
    let laid_long : length laid ≡ front = length-take-le front old.walk (omega arith) in
    let short_long : length shorter ≡ front - 1 = length-take-le (front - 1) old.walk (omega arith) in
    let laid_is : laid ≡ shorter ++ via.0 ∷ [] =
    ap (λ (n : ℕ). take n old.walk) (sym front_is) ∙ take_more old.walk (front - 1) 0 (omega arith)
    ∙ ap (λ (x : ℕ). shorter ++ x ∷ []) (sym read) in
    let here : take (front - 1) new.walk ≡ shorter =
    ap (λ (w : List ℕ). take (front - 1) w) walk_is
    ∙ take-append-le (front - 1) shorter (drop (front + 1) old.walk) (omega (arith, short_long))
    ∙ take_all (front - 1) shorter (omega (arith, short_long)) in
    let rest : drop (front - 1) new.walk ≡ drop (front + 1) old.walk =
    ap (λ (w : List ℕ). drop (front - 1) w) walk_is
    ∙ drop-append-le (front - 1) shorter (drop (front + 1) old.walk) (omega (arith, short_long))
    ∙ ap (λ (w : List ℕ). w ++ drop (front + 1) old.walk) (drop_all (front - 1) shorter (omega (arith, short_long))) in
    let at : front - 2 ≡ length laid - 2 = omega (arith, laid_long) in
    let count : length old.walk - 3 + behind ≡ length laid - 2 + after = omega (arith, laid_long) in
    let before : TrackView = front_of old front in
    let then : TrackView = record { walk = shorter; list = new.list; spare = 0 } in
    let back : IsStepBack after before then = record {
      via = via;
      walk = laid_is;
      list = subst (λ (n : ℕ). new.list ≡ record {
        moves = old.list.moves ++ Remove (length laid - 2) via ∷ [];
        peak = max old.list.peak n;
      }) count
          (subst (λ (n : ℕ). new.list ≡ record {
            moves = old.list.moves ++ Remove n via ∷ [];
            peak = max old.list.peak (length old.walk - 3 + behind);
          }) at noted);
    } in
    let begun : 1 < length laid = omega (arith, laid_long) in
    let came : get_or laid (length laid - 2) 0 ≡ next =
    ap (λ (n : ℕ). get_or laid n 0) (sym at) ∙ get_or-take front old.walk (front - 2) 0 (omega arith) ∙ same in
    let last_at : length shorter - 1 ≡ front - 2 = omega (arith, short_long) in
    let last : last_of shorter ≡ next =
    ap (λ (n : ℕ). get_or shorter n 0) last_at ∙ get_or-take (front - 1) old.walk (front - 2) 0 (omega arith) ∙ same in
    let new_long : front - 1 ≤ length new.walk =
    omega (arith, ap (λ (w : List ℕ). length w) walk_is, length-append shorter (drop (front + 1) old.walk), short_long) in
    record {
      within = new_long;
      rest = rest;
      leads = λ mesh. subst (λ (w : List ℕ). GoesOn mesh after (laid ++ next ∷ []) old.list w new.list) (sym here)
          (step_back_goes mesh next begun came back);
      some = omega arith;
      no_spur = subst HasNoSpur (sym here) (step_back_no_spur no_spur back);
      last = ap last_of here ∙ last;
      long = omega arith;
      peak = omega (arith, ap (λ (p : PeakedMoves). p.peak) noted);
      removals = (
        Remove (front - 2) via ∷ [],
        ap (λ (p : PeakedMoves). p.moves) noted,
        All-cons IsRemoval (Remove (front - 2) via) [] tt
            (All-nil IsRemoval),
      );
      shape = inr (via.0, laid_is ∙ ap (λ (w : List ℕ). w ++ via.0 ∷ []) (sym here));
    }

-- what holds while the spurs of a walk are taken out in place, when its first n entries are read and `front` of them are left
pub record IsReducedInPlace (behind : ℕ) (walk : List ℕ) (begun : PeakedMoves) (track : TrackView) (front n : ℕ) : Type 0 where
  pub so_far : IsReducedSoFar behind walk begun (front_of track front) n
  pub some : 0 < front
  pub within : front ≤ length track.walk
  pub rest : drop front track.walk ≡ drop n walk

pub in_place_first : (behind spare : ℕ) (walk : List ℕ) (begun : PeakedMoves) → 0 < length walk
    → IsReducedInPlace behind walk begun (record { walk = walk; list = begun; spare = spare }) 1 1
in_place_first behind spare walk begun some = grind (arith, common_steps, reduced_first, front_of)

-- one entry is left at least to be put
pub in_place_next : {behind : ℕ} {walk : List ℕ} {begun : PeakedMoves} {track : TrackView} {front n : ℕ}
    → IsReducedInPlace behind walk begun track front n → n ≤ length walk → length track.walk + n ≡ length walk + front
in_place_next {walk} {track} {front} {n} now l =
    omega (
      arith,
      ap (λ (w : List ℕ). length w) now.rest,
      length-drop front track.walk,
      length-drop n walk,
      now.within,
      l,
    )

pub in_place_short : {behind : ℕ} {walk : List ℕ} {begun : PeakedMoves} {track : TrackView} {front n : ℕ}
    → IsReducedInPlace behind walk begun track front n → n ≤ length walk → length track.walk ≤ length walk
in_place_short {track} {front} now l = grind (arith, common_steps, in_place_next)

pub in_place_more : {behind : ℕ} {walk : List ℕ} {begun : PeakedMoves} {track new : TrackView} {front next n : ℕ}
    → IsReducedInPlace behind walk begun track front n → 0 < n → n < length walk → IsNextPut behind track front new next
    → IsReducedInPlace behind walk begun new next (n + 1)
in_place_more {behind} {walk} {track} {new} {front} {next} {n} now begins l put =
    let v : ℕ = get_or track.walk front 0 in
    let count : length track.walk + n ≡ length walk + front = in_place_next now (omega arith) in
    let entry : get_or walk n 0 ≡ v =
    ap (λ (k : ℕ). get_or walk k 0) (let e : n ≡ n + 0 = omega arith in e)
    ∙ sym (get_or-drop n walk 0 0) ∙ ap (λ (w : List ℕ). get_or w 0 0) (sym now.rest) ∙ get_or-drop front track.walk 0 0
    ∙ ap (λ (k : ℕ). get_or track.walk k 0) (let e : front + 0 ≡ front = omega arith in e) in
    let laid_long : length (take front track.walk) ≡ front = length-take-le front track.walk now.within in
    let put_long : length (take next new.walk) ≡ next = length-take-le next new.walk put.within in
    record {
      so_far = reduced_more (front_of new next) v (length track.walk - front - 1 + behind) now.so_far begins l entry
          (omega (arith, count, now.within)) put.leads (omega (arith, put_long, put.some)) put.no_spur put.last
          (omega (arith, put_long, laid_long, put.long)) put.shape (omega (arith, put.peak, laid_long, count, now.within, l))
          put.removals;
      some = put.some;
      within = put.within;
      rest = put.rest ∙ sym (drop-drop 1 front track.walk) ∙ ap (λ (w : List ℕ). drop 1 w) now.rest ∙ drop-drop 1 n walk;
    }

-- when all entries are read
pub record IsReduced (behind : ℕ) (walk : List ℕ) (begun : PeakedMoves) (track : TrackView) : Type 0 where
  pub goes : (mesh : FaceList) → GoesOn mesh behind walk begun track.walk track.list
  pub freely : (mesh : FaceList) → AreFreelyEqual mesh walk track.walk
  pub no_spur : HasNoSpur track.walk
  pub last : last_of track.walk ≡ last_of walk
  pub few : length track.walk ≤ length walk
  pub peak : track.list.peak ≤ max begun.peak (darts walk + behind)

pub in_place_all : {behind : ℕ} {walk : List ℕ} {begun : PeakedMoves} {track : TrackView} {front n : ℕ}
    → IsReducedInPlace behind walk begun track front n → n ≡ length walk → IsReduced behind walk begun track
in_place_all {behind} {walk} {begun} {track} {front} {n} now all =
    let count : length track.walk + n ≡ length walk + front =
    in_place_next now (omega (arith, all)) in
    let whole : take front track.walk ≡ track.walk = take_all front track.walk (omega (arith, count, all)) in
    let end = reduced_all now.so_far all in
    record {
      goes = λ mesh. subst (λ (w : List ℕ). GoesOn mesh behind walk begun w track.list) whole (end.0 mesh);
      freely = λ mesh. subst (λ (w : List ℕ). AreFreelyEqual mesh walk w) whole (end.1 mesh);
      no_spur = subst HasNoSpur whole now.so_far.no_spur;
      last = ap last_of (sym whole) ∙ end.2;
      few = omega (arith, ap (λ (w : List ℕ). length w) whole, now.so_far.long, all);
      peak = now.so_far.peak;
    }
