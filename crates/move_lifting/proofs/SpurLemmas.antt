-- Walks from which spurs are taken out as they are laid, up to spurs.
use Rattle.move_lifting.proofs.Common.{spur_goes, last_entry, LeadsAtPeak, IsRemoval, MoreRemove, TrackView, GoesOn, GrowsOrShrinks, last_of, free_equality, ◌≡◌, inl, inr, ℕ, ◌+◌, ◌-◌, ◌<◌, ◌≤◌, max, List, [], ◌∷◌, ◌++◌, length, take, drop, get_or, refl, ap, sym, ◌∙◌, subst, arith, append_assoc, common_steps, append-nil, drop_all, take_all, take_more, length-take-le, length-drop, All-nil, All-cons, FaceList, IsSpurMove, AreFreelyEqual, HasNoSpur, PeakedMoves, darts, Move, Remove}
use Rattle.move_lifting.proofs.ListLemmas.{read_on, one_no_spur}
use Rattle.move_lifting.proofs.LedLemmas.{goes_behind}
use Rattle.move_lifting.proofs.LeavingLemmas.{more_on, none_more}

-- one entry more, and its spur if it makes one taken out
pub put_freely : (mesh : FaceList) (old new : List ℕ) (next : ℕ) → GrowsOrShrinks old new next → 0 < length new → last_of new ≡ next
    → AreFreelyEqual mesh (old ++ next ∷ []) new
put_freely mesh old new next (inl grows) some last = grind (arith, free_equality)
put_freely mesh old new next (inr shrinks) some last =
    let front : List ℕ = take (length new - 1) new in
    let via : ℕ = shrinks.0 in
    let new_is : new ≡ front ++ next ∷ [] = last_entry new some ∙ ap (λ (x : ℕ). front ++ x ∷ []) last in
    let old_is : old ++ next ∷ [] ≡ front ++ next ∷ via ∷ next ∷ [] =
    ap (λ (l : List ℕ). l ++ next ∷ []) shrinks.1 ∙ ap (λ (l : List ℕ). l ++ via ∷ [] ++ next ∷ []) new_is ∙ regroup front next via in
    let move : Move = Remove (length front) (record { 0 = via }) in
    let one = spur_goes mesh front [] next (record { 0 = via }) in
    subst (λ (l : List ℕ). AreFreelyEqual mesh l new) (sym old_is)
    (subst (AreFreelyEqual mesh (front ++ next ∷ via ∷ next ∷ [])) (sym new_is)
    (move ∷ [], All-cons IsSpurMove move [] tt (All-nil IsSpurMove), rw one refl))
  where
    regroup : (front : List ℕ) (next via : ℕ) → front ++ next ∷ [] ++ via ∷ [] ++ next ∷ [] ≡ front ++ next ∷ via ∷ next ∷ []
    regroup front next via = simp append_assoc

-- what stands behind is put on what the walk in front has become
pub freely_further : (mesh : FaceList) (walk old new rest : List ℕ) → 0 < length walk → AreFreelyEqual mesh walk old
    → AreFreelyEqual mesh (old ++ rest) new
    → AreFreelyEqual mesh (walk ++ rest) new
freely_further mesh walk old new rest some h k =
    (free_equality mesh).on (walk ++ rest) (old ++ rest) new ((free_equality mesh).within [] walk old rest some h) k

-- what holds while the spurs of a walk are taken out, when its first n entries are read
pub record IsReducedSoFar (behind : ℕ) (walk : List ℕ) (begun : PeakedMoves) (track : TrackView) (n : ℕ) : Type 0 where
  pub some : 0 < length track.walk
  pub no_spur : HasNoSpur track.walk
  pub long : length track.walk ≤ n
  pub last : last_of track.walk ≡ get_or walk (n - 1) 0
  pub freely : (mesh : FaceList) → AreFreelyEqual mesh (take n walk) track.walk
  pub goes : (mesh : FaceList) → GoesOn mesh behind walk begun (track.walk ++ drop n walk) track.list
  pub peak : track.list.peak ≤ max begun.peak (darts walk + behind)
  pub removals : MoreRemove begun.moves track.list.moves

pub reduced_first : (behind : ℕ) (walk : List ℕ) (begun : PeakedMoves) (track : TrackView) (v spare : ℕ) → 0 < length walk
    → get_or walk 0 0 ≡ v → track ≡ record { walk = v ∷ []; list = begun; spare = spare } → IsReducedSoFar behind walk begun track 1
reduced_first behind walk begun track v spare some is start = grind (arith, common_steps, one_no_spur, free_equality, none_more)

pub reduced_more : {behind : ℕ} {walk : List ℕ} {begun : PeakedMoves} {track : TrackView} {n : ℕ} (new : TrackView) (v after : ℕ)
    → IsReducedSoFar behind walk begun track n
    → 0 < n → n < length walk → get_or walk n 0 ≡ v → after ≡ length walk - n - 1 + behind
    → ((mesh : FaceList) → GoesOn mesh after (track.walk ++ v ∷ []) track.list new.walk new.list) → 0 < length new.walk → HasNoSpur new.walk
    → last_of new.walk ≡ v → length new.walk ≤ length track.walk + 1 → GrowsOrShrinks track.walk new.walk v
    → new.list.peak ≤ max track.list.peak (length track.walk + after) → MoreRemove track.list.moves new.list.moves
    → IsReducedSoFar behind walk begun new (n + 1)
reduced_more {behind} {walk} {begun} {track} {n} new v after led begins l is counted goes some no_spur last long shape peak removals =
    let place : n + 1 - 1 ≡ n = omega arith in
    let more : take (n + 1) walk ≡ take n walk ++ v ∷ [] = take_more walk n 0 l ∙ ap (λ (x : ℕ). take n walk ++ x ∷ []) is in
    let begun_some : 0 < length (take n walk) = omega (arith, length-take-le n walk (omega arith)) in
    record {
      some = some;
      no_spur = no_spur;
      long = omega (arith, long, led.long);
      last = last ∙ sym is ∙ ap (λ (k : ℕ). get_or walk k 0) (sym place);
      freely = λ mesh. subst (λ (w : List ℕ). AreFreelyEqual mesh w new.walk) (sym more)
          (freely_further mesh (take n walk) track.walk new.walk (v ∷ []) begun_some (led.freely mesh)
          (put_freely mesh track.walk new.walk v shape some last));
      goes = λ mesh first rest k h.
          goes_behind mesh after behind (track.walk ++ v ∷ []) new.walk (drop (n + 1) walk) track.list new.list (goes mesh)
          (omega (arith, length-drop (n + 1) walk, counted)) first rest k
          (subst (λ (w : List ℕ). LeadsAtPeak mesh first track.list (w ++ rest)) (read_on track.walk walk n v l is)
          (led.goes mesh first rest k h));
      peak = omega (arith, peak, led.peak, led.long, counted, l);
      removals = more_on IsRemoval begun.moves track.list.moves new.list.moves led.removals removals;
    }

-- when all entries are read
pub reduced_all : {behind : ℕ} {walk : List ℕ} {begun : PeakedMoves} {track : TrackView} {n : ℕ}
    → IsReducedSoFar behind walk begun track n → n ≡ length walk
    → ((mesh : FaceList) → GoesOn mesh behind walk begun track.walk track.list) × ((mesh : FaceList) → AreFreelyEqual mesh walk track.walk)
    × (last_of track.walk ≡ last_of walk)
reduced_all {behind} {walk} {begun} {track} {n} led all = (
  λ mesh. subst (λ (w : List ℕ). GoesOn mesh behind walk begun w track.list)
      (ap (λ (w : List ℕ). track.walk ++ w) (drop_all n walk (omega arith)) ∙ append-nil track.walk) (led.goes mesh),
  λ mesh. subst (λ (w : List ℕ). AreFreelyEqual mesh w track.walk) (take_all n walk (omega arith)) (led.freely mesh),
  led.last ∙ ap (λ (k : ℕ). get_or walk (k - 1) 0) all,
)
