-- Walks that are led on: nothing is done, one thing after another, and the same where more of a walk stands behind.
use Rattle.move_lifting.proofs.Common.{last_entry, walk_front, OrientedMesh, IsLedFrom, LeadsAtPeak, MoreRemove, load_of, IsLedOn, TrackView, GoesOn, GrowsOrShrinks, last_of, LeavesCotree, ◌≡◌, ℕ, ◌+◌, ◌-◌, ◌<◌, ◌≤◌, max, List, [], ◌∷◌, ◌++◌, length, take, ap, sym, ◌∙◌, subst, arith, append_assoc, length-append, common_steps, append-nil, list_keeps_walk, FaceList, PeakedMoves, IsWalk, SplitView}
use Rattle.move_lifting.proofs.LeavingLemmas.{more_on, none_more, removed_leave}
use Rattle.move_lifting.proofs.WithinLemmas.{load-joined, darts_weigh, within_put}

-- the last entry of a walk that goes on
pub last-behind : (front rest : List ℕ) (x : ℕ) → last_of (front ++ x ∷ rest) ≡ last_of (x ∷ rest)
last-behind front rest x = grind (arith, common_steps)

pub last-push : (front : List ℕ) (v : ℕ) → last_of (front ++ v ∷ []) ≡ v
last-push front v = last-behind front [] v

-- the end of a walk stays when its next vertex is put on what is laid
last_put : (old new tail : List ℕ) (v : ℕ) → last_of new ≡ v → last_of (new ++ tail) ≡ last_of (old ++ v ∷ tail)
last_put old new [] v is = ap last_of (append-nil new) ∙ is ∙ sym (last-push old v)
last_put old new (x ∷ tail) v is = grind (arith, last-behind)

-- nothing is done
pub led_itself : {s : OrientedMesh} {split : SplitView} (behind : ℕ) (walk : List ℕ) (list : PeakedMoves) → 0 < length walk
    → IsLedOn s split behind walk list walk list
led_itself {s} {split} behind walk list some = grind (arith, none_more)

-- one thing after another
pub led_after : {s : OrientedMesh} {split : SplitView} {behind : ℕ} {a b c : List ℕ} {x y z : PeakedMoves}
    → IsLedOn s split behind a x b y → IsLedOn s split behind b y c z → IsLedOn s split behind a x c z
led_after {s} {split} {x = x} {y} {z} h k = record {
  some = k.some;
  last = k.last ∙ h.last;
  goes = λ first rest l led. k.goes first rest l (h.goes first rest l led);
  leaves = more_on (LeavesCotree s split) x.moves y.moves z.moves h.leaves k.leaves;
  within = λ weight are. grind arith;
}

-- a vertex is put on a track
pub led_put : {s : OrientedMesh} {split : SplitView} (behind v : ℕ) (old new : TrackView)
    → GoesOn s.mesh behind (old.walk ++ v ∷ []) old.list new.walk new.list → 0 < length new.walk → last_of new.walk ≡ v
    → MoreRemove old.list.moves new.list.moves → GrowsOrShrinks old.walk new.walk v
    → length new.list.moves + length new.walk ≤ length old.list.moves + length old.walk + 1
    → new.list.peak ≤ max old.list.peak (length old.walk + behind)
    → IsLedOn s split behind (old.walk ++ v ∷ []) old.list new.walk new.list
led_put {s} {split} behind v old new goes some last more shape count peak = record {
  some = some;
  last = last ∙ sym (last-push old.walk v);
  goes = goes;
  leaves = removed_leave s split old.list.moves new.list.moves more;
  within = within_put s split behind v old new shape some count peak;
}

-- what is done in front of what stands behind
pub goes_behind : (mesh : FaceList) (after behind : ℕ) (old new rest : List ℕ) (list more : PeakedMoves)
    → GoesOn mesh after old list new more → after ≡ length rest + behind → GoesOn mesh behind (old ++ rest) list (new ++ rest) more
goes_behind mesh after behind old new rest list more goes counted first others l h =
    subst (LeadsAtPeak mesh first more) (sym (append_assoc new rest others))
    (goes first (rest ++ others) (omega (arith, length-append rest others, l, counted))
    (subst (LeadsAtPeak mesh first list) (append_assoc old rest others) h))

-- the same where more of the walk stands behind
pub led_behind : {s : OrientedMesh} {split : SplitView} {after : ℕ} {new : List ℕ} {list more : PeakedMoves} (behind : ℕ) (old : List ℕ)
    (v : ℕ) (rest : List ℕ)
    → IsLedOn s split after (old ++ v ∷ []) list new more → after ≡ length rest + behind
    → IsLedOn s split behind (old ++ v ∷ rest) list (new ++ rest) more
led_behind {s} {split} {after} {new} {list} {more} behind old v rest h counted =
    let last : last_of new ≡ v = h.last ∙ last-push old v in
    record {
      some = omega (arith, h.some, length-append new rest);
      last = last_put old new rest v last;
      goes = subst (λ (l : List ℕ). GoesOn s.mesh behind l list (new ++ rest) more) (append_assoc old (v ∷ []) rest)
          (goes_behind s.mesh after behind (old ++ v ∷ []) new rest list more h.goes counted);
      leaves = h.leaves;
      within = λ weight are.
          let front : List ℕ = take (length new - 1) new in
          let new_is : new ≡ front ++ v ∷ [] = last_entry new h.some ∙ ap (λ (x : ℕ). front ++ x ∷ []) last in
          let whole : new ++ rest ≡ front ++ v ∷ rest = ap (λ (l : List ℕ). l ++ rest) new_is ∙ append_assoc front (v ∷ []) rest in
          let one = h.within weight are in
          let before = load-joined weight old rest v in
          let other = load-joined weight front rest v in (
            omega (arith, one.0, before, other, ap (load_of weight) whole, ap (load_of weight) new_is),
            omega (arith, one.1, before, counted, darts_weigh weight are.some (v ∷ rest)),
            omega (arith, one.2, before, other, ap (load_of weight) whole, ap (load_of weight) new_is),
          );
    }

-- a walk that some walk was led to, and what it is led on to, are walks
pub led_from : {s : OrientedMesh} {split : SplitView} {behind : ℕ} {walk next : List ℕ} {list more : PeakedMoves}
    → IsLedFrom s.mesh behind walk list → IsLedOn s split behind walk list next more → IsLedFrom s.mesh behind next more
led_from from on = record {
  first = from.first;
  rest = from.rest;
  starts = from.starts;
  long = from.long;
  leads = on.goes from.first from.rest from.long from.leads;
  some = on.some;
}

pub led_walk : {mesh : FaceList} {behind : ℕ} {walk : List ℕ} {list : PeakedMoves} → IsLedFrom mesh behind walk list → IsWalk mesh walk
led_walk {mesh} {behind} {walk} {list} led =
    walk_front mesh walk led.rest led.some
    (list_keeps_walk mesh list.moves led.first (walk ++ led.rest) led.starts led.leads.leads)
