-- The rings of a set of edges, kept as a list.
use Rattle.tree_cotree.proofs.Common.{IsPermutationBelow, rotation_system, darts_of, next_of, twin_of, edge_of, OrientedMesh, IsOrientedSurface, Rotations, rotations_of, IsRotationSystem, ◌≡◌, ◌≢◌, inl, inr, ℕ, suc, ◌+◌, ◌<◌, Bool, false, not, List, [], ◌∷◌, ◌++◌, length, get_or, refl, ap, sym, ◌∙◌, arith, set, cases_eq, common_steps, get_or-map, length-map, get_or-set_same, get_or-set_other, length-set, swap, replicate, DartName, ring_count, exchanged, RingView, AreRingsOf, ChangesByOne, dart_numbers, is_inside, rings_of, after_dart}
use Rattle.std.proofs.lemmas.List.Edits.{swap_is}
use Rattle.std.specs.Prelude.{slice_index}
use Rattle.tree_cotree.proofs.ExchangeLemmas.{at_first, at_second, elsewhere, exchanged_permutes, one_ring_more, one_ring_less}
use Rattle.tree_cotree.proofs.AfterLemmas.{turn, after_permutes, after_exchanges, DifferAt}
use Rattle.tree_cotree.proofs.SplitLemmas.{rings_same}

-- the number at a place of a list of darts
pub number_at : (xs : List DartName) (k : ℕ) (d : DartName) → k < length xs → get_or (dart_numbers xs) k 0 ≡ (get_or xs k d).0
number_at xs k d l = get_or-map (λ (x : DartName). x.0) xs k d 0 l

-- two entries exchanged
pub swap_exchanges : (xs ys : List DartName) (a b : ℕ) → ys ≡ swap xs a b → a < length xs → b < length xs → a ≢ b → (x : ℕ) → x < length xs
    → slice_index (dart_numbers ys) x ≡ exchanged (slice_index (dart_numbers xs)) a b x
swap_exchanges xs ys a b is l k ne x m =
    let none : DartName = record { 0 = 0 } in
    let f : ℕ → ℕ = slice_index (dart_numbers xs) in
    let once : List DartName = set xs a (get_or xs b none) in
    let twice : List DartName = set once b (get_or xs a none) in
    let ys_is : ys ≡ twice = is ∙ sym (swap_is xs a b none l k) in
    let once_long : length once ≡ length xs = length-set xs a (get_or xs b none) in
    let long : length ys ≡ length xs =
    ap (λ (zs : List DartName). length zs) ys_is ∙ length-set once b (get_or xs a none) ∙ once_long in
    let read : get_or (dart_numbers ys) x 0 ≡ (get_or twice x none).0 =
    number_at ys x none (omega (arith, m, long)) ∙ ap (λ (zs : List DartName). (get_or zs x none).0) ys_is in
    elim (cases_eq x b) [
      | inl at_b ↦
          (let there : get_or twice x none ≡ get_or xs a none =
          ap (λ i. get_or twice i none) at_b ∙ get_or-set_same once b (get_or xs a none) none (omega (arith, k, once_long)) in
          read ∙ ap (λ (y : DartName). y.0) there ∙ sym (number_at xs a none l) ∙ sym (ap (exchanged f a b) at_b ∙ at_second f a b ne))
      | inr not_b ↦
          (let past : get_or twice x none ≡ get_or once x none = get_or-set_other once b x (get_or xs a none) none not_b in
          elim (cases_eq x a) [
            | inl at_a ↦
                (let there : get_or once x none ≡ get_or xs b none =
                ap (λ i. get_or once i none) at_a ∙ get_or-set_same xs a (get_or xs b none) none l in
                read ∙ ap (λ (y : DartName). y.0) (past ∙ there) ∙ sym (number_at xs b none k)
                ∙ sym (ap (exchanged f a b) at_a ∙ at_first f a b))
            | inr not_a ↦
                (let there : get_or once x none ≡ get_or xs x none = get_or-set_other xs a x (get_or xs b none) none not_a in
                read ∙ ap (λ (y : DartName). y.0) (past ∙ there) ∙ sym (number_at xs x none m) ∙ sym (elsewhere f a b x not_a not_b))
          ])
    ]

-- either of two numbers may be named first
exchanged_either : (f : ℕ → ℕ) (a b x : ℕ) → a ≢ b → exchanged f a b x ≡ exchanged f b a x
exchanged_either f a b x ne = grind (arith, at_first, at_second, elsewhere)

-- the set with one edge put in or taken out
pub differ_at : (set_of others : List Bool) (e : ℕ) → e < length set_of → others ≡ set set_of e (not (is_inside set_of e))
    → DifferAt (is_inside set_of) (is_inside others) e
differ_at set_of others e l is = grind (arith, common_steps, elsewhere)

-- what a swap leaves
pub record IsSwapped (surface : OrientedMesh) (edge dart : ℕ) (old new : RingView) : Type 0 where
  pub dart_in : dart < darts_of surface
  pub dart_on : edge_of surface dart ≡ edge
  pub long : length new.after ≡ length old.after
  pub after : (x : ℕ) → x < darts_of surface → slice_index new.after x ≡ exchanged (slice_index old.after) dart (twin_of surface dart) x
  pub inside : new.inside ≡ set old.inside edge (not (is_inside old.inside edge))

follow_rule : {s : OrientedMesh} → IsOrientedSurface s → {rings : RingView} → AreRingsOf s rings
    → IsPermutationBelow (darts_of s) (slice_index rings.after)
follow_rule {s} h {rings} are =
    let p : IsPermutationBelow (darts_of s) (after_dart (rotations_of s) (is_inside rings.inside)) =
    after_permutes (rotations_of s) (rotation_system s h) (is_inside rings.inside) in grind arith

pub swapped_rings : {s : OrientedMesh} → IsOrientedSurface s → {edge dart : ℕ} {old new : RingView} → edge < length s.table
    → AreRingsOf s old
    → IsSwapped s edge dart old new → AreRingsOf s new
swapped_rings {s} h {edge} {dart} {old} {new} l are swapped =
    let maps : Rotations = rotations_of s in
    let differ : DifferAt (is_inside old.inside) (is_inside new.inside) edge =
    differ_at old.inside new.inside edge (omega (arith, l, are.each_edge)) swapped.inside in
    let here : DifferAt (is_inside old.inside) (is_inside new.inside) (edge_of s dart) = grind arith in
    let b : ℕ = twin_of s dart in
    let system : IsRotationSystem maps = rotation_system s h in
    record {
      each_edge = ap (λ (xs : List Bool). length xs) swapped.inside ∙ length-set old.inside edge (not (is_inside old.inside edge))
          ∙ are.each_edge;
      each_dart = swapped.long ∙ are.each_dart;
      rule = λ x k. swapped.after x k
          ∙ exchange_agrees (darts_of s) (slice_index old.after) (after_dart maps (is_inside old.inside)) dart b x swapped.dart_in
          (system.twin_within dart swapped.dart_in) k are.rule
          ∙ after_exchanges system dart swapped.dart_in here x k;
    }
  where
    exchange_agrees : (n : ℕ) (f g : ℕ → ℕ) (a b x : ℕ) → a < n → b < n → x < n → ((y : ℕ) → y < n → f y ≡ g y)
        → exchanged f a b x ≡ exchanged g a b x
    exchange_agrees n f g a b x l k m same = rw (same a l, same b k, same x m) refl

pub swapped_count : {s : OrientedMesh} → IsOrientedSurface s → {edge dart : ℕ} {old new : RingView} → AreRingsOf s old
    → IsSwapped s edge dart old new
    → ChangesByOne s edge old new
swapped_count {s} h {edge} {dart} {old} {new} are swapped =
    let maps : Rotations = rotations_of s in
    let system : IsRotationSystem maps = rotation_system s h in
    let n : ℕ = darts_of s in
    let f : ℕ → ℕ = slice_index old.after in
    let p : IsPermutationBelow n f = follow_rule h are in
    let old_is : rings_of old ≡ ring_count f n = ap (ring_count f) are.each_dart in
    let counted : (d : ℕ) → d < n → edge_of s d ≡ edge → rings_of new ≡ ring_count (exchanged f d (twin_of s d)) n = λ d l on.
    let exchange : (x : ℕ) → x < n → exchanged f d (twin_of s d) x ≡ slice_index new.after x =
    elim ((system.edges dart d swapped.dart_in l).0 (swapped.dart_on ∙ sym on)) [
      | inl is ↦ λ x k. ap (λ a. exchanged f a (twin_of s a) x) is ∙ sym (swapped.after x k)
      | inr turned ↦ λ x k. ap (λ a. exchanged f a (twin_of s a) x) turned
          ∙ ap (λ b. exchanged f (twin_of s dart) b x) (system.twin_back dart swapped.dart_in)
          ∙ exchanged_either f (twin_of s dart) dart x (system.twin_other dart swapped.dart_in) ∙ sym (swapped.after x k)
    ] in
    ap (ring_count (slice_index new.after)) (swapped.long ∙ are.each_dart)
    ∙ sym (rings_same (slice_index new.after)
    (exchanged_permutes d (twin_of s d) p l (system.twin_within d l) (λ e. system.twin_other d l (sym e))) exchange) in
    record {
      more = λ d l on reached. counted d l on ∙ one_ring_more p l (system.twin_within d l) (λ e. system.twin_other d l (sym e)) reached
          ∙ ap suc (sym old_is) ∙ (let e : suc (rings_of old) ≡ rings_of old + 1 = omega arith in e);
      fewer = λ d l on apart.
          old_is ∙ one_ring_less d (twin_of s d) p l (system.twin_within d l) (λ e. system.twin_other d l (sym e)) apart
          ∙ ap suc (sym (counted d l on)) ∙ (let e : suc (rings_of new) ≡ rings_of new + 1 = omega arith in e);
    }

-- rings as they are stored
abbrev pub stored_rings : List Bool → List DartName → RingView
stored_rings set_of xs = record { inside = set_of; after = dart_numbers xs }

pub stored_swap : {s : OrientedMesh} → IsOrientedSurface s → (edge a b : ℕ) (set_of others : List Bool) (xs ys : List DartName)
    → AreRingsOf s (stored_rings set_of xs) → a < darts_of s → edge_of s a ≡ edge → b ≡ twin_of s a → ys ≡ swap xs a b
    → others ≡ set set_of edge (not (get_or set_of edge false)) → IsSwapped s edge a (stored_rings set_of xs) (stored_rings others ys)
stored_swap {s} h edge a b set_of others xs ys are l on twin swapped changed =
    let system : IsRotationSystem (rotations_of s) = rotation_system s h in
    let long : length xs ≡ darts_of s = sym (length-map xs (λ (x : DartName). x.0)) ∙ are.each_dart in
    let is : ys ≡ swap xs a (twin_of s a) = swapped ∙ ap (swap xs a) twin in
    let a_in : a < length xs = omega (arith, l, long) in
    let b_in : twin_of s a < length xs = omega (arith, system.twin_within a l, long) in
    let none : DartName = record { 0 = 0 } in
    let same_long : length ys ≡ length xs = ap (λ (zs : List DartName). length zs) (is ∙ sym (swap_is xs a (twin_of s a) none a_in b_in))
    ∙ length-set (set xs a (get_or xs (twin_of s a) none)) (twin_of s a) (get_or xs a none)
    ∙ length-set xs a (get_or xs (twin_of s a) none) in
    record {
      dart_in = l;
      dart_on = on;
      long = length-map ys (λ (x : DartName). x.0) ∙ same_long ∙ sym (length-map xs (λ (x : DartName). x.0));
      after = λ x k. swap_exchanges xs ys a (twin_of s a) is a_in b_in (λ e. system.twin_other a l (sym e)) x (omega (arith, k, long));
      inside = changed;
    }

-- one more dart after another, on the rings of the empty set
pub turns_more : (s : OrientedMesh) (n : ℕ) (xs : List DartName) (x : DartName) → length xs ≡ n
    → ((d : ℕ) → d < n → get_or (dart_numbers xs) d 0 ≡ next_of s (twin_of s d)) → x.0 ≡ next_of s (twin_of s n)
    → (d : ℕ) → d < n + 1 → get_or (dart_numbers (xs ++ x ∷ [])) d 0 ≡ next_of s (twin_of s d)
turns_more s n xs x long turns is d l = grind (arith, common_steps, number_at)

pub empty_rings : (s : OrientedMesh) (set_of : List Bool) (xs : List DartName) → set_of ≡ replicate (length s.table) false
    → length xs ≡ darts_of s
    → ((d : ℕ) → d < darts_of s → get_or (dart_numbers xs) d 0 ≡ next_of s (twin_of s d)) → AreRingsOf s (stored_rings set_of xs)
empty_rings s set_of xs none long turns = grind (arith, common_steps, turn)
