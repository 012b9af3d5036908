-- The darts that wait while a search is underway: each found node is crossed, or a dart of it waits.
use Rattle.tree_cotree.proofs.Common.{Rotations, ◌≡◌, ◌⊎◌, inl, inr, ℕ, ◌+◌, ◌-◌, ◌<◌, Bool, List, [], ◌∷◌, ◌++◌, length, get_or, refl, ap, sym, ◌∙◌, subst, arith, cases_lt, common_steps, get_or_read, length-append, get_or-append_right, append_assoc, map-append, option_to_list, Option, Some, None, IfSome, IfNone, Contains, DartName, dart_numbers, IsFound, IsOrder, IsNodeCrossed, IsSearched, AreAdded, waiting_darts, IsTakenOut}
use Rattle.std.proofs.lemmas.List.Elements.{Contains-append_left, Contains-append_right, Contains-append_cases, Contains-push_cases, Contains-get_or}
use Rattle.tree_cotree.proofs.SearchLemmas.{GoesOn, added_goes, crossed_on}

-- what is taken stood there, what is left stood there, nothing else did, and one waits less
taken_stood : {old new : List ℕ} {x : ℕ} → IsTakenOut old new x → Contains old x
taken_stood {x} t =
    subst (λ (xs : List ℕ). Contains xs x) (sym t.was) (Contains-append_right t.before (x ∷ t.behind) x (0, omega arith, refl))

taken_stays : {old new : List ℕ} {x : ℕ} → IsTakenOut old new x → (y : ℕ) → Contains new y → Contains old y
taken_stays {x} t y h =
    subst (λ (xs : List ℕ). Contains xs y) (sym t.was)
    (elim (Contains-append_cases t.before t.behind y (subst (λ (xs : List ℕ). Contains xs y) t.is h)) [
      | inl before ↦ Contains-append_left t.before (x ∷ t.behind) y before
      | inr behind ↦ Contains-append_right t.before (x ∷ t.behind) y (Contains-append_right (x ∷ []) t.behind y behind)
    ])

taken_others : {old new : List ℕ} {x : ℕ} → IsTakenOut old new x → (y : ℕ) → Contains old y → (y ≡ x) ⊎ Contains new y
taken_others {x} t y h =
    let split : Contains ((t.before ++ x ∷ []) ++ t.behind) y =
    subst (λ (xs : List ℕ). Contains xs y) (t.was ∙ sym (append_assoc t.before (x ∷ []) t.behind)) h in
    subst (λ (xs : List ℕ). (y ≡ x) ⊎ Contains xs y) (sym t.is) (elim (Contains-append_cases (t.before ++ x ∷ []) t.behind y split) [
      | inl front ↦ elim (Contains-push_cases t.before x y front) [
        | inl before ↦ inr (Contains-append_left t.before t.behind y before)
        | inr same ↦ inl (sym same)
      ]
      | inr behind ↦ inr (Contains-append_right t.before t.behind y behind)
    ])

pub taken_longer : {old new : List ℕ} {x : ℕ} → IsTakenOut old new x → length old ≡ length new + 1
taken_longer {x} t = grind (arith, common_steps)

numbers_apart : (far near : List DartName) → waiting_darts far near ≡ dart_numbers far ++ dart_numbers near
numbers_apart far near = map-append (λ (d : DartName). d.0) far near

-- the first of the present patch leaves
pub taken_near : (first : Option DartName) (far near rest : List DartName) → near ≡ option_to_list first ++ rest
    → IfSome first (λ dart. IsTakenOut (waiting_darts far near) (waiting_darts far rest) dart.0)
taken_near None far near rest is = tt
taken_near (Some first) far near rest is = grind (arith, numbers_apart)

-- the first of all leaves, where all wait for a patch of their own
pub taken_far : (first : Option DartName) (far near all rest none : List DartName) → all ≡ far ++ near → none ≡ []
    → all ≡ option_to_list first ++ rest
    → IfSome first (λ dart. IsTakenOut (waiting_darts far near) (waiting_darts rest none) dart.0)
taken_far None far near all rest none whole empty is = tt
taken_far (Some first) far near all rest none whole empty is = grind (arith, common_steps)

-- the last of the present patch leaves
pub taken_near_last : (last : Option DartName) (far near rest : List DartName) → near ≡ rest ++ option_to_list last
    → IfSome last (λ dart. IsTakenOut (waiting_darts far near) (waiting_darts far rest) dart.0)
taken_near_last None far near rest is = tt
taken_near_last (Some last) far near rest is = grind (arith, common_steps, numbers_apart)

-- the last of the others leaves
pub taken_far_last : (last : Option DartName) (far near same rest : List DartName) → near ≡ same ++ [] → far ≡ rest ++ option_to_list last
    → IfSome last (λ dart. IsTakenOut (waiting_darts far near) (waiting_darts rest same) dart.0)
taken_far_last None far near same rest stays is = tt
taken_far_last (Some last) far near same rest stays is = grind (arith, common_steps, numbers_apart)

-- what a dart that is taken, or none, says
pub taken : (first : Option DartName) (x : DartName) (waiting rest : List ℕ) → first ≡ Some x
    → IfSome first (λ dart. IsTakenOut waiting rest dart.0)
    → IsTakenOut waiting rest x.0
taken first x waiting rest is h = subst (λ (o : Option DartName). IfSome o (λ dart. IsTakenOut waiting rest dart.0)) is h

pub none_waits : (first : Option DartName) (waiting : List ℕ) → ((x : DartName) → first ≡ Some x → ⊥) → IfNone first (waiting ≡ [])
    → waiting ≡ []
none_waits None waiting never h = h
none_waits (Some x) waiting never h = absurd (never x refl)

-- a search that is underway
pub record IsUnderway (maps : Rotations) (node : ℕ → ℕ) (allowed : ℕ → Bool) (bound root : ℕ) (order waiting : List ℕ)
    (from : List (Option ℕ)) : Type 0 where
  pub is_order : IsOrder maps node allowed bound root order from
  pub known : (x : ℕ) → Contains waiting x → Contains order x
  pub either : (j : ℕ) → j < length order → IsNodeCrossed maps node allowed order (node (get_or order j 0))
      ⊎ Contains waiting (get_or order j 0)

-- the dart that is taken is one, of a node that was found
pub taken_dart : {maps : Rotations} {node : ℕ → ℕ} {allowed : ℕ → Bool} {bound root : ℕ} {order waiting rest : List ℕ}
    {from : List (Option ℕ)} {x : ℕ}
    → IsUnderway maps node allowed bound root order waiting from → IsTakenOut waiting rest x → x < maps.darts
taken_dart {order} {x} h t =
    let k = h.known x (taken_stood t) in
    omega (arith, h.is_order.within k.0 k.1, get_or_read order k.0 x k.1 (sym k.2) 0)

pub taken_found : {maps : Rotations} {node : ℕ → ℕ} {allowed : ℕ → Bool} {bound root : ℕ} {order waiting rest : List ℕ}
    {from : List (Option ℕ)} {x : ℕ}
    → IsUnderway maps node allowed bound root order waiting from → IsTakenOut waiting rest x → IsFound node order (node x)
taken_found {node} {order} {x} h t =
    let k = h.known x (taken_stood t) in
    record { place = k.0; within = k.1; is = ap node (sym (get_or_read order k.0 x k.1 (sym k.2) 0)) }

-- one more node is crossed
pub underway_more : {maps : Rotations} {node : ℕ → ℕ} {allowed : ℕ → Bool} {bound root : ℕ} {order waiting rest new more : List ℕ}
    {from kept : List (Option ℕ)} {x : ℕ}
    → IsUnderway maps node allowed bound root order waiting from → IsTakenOut waiting rest x → IsOrder maps node allowed bound root new kept
    → AreAdded order rest new more → IsNodeCrossed maps node allowed new (node x) → IsUnderway maps node allowed bound root new more kept
underway_more {maps} {node} {allowed} {order} {rest} {new} {more} h t is adds crossed =
    let goes : GoesOn order new = added_goes adds in
    record {
      is_order = is;
      known = λ y among.
          subst (λ (ts : List ℕ). Contains ts y) (sym adds.order)
          (elim (Contains-append_cases rest adds.added y (subst (λ (ts : List ℕ). Contains ts y) adds.waits among)) [
            | inl before ↦ Contains-append_left order adds.added y (h.known y (taken_stays t y before))
            | inr later ↦ Contains-append_right order adds.added y later
          ]);
      either = λ j l. elim (cases_lt j (length order)) [
        | inl less ↦
            (let old : get_or new j 0 ≡ get_or order j 0 = goes.same j less in
            elim (h.either j less) [
              | inl closed ↦ inl (subst (λ y. IsNodeCrossed maps node allowed new (node y)) (sym old)
                  (crossed_on maps node allowed order new (node (get_or order j 0)) goes closed))
              | inr waits ↦ elim (taken_others t (get_or order j 0) waits) [
                | inl same ↦ inl (subst (λ y. IsNodeCrossed maps node allowed new (node y)) (sym (old ∙ same)) crossed)
                | inr stays ↦ inr (rw (old, adds.waits) (Contains-append_left rest adds.added (get_or order j 0) stays))
              ]
            ])
        | inr late ↦
            (let i : ℕ = j - length order in
            let at : get_or new j 0 ≡ get_or adds.added i 0 =
            ap (λ (ts : List ℕ). get_or ts j 0) adds.order ∙ get_or-append_right order adds.added (length order) j 0 refl late in
            let within : i < length adds.added =
            omega (arith, l, ap (λ (ts : List ℕ). length ts) adds.order, length-append order adds.added) in
            inr (rw (at, adds.waits)
            (Contains-append_right rest adds.added (get_or adds.added i 0) (Contains-get_or adds.added i 0 within))))
      ];
    }

-- where none waits, the search is done
pub underway_done : {maps : Rotations} {node : ℕ → ℕ} {allowed : ℕ → Bool} {bound root : ℕ} {order waiting : List ℕ}
    {from : List (Option ℕ)}
    → IsUnderway maps node allowed bound root order waiting from → waiting ≡ [] → IsSearched maps node allowed bound root from
underway_done {order} h none = record {
  order = order;
  is_order = h.is_order;
  closed = λ j l. elim (h.either j l) [
    | inl closed ↦ closed
    | inr waits ↦ absurd (omega (arith, waits.1, ap (λ (ws : List ℕ). length ws) none))
  ];
}
