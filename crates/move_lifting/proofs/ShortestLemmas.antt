-- A walk without spurs is the shortest of those that are equal to it up to spurs.
use Rattle.move_lifting.proofs.Common.{last_entry, last_of, ◌≡◌, ◌≢◌, inr, inl, ℕ, ◌+◌, ◌-◌, ◌<◌, ◌≤◌, List, [], ◌∷◌, ◌++◌, length, take, get_or, ap, sym, ◌∙◌, subst, arith, append_assoc, length-append, cases_lt, cases_eq, common_steps, get_or_append_left, length-take-le, spur_list_same, FaceList, AreFreelyEqual, HasNoSpur}
use Rattle.surf_model.proofs.StackLemmas.{AreSame, same_after, same_before, spur_same, same_equal}
use Rattle.move_lifting.proofs.ListLemmas.{front_and_last, no_spur_front, no_spur_on, one_no_spur}

turned_same : (a b : List ℕ) → AreSame a b → AreSame b a
turned_same a b h stack clean = sym (h stack clean)

same_on : (a b c : List ℕ) → AreSame a b → AreSame b c → AreSame a c
same_on a b c h k stack clean = h stack clean ∙ k stack clean

-- a walk without spurs, no longer than the walk, and the same up to spurs
record HasReduced (walk : List ℕ) : Type 0 where
  pub reduced : List ℕ
  pub some : 0 < length reduced
  pub no_spur : HasNoSpur reduced
  pub long : length reduced ≤ length walk
  pub same : AreSame walk reduced

-- one vertex more behind a walk without spurs
grows : (laid : List ℕ) (v : ℕ) → HasNoSpur laid → ((k : ℕ) → k + 2 ≡ length laid → get_or laid k 0 ≢ v) → HasReduced (laid ++ v ∷ [])
grows laid v clean other = grind (arith, common_steps, no_spur_on)

shrinks : (laid : List ℕ) (v k : ℕ) → HasNoSpur laid → k + 2 ≡ length laid → get_or laid k 0 ≡ v → HasReduced (laid ++ v ∷ [])
shrinks laid v k clean at came =
    let n : ℕ = k + 1 in
    let via : ℕ = get_or laid n 0 in
    let front : List ℕ = take n laid in
    let is : laid ≡ front ++ via ∷ [] = front_and_last laid n (omega arith) in
    let long : length front ≡ n = length-take-le n laid (omega arith) in
    let end : length front - 1 ≡ k = omega arith in
    let last : last_of front ≡ v =
    ap (λ (i : ℕ). get_or front i 0) end ∙ sym (get_or_append_left front (via ∷ []) 0 k (omega arith))
    ∙ ap (λ (l : List ℕ). get_or l k 0) (sym is) ∙ came in
    let start : List ℕ = take (length front - 1) front in
    let front_is : front ≡ start ++ v ∷ [] = last_entry front (omega arith) ∙ ap (λ (x : ℕ). start ++ x ∷ []) last in
    let whole : laid ++ v ∷ [] ≡ start ++ v ∷ via ∷ v ∷ [] =
    ap (λ (l : List ℕ). l ++ v ∷ []) is ∙ ap (λ (l : List ℕ). l ++ via ∷ [] ++ v ∷ []) front_is ∙ regroup start v via in
    record {
      reduced = front;
      some = omega arith;
      no_spur = no_spur_front front (via ∷ []) (subst HasNoSpur is clean);
      long = omega (arith, long, at, length-append laid (v ∷ []));
      same = subst (λ (l : List ℕ). AreSame l front) (sym whole)
          (subst (AreSame (start ++ v ∷ via ∷ v ∷ [])) (sym front_is)
          (same_after start (v ∷ via ∷ v ∷ []) (v ∷ []) (spur_same v via [])));
    }
  where
    regroup : (front : List ℕ) (v via : ℕ) → front ++ v ∷ [] ++ via ∷ [] ++ v ∷ [] ≡ front ++ v ∷ via ∷ v ∷ []
    regroup front v via = simp append_assoc

one_more : (laid : List ℕ) (v : ℕ) → HasNoSpur laid → HasReduced (laid ++ v ∷ [])
one_more laid v clean = elim (cases_lt (length laid) 2) [
  | inl few ↦ grows laid v clean (λ k at. absurd (omega arith))
  | inr many ↦
      let up : length laid - 2 + 2 ≡ length laid = omega arith in
      elim (cases_eq (get_or laid (length laid - 2) 0) v) [
        | inl back ↦ shrinks laid v (length laid - 2) clean up back
        | inr apart ↦ grows laid v clean (λ k at came.
            let here : k ≡ length laid - 2 = omega arith in
            apart (ap (λ (i : ℕ). get_or laid i 0) (sym here) ∙ came))
      ]
]

lay_all : (rest laid : List ℕ) → 0 < length laid → HasNoSpur laid → HasReduced (laid ++ rest)
lay_all [] laid some clean = grind (arith, common_steps)
lay_all (v ∷ rest) laid some clean =
    let one : HasReduced (laid ++ v ∷ []) = one_more laid v clean in
    let all : HasReduced (one.reduced ++ rest) = lay_all rest one.reduced one.some one.no_spur in
    let whole : laid ++ v ∷ [] ++ rest ≡ laid ++ v ∷ rest = append_assoc laid (v ∷ []) rest in
    record {
      reduced = all.reduced;
      some = all.some;
      no_spur = all.no_spur;
      long = omega (
        arith,
        one.long,
        all.long,
        length-append one.reduced rest,
        length-append laid (v ∷ []),
        length-append laid (v ∷ rest),
      );
      same = subst (λ (l : List ℕ). AreSame l all.reduced) whole
          (same_on (laid ++ v ∷ [] ++ rest) (one.reduced ++ rest) all.reduced
          (same_before (laid ++ v ∷ []) one.reduced rest one.same) all.same);
    }

has_reduced : (walk : List ℕ) → 0 < length walk → HasReduced walk
has_reduced [] some = absurd (omega arith)
has_reduced (v ∷ rest) some = lay_all rest (v ∷ []) (omega arith) (one_no_spur v)

-- a walk is at least as long as one without spurs to which spur moves lead from it
pub reduced_is_shortest : (mesh : FaceList) (walk reduced : List ℕ) → 0 < length walk → AreFreelyEqual mesh walk reduced → HasNoSpur reduced
    → length reduced ≤ length walk
reduced_is_shortest mesh walk reduced some free clean =
    let found : HasReduced walk = has_reduced walk some in
    let equal : found.reduced ≡ reduced =
    same_equal found.reduced reduced found.no_spur clean
    (same_on found.reduced walk reduced (turned_same walk found.reduced found.same)
    (spur_list_same mesh free.0 walk reduced some free.1 free.2)) in
    omega (arith, found.long, ap (λ (l : List ℕ). length l) equal)
