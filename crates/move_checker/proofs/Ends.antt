-- The entries at both ends of a part that goes round a face the other way: the new part has them too.
use Rattle.move_checker.proofs.Common.{◌≡◌, inl, inr, ℕ, zero, suc, ◌+◌, ◌-◌, ◌<◌, ◌≤◌, Bool, not, List, [], ◌∷◌, ◌++◌, length, take, drop, get_or, refl, ap, sym, ◌∙◌, arith, append_assoc, cases_lt, take_more, drop_more, get_or-take, get_or-drop, min, next_corner, corners_from, replaced}
use Rattle.surf_model.proofs.RoundLemmas.{corner_after, corners_before, first_corner, last_corner, meet}

-- the first entry of a part stays where it is
pub first_stays : (walk rest : List ℕ) (at n x : ℕ) → at < length walk → get_or walk at 0 ≡ x
    → replaced (at + 1) n rest walk ≡ replaced at (n + 1) (x ∷ rest) walk
first_stays walk rest at n x lt e =
    let to : at + 1 + n ≡ at + (n + 1) = omega arith in
    ap (λ (l : List ℕ). l ++ rest ++ drop (at + 1 + n) walk) (take_more walk at 0 lt)
    ∙ ap (λ (v : ℕ). (take at walk ++ v ∷ []) ++ rest ++ drop (at + 1 + n) walk) e
    ∙ ap (λ (l : List ℕ). l ++ drop (at + 1 + n) walk) (append_assoc (take at walk) (x ∷ []) rest)
    ∙ ap (λ (k : ℕ). (take at walk ++ x ∷ rest) ++ drop k walk) to

-- the last entry of a part stays where it is
pub last_stays : (walk front : List ℕ) (at n y : ℕ) → at + n < length walk → get_or walk (at + n) 0 ≡ y
    → replaced at n front walk ≡ replaced at (n + 1) (front ++ y ∷ []) walk
last_stays walk front at n y lt e =
    let to : at + n + 1 ≡ at + (n + 1) = omega arith in
    ap (λ (l : List ℕ). (take at walk ++ front) ++ l) (drop_more walk (at + n) 0 lt)
    ∙ ap (λ (v : ℕ). (take at walk ++ front) ++ v ∷ drop (at + n + 1) walk) e
    ∙ ap (λ (k : ℕ). (take at walk ++ front) ++ y ∷ drop k walk) to
    ∙ sym (append_assoc (take at walk ++ front) (y ∷ []) (drop (at + (n + 1)) walk))
    ∙ ap (λ (l : List ℕ). l ++ drop (at + (n + 1)) walk) (append_assoc (take at walk) front (y ∷ []))

all_but_the_last : (ring : List ℕ) (forward : Bool) (corner k : ℕ)
    → corners_before ring forward corner (suc k) ≡ corners_from ring forward corner k
all_but_the_last ring forward corner zero = refl
all_but_the_last ring forward corner (suc k) =
    ap (λ (l : List ℕ). get_or ring corner 0 ∷ l) (all_but_the_last ring forward (next_corner forward (length ring) corner) k)

-- a way of one side more ends at the corner that its steps lead to
one_more_side : (ring : List ℕ) (forward : Bool) (corner k : ℕ) → corners_from ring forward corner (k + 1)
    ≡ corners_from ring forward corner k ++ get_or ring (corner_after forward (length ring) corner (k + 1)) 0 ∷ []
one_more_side ring forward corner k =
    let more : k + 1 ≡ suc k = omega arith in
    last_corner ring forward corner (k + 1)
    ∙ ap (λ (n : ℕ). corners_before ring forward corner n ++ get_or ring (corner_after forward (length ring) corner (k + 1)) 0 ∷ []) more
    ∙ ap (λ (l : List ℕ). l ++ get_or ring (corner_after forward (length ring) corner (k + 1)) 0 ∷ [])
    (all_but_the_last ring forward corner k)

-- a way begins at its corner
begins : (ring : List ℕ) (forward : Bool) (corner k : ℕ)
    → corners_from ring forward corner k ≡ get_or ring corner 0 ∷ drop 1 (corners_from ring forward corner k)
begins ring forward corner k =
    let first = first_corner ring forward corner k in
    first.1 ∙ ap (λ (l : List ℕ). get_or ring corner 0 ∷ l) (sym (ap (λ (l : List ℕ). drop 1 l) first.1))

-- and ends at the corner that its steps lead to
ends_at : (ring : List ℕ) (forward : Bool) (corner k : ℕ)
    → get_or (corners_from ring forward corner k) k 0 ≡ get_or ring (corner_after forward (length ring) corner k) 0
ends_at ring forward corner zero = refl
ends_at ring forward corner (suc k) = ends_at ring forward (next_corner forward (length ring) corner) k

module _ (ring walk : List ℕ) (at corner taken : ℕ) (forward : Bool) (cornered : corner < length ring) (enough : taken ≤ length ring)
    (within : at + taken < length walk) (reads : take (taken + 1) (drop at walk) ≡ corners_from ring forward corner taken) where
  abbrev left : ℕ
  left = length ring - taken

  read_at : (k : ℕ) → k < taken + 1 → get_or walk (at + k) 0 ≡ get_or (corners_from ring forward corner taken) k 0
  read_at k lt =
      sym (get_or-drop at walk k 0) ∙ sym (get_or-take (taken + 1) (drop at walk) k 0 lt)
      ∙ ap (λ (l : List ℕ). get_or l k 0) reads

  first_read : get_or walk at 0 ≡ get_or ring corner 0
  first_read =
      let none : at + 0 ≡ at = omega arith in
      ap (λ (k : ℕ). get_or walk k 0) (sym none) ∙ read_at 0 (omega arith)
      ∙ ap (λ (l : List ℕ). get_or l 0 0) (begins ring forward corner taken)

  last_read : get_or walk (at + taken) 0 ≡ get_or ring (corner_after (not forward) (length ring) corner left) 0
  last_read =
      read_at taken (omega arith) ∙ ends_at ring forward corner taken
      ∙ ap (λ (k : ℕ). get_or ring k 0) (meet forward (length ring) corner taken cornered enough)

  others_begin : (n : ℕ) → n ≡ taken
      → replaced (at + 1) n (drop 1 (corners_from ring (not forward) corner left)) walk
      ≡ replaced at (taken + 1) (corners_from ring (not forward) corner left) walk
  others_begin n e =
      ap (λ (k : ℕ). replaced (at + 1) k (drop 1 (corners_from ring (not forward) corner left)) walk) e
      ∙ first_stays walk _ at taken (get_or ring corner 0) (omega (arith, within)) first_read
      ∙ ap (λ (l : List ℕ). replaced at (taken + 1) l walk) (sym (begins ring (not forward) corner left))

  others_begin_and_end : (n k : ℕ) → n + 1 ≡ taken → k + 1 ≡ left
      → replaced (at + 1) n (drop 1 (corners_from ring (not forward) corner k)) walk
      ≡ replaced at (taken + 1) (corners_from ring (not forward) corner left) walk
  others_begin_and_end n k en ek =
      let last : ℕ = get_or ring (corner_after (not forward) (length ring) corner left) 0 in
      let behind : List ℕ = drop 1 (corners_from ring (not forward) corner k) in
      let there : at + 1 + n ≡ at + taken = omega (arith, en) in
      let part : corners_from ring (not forward) corner left ≡ get_or ring corner 0 ∷ (behind ++ last ∷ []) =
      ap (corners_from ring (not forward) corner) (sym ek) ∙ one_more_side ring (not forward) corner k
      ∙ ap (λ (m : ℕ). corners_from ring (not forward) corner k ++ get_or ring (corner_after (not forward) (length ring) corner m) 0 ∷ [])
      ek
      ∙ ap (λ (l : List ℕ). l ++ last ∷ []) (begins ring (not forward) corner k) in
      last_stays walk behind (at + 1) n last (omega (arith, within, there)) (ap (λ (m : ℕ). get_or walk m 0) there ∙ last_read)
      ∙ ap (λ (m : ℕ). replaced (at + 1) m (behind ++ last ∷ []) walk) en
      ∙ first_stays walk (behind ++ last ∷ []) at taken (get_or ring corner 0) (omega (arith, within)) first_read
      ∙ ap (λ (l : List ℕ). replaced at (taken + 1) l walk) (sym part)

  -- so only what lies between the ends changes, where sides go out and come in
  pub ends_stay : (kept : ℕ) → kept ≡ min (min taken left) 1
      → replaced (at + 1) (taken - kept) (drop 1 (corners_from ring (not forward) corner (left - kept))) walk
      ≡ replaced at (taken + 1) (corners_from ring (not forward) corner left) walk
  ends_stay kept e =
      elim (cases_lt 0 kept) [
        | inl one ↦ others_begin_and_end (taken - kept) (left - kept) (omega (arith, e, one)) (omega (arith, e, one))
        | inr none ↦
            let all : left - kept ≡ left = omega (arith, none) in
            ap (λ (m : ℕ). replaced (at + 1) (taken - kept) (drop 1 (corners_from ring (not forward) corner m)) walk) all
            ∙ others_begin (taken - kept) (omega (arith, none))
      ]
