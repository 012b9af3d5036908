-- A list of lists kept as one list and the places where its parts end.
use Rattle.surf_model.proofs.Common.{◌≡◌, inl, inr, ℕ, zero, suc, ◌+◌, ◌-◌, ◌*◌, ◌/◌, ◌<◌, ◌≤◌, List, [], ◌∷◌, ◌++◌, length, get_or, take, drop, refl, ap, sym, subst, ◌∙◌, add-one, arith, cases_lt, common_steps, take-append-le, drop-append-le, length-take-le, length-drop, get_or_append_left, length_push, sum_by-cons, sum_by, parts, EndsRise, last_end, IsInPart, IsPartList, MOST_SIDES}

pub length-parts : {A : Type 0} (from : ℕ) (ends : List ℕ) (xs : List A) → length (parts from ends xs) ≡ length ends
length-parts from [] xs = refl
length-parts from (end ∷ ends) xs = ap suc (length-parts end ends xs)

-- part f lies between where it starts and where it ends
pub get_or-parts : {A : Type 0} (from : ℕ) (ends : List ℕ) (xs : List A) (f : ℕ) (d : List A) → f < length ends
    → get_or (parts from ends xs) f d ≡ take (get_or ends f 0 - get_or (from ∷ ends) f 0) (drop (get_or (from ∷ ends) f 0) xs)
get_or-parts from [] xs f d h = absurd (omega arith)
get_or-parts from (end ∷ ends) xs zero d h = refl
get_or-parts from (end ∷ ends) xs (suc f) d h = get_or-parts end ends xs f d (omega arith)

-- rising ends stay within the list
pub ends_within : (from : ℕ) (ends : List ℕ) (n : ℕ) → EndsRise from ends n → from ≤ n
ends_within from [] n h = omega arith
ends_within from (end ∷ ends) n h = omega (arith, h.0, ends_within end ends n h.1)

pub record IsPartWithin (from : ℕ) (ends : List ℕ) (n f : ℕ) : Type 0 where
  pub rises : get_or (from ∷ ends) f 0 ≤ get_or ends f 0
  pub within : get_or ends f 0 ≤ n

pub part_within : (from : ℕ) (ends : List ℕ) (n f : ℕ) → EndsRise from ends n → f < length ends → IsPartWithin from ends n f
part_within from [] n f h l = absurd (omega arith)
part_within from (end ∷ ends) n zero h l = record { rises = h.0; within = ends_within end ends n h.1 }
part_within from (end ∷ ends) n (suc f) h l =
    let rest = part_within end ends n f h.1 (omega arith) in grind arith

-- one more part at the end
pub parts-push : {A : Type 0} (from : ℕ) (ends : List ℕ) (xs ys : List A) (n m : ℕ) → EndsRise from ends n → length xs ≡ n
    → m ≡ n + length ys
    → parts from (ends ++ m ∷ []) (xs ++ ys) ≡ parts from ends xs ++ ys ∷ []
parts-push {A} from [] xs ys n m h e k = grind (arith, common_steps)
parts-push {A} from (end ∷ ends) xs ys n m h e k =
    let w = ends_within end ends n h.1 in
    let le : from ≤ length xs = omega (arith, h.0, w) in
    let head : take (end - from) (drop from (xs ++ ys)) ≡ take (end - from) (drop from xs) =
    rw (drop-append-le from xs ys le)
    (take-append-le (end - from) (drop from xs) ys (omega (arith, h.0, w, length-drop from xs))) in
    rw head (ap (λ rest. take (end - from) (drop from xs) ∷ rest) (parts-push end ends xs ys n m h.1 e k))

pub EndsRise-push : (from : ℕ) (ends : List ℕ) (n m : ℕ) → EndsRise from ends n → n ≤ m → EndsRise from (ends ++ m ∷ []) m
EndsRise-push from [] n m h l = (omega (arith, h), refl)
EndsRise-push from (end ∷ ends) n m h l = (h.0, EndsRise-push end ends n m h.1 l)

-- the parts together are as long as the list from where they start
pub sum_by-parts : {A : Type 0} (from : ℕ) (ends : List ℕ) (xs : List A) → EndsRise from ends (length xs)
    → from + sum_by length (parts from ends xs) ≡ length xs
sum_by-parts {A} from [] xs h = omega (arith, h)
sum_by-parts {A} from (end ∷ ends) xs h =
    let w = ends_within end ends (length xs) h.1 in
    let size : length (take (end - from) (drop from xs)) ≡ end - from =
    length-take-le (end - from) (drop from xs) (omega (arith, h.0, w, length-drop from xs)) in
    let more : sum_by length (parts from (end ∷ ends) xs) ≡ (end - from) + sum_by length (parts end ends xs) =
    sum_by-cons length (take (end - from) (drop from xs)) (parts end ends xs) ∙ ap (λ k. k + sum_by length (parts end ends xs)) size in
    rw more (omega (arith, h.0, sum_by-parts end ends xs h.1))

-- a part starts where the one before it ends
pub start_after : (ends : List ℕ) (k : ℕ) → get_or (0 ∷ ends) (k + 1) 0 ≡ get_or ends k 0
start_after ends k = ap (λ i. get_or (0 ∷ ends) i 0) (add-one k)

start-push : (ends : List ℕ) (m k : ℕ) → k ≤ length ends → get_or (0 ∷ (ends ++ m ∷ [])) k 0 ≡ get_or (0 ∷ ends) k 0
start-push ends m k l = get_or_append_left (0 ∷ ends) (m ∷ []) 0 k (omega (arith, l))

pub last_end-push : (ends : List ℕ) (m : ℕ) → last_end (ends ++ m ∷ []) ≡ m
last_end-push ends m = grind (arith, common_steps, start_after)

-- the last part ends where all end
pub last_part_end : (ends : List ℕ) (k : ℕ) → k + 1 ≡ length ends → get_or ends k 0 ≡ last_end ends
last_part_end ends k last = sym (start_after ends k) ∙ ap (λ n. get_or (0 ∷ ends) n 0) last

-- rising ends rise to the last of them
pub EndsRise-last : (ends : List ℕ) (n : ℕ) → EndsRise 0 ends n → last_end ends ≡ n
EndsRise-last ends n = rises_to 0 ends n
  where
    rises_to : (from : ℕ) (ends : List ℕ) (n : ℕ) → EndsRise from ends n → get_or (from ∷ ends) (length ends) 0 ≡ n
    rises_to from [] n h = h
    rises_to from (end ∷ ends) n h = rises_to end ends n h.1

-- a place lies in the same part where another is put last, or in that one
pub in_part-push : (ends : List ℕ) (m place part : ℕ) → IsInPart ends place part → IsInPart (ends ++ m ∷ []) place part
in_part-push ends m place part h = grind (arith, common_steps, start-push)

pub in_last_part : (ends : List ℕ) (m place : ℕ) → last_end ends ≤ place → place < m → IsInPart (ends ++ m ∷ []) place (length ends)
in_last_part ends m place from to = grind (arith, common_steps, start-push)

pub part_list-push : (ends marks more : List ℕ) (m : ℕ) → IsPartList ends marks → last_end ends < m → m ≤ MOST_SIDES
    → length more ≡ (m + 15) / 16
    → ((k d : ℕ) → k < (m + 15) / 16 → k < length marks → get_or more k d ≡ get_or marks k d)
    → ((k d : ℕ) → length marks ≤ k → k < (m + 15) / 16 → get_or more k d ≡ length ends)
    → IsPartList (ends ++ m ∷ []) more
part_list-push ends marks more m h some room long old new =
    let last : last_end (ends ++ m ∷ []) ≡ m = last_end-push ends m in record {
      rising = subst (EndsRise 0 (ends ++ m ∷ [])) (sym last) (EndsRise-push 0 ends (last_end ends) m h.rising (omega (arith, some)));
      few = omega (arith, last, h.few, some, length_push ends m);
      room = omega (arith, last, room);
      each_sixteenth = long ∙ ap (λ n. (n + 15) / 16) (sym last);
      marked = λ k l. elim (cases_lt k (length marks)) [
        | inl less ↦ subst (IsInPart (ends ++ m ∷ []) (16 * k)) (sym (old k 0 (omega (arith, l, long)) less))
            (in_part-push ends m (16 * k) (get_or marks k 0) (h.marked k less))
        | inr le ↦ subst (IsInPart (ends ++ m ∷ []) (16 * k)) (sym (new k 0 le (omega (arith, l, long))))
            (in_last_part ends m (16 * k) (omega (arith, le, h.each_sixteenth)) (omega (arith, l, long)))
      ];
    }

-- the first parts together reach up to where the next one starts
pub sum_by-take-parts : {A : Type 0} (from : ℕ) (ends : List ℕ) (xs : List A) (f : ℕ) → EndsRise from ends (length xs) → f ≤ length ends
    → from + sum_by length (take f (parts from ends xs)) ≡ get_or (from ∷ ends) f 0
sum_by-take-parts {A} from ends xs zero h l = omega arith
sum_by-take-parts {A} from [] xs (suc f) h l = absurd (omega arith)
sum_by-take-parts {A} from (end ∷ ends) xs (suc f) h l =
    let w = ends_within end ends (length xs) h.1 in
    let size : length (take (end - from) (drop from xs)) ≡ end - from =
    length-take-le (end - from) (drop from xs) (omega (arith, h.0, w, length-drop from xs)) in
    let more : sum_by length (take (suc f) (parts from (end ∷ ends) xs)) ≡ (end - from) + sum_by length (take f (parts end ends xs)) =
    sum_by-cons length (take (end - from) (drop from xs)) (take f (parts end ends xs))
    ∙ ap (λ k. k + sum_by length (take f (parts end ends xs))) size in
    rw more (omega (arith, h.0, sum_by-take-parts end ends xs f h.1 (omega arith)))
