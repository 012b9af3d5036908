-- Chains under signs: how many links are turned, and that an odd chain excludes coherent signs.
use Rattle.orientation.proofs.Common.{differ, runs_alike, ◌≡◌, inl, inr, ℕ, ◌+◌, ◌%◌, ◌<◌, Bool, true, false, cond, eqb, List, [], ◌∷◌, length, map, get_or, refl, ap, sym, ◌∙◌, subst, arith, and-true, sum_by-cons, filter, count_by, tail_of, side_name, FaceList, FaceSide, IsFaceList, all_sides, joins, LeadsTo, LeadOnTo, IsOddChain, first_face, run_alike, is_turned, ArePartners, IsCoherent, is_flipped, ChainLink}
use Rattle.surf_model.proofs.ListedLemmas.{Joins, joining, partners_listed}
use Rattle.orientation.proofs.Fitting.{fit_if_opposite, eqb_swap}

-- 1 for a sign that is flipped
abbrev pub bit : Bool → ℕ
bit b = cond b 1 0

-- some links from one face to another, where the turned ones are even in number exactly if the signs of the two faces are equal
pub record IsEvenPath (mesh : FaceList) (signs : List Bool) (from : ℕ) (links : List ChainLink) (to : ℕ) : Type 0 where
  pub starts : first_face links to ≡ from
  pub leads : LeadOnTo mesh links to
  pub even : (count_by (is_turned mesh) links + bit (is_flipped signs from) + bit (is_flipped signs to)) % 2 ≡ 0

bit_even : (b : Bool) → (0 + bit b + bit b) % 2 ≡ 0
bit_even true = refl
bit_even false = refl

pub bit_differ : (a b : Bool) → (bit (differ a b) + bit a + bit b) % 2 ≡ 0
bit_differ true true = refl
bit_differ true false = refl
bit_differ false true = refl
bit_differ false false = refl

pub count-cons : (mesh : FaceList) (link : ChainLink) (links : List ChainLink)
    → count_by (is_turned mesh) (link ∷ links) ≡ bit (is_turned mesh link) + count_by (is_turned mesh) links
count-cons mesh link links = sum_by-cons (λ l. cond (is_turned mesh l) 1 0) link links

pub no_links : (mesh : FaceList) (signs : List Bool) (face : ℕ) → IsEvenPath mesh signs face [] face
no_links mesh signs face = record { starts = refl; leads = tt; even = bit_even (is_flipped signs face) }

join_even : (a b c m n : ℕ) → (m + a + b) % 2 ≡ 0 → (n + b + c) % 2 ≡ 0 → (m + n + a + c) % 2 ≡ 0
join_even a b c m n h k = omega arith

pub link_path : {mesh : FaceList} {signs : List Bool} {link : ChainLink} {links : List ChainLink} {next to : ℕ} → LeadsTo mesh link next
    → is_turned mesh link ≡ differ (is_flipped signs link.face.0) (is_flipped signs next) → IsEvenPath mesh signs next links to →
    IsEvenPath mesh signs link.face.0 (link ∷ links) to
link_path {mesh} {signs} {link} {links} {next} {to} leads turned h = record {
  starts = refl;
  leads = (subst (LeadsTo mesh link) (sym h.starts) leads, h.leads);
  even =
      let first : (bit (is_turned mesh link) + bit (is_flipped signs link.face.0) + bit (is_flipped signs next)) % 2 ≡ 0 =
      subst (λ t. (bit t + bit (is_flipped signs link.face.0) + bit (is_flipped signs next)) % 2 ≡ 0) (sym turned)
      (bit_differ (is_flipped signs link.face.0) (is_flipped signs next)) in
      rw (count-cons mesh link links)
      (join_even (bit (is_flipped signs link.face.0)) (bit (is_flipped signs next)) (bit (is_flipped signs to))
      (bit (is_turned mesh link)) (count_by (is_turned mesh) links) first h.even);
}

-- under coherent signs a link is turned exactly if the signs of its two faces differ
record AreTwo {A : Type 0} (f : A → ℕ) (xs : List A) (a b : ℕ) : Type 0 where
  first : A
  second : A
  are : xs ≡ first ∷ second ∷ []
  is_a : f first ≡ a
  is_b : f second ≡ b

two_from_map : {A : Type 0} (f : A → ℕ) (xs : List A) (a b : ℕ) → map f xs ≡ a ∷ b ∷ [] → AreTwo f xs a b
two_from_map f [] a b h = cc
two_from_map f (x ∷ []) a b h = cc
two_from_map f (x ∷ y ∷ []) a b h = record { first = x; second = y; are = refl; is_a = cc; is_b = cc }
two_from_map f (x ∷ y ∷ z ∷ xs) a b h = cc

turned_if : {mesh : FaceList} {signs : List Bool} (link : ChainLink) (a b : ℕ) → IsFaceList mesh → IsCoherent mesh signs
    → map (λ (s : FaceSide). s.face) (filter (joins link.low.0 link.high.0) (all_sides mesh)) ≡ a ∷ b ∷ [] → differ (is_flipped signs a)
    (is_flipped signs b) ≡ is_turned mesh link
turned_if {mesh} {signs} link a b is h faces =
    let two : AreTwo (λ (s : FaceSide). s.face) (filter (joins link.low.0 link.high.0) (all_sides mesh)) a b = two_from_map
    (λ (s : FaceSide). s.face) (filter (joins link.low.0 link.high.0) (all_sides mesh)) a b faces in
    let s : FaceSide = two.first in
    let t : FaceSide = two.second in
    let partners : ArePartners mesh (side_name s) (side_name t) = partners_listed mesh link.low.0 link.high.0 s t two.are in
    let all : (k : ℕ) (d : FaceSide) → k < 2 → Joins mesh link.low.0 link.high.0 (get_or (s ∷ t ∷ []) k d) =
    λ k d l. subst (λ (xs : List FaceSide). Joins mesh link.low.0 link.high.0 (get_or xs k d)) two.are
    (joining mesh link.low.0 link.high.0 k d (omega (arith, l, ap (λ (xs : List FaceSide). length xs) two.are))) in
    let fit : differ (is_flipped signs s.face) (is_flipped signs t.face) ≡ runs_alike mesh (side_name s) (side_name t) =
    fit_if_opposite is partners (h.opposite (side_name s) (side_name t) partners) in
    let tails : eqb t.tail s.tail ≡ runs_alike mesh (side_name s) (side_name t) =
    eqb_swap t.tail s.tail ∙ ap (λ n. eqb n t.tail) (all 0 s (omega arith)).listed.tail ∙ ap (eqb (tail_of mesh (side_name s)))
    (all 1 s (omega arith)).listed.tail in
    ap (λ n. differ (is_flipped signs n) (is_flipped signs b)) (sym two.is_a) ∙ ap
    (λ n. differ (is_flipped signs s.face) (is_flipped signs n)) (sym two.is_b)
    ∙ fit ∙ sym tails ∙ sym (and-true (eqb t.tail s.tail)) ∙ sym (ap run_alike two.are)

pub differ_swap : (a b : Bool) → differ a b ≡ differ b a
differ_swap true true = refl
differ_swap true false = refl
differ_swap false true = refl
differ_swap false false = refl

turned_under : {mesh : FaceList} {signs : List Bool} {link : ChainLink} {next : ℕ} → IsFaceList mesh → IsCoherent mesh signs
    → LeadsTo mesh link next
    → is_turned mesh link ≡ differ (is_flipped signs link.face.0) (is_flipped signs next)
turned_under {signs} {link} {next} is h leads =
    elim leads.faces [
      | inl one ↦ sym (turned_if link link.face.0 next is h one)
      | inr other ↦ sym (turned_if link next link.face.0 is h other) ∙ differ_swap (is_flipped signs next) (is_flipped signs link.face.0)
    ]

even_path : {mesh : FaceList} {signs : List Bool} (links : List ChainLink) (to : ℕ) → IsFaceList mesh → IsCoherent mesh signs
    → LeadOnTo mesh links to
    → IsEvenPath mesh signs (first_face links to) links to
even_path {mesh} {signs} [] to is h leads = no_links mesh signs to
even_path (link ∷ links) to is h leads =
    link_path leads.0 (turned_under is h leads.0) (even_path links to is h leads.1)

not_both : (n b : ℕ) → (n + b + b) % 2 ≡ 0 → n % 2 ≡ 1 → ⊥
not_both n b h k = omega arith

first_face_of : (chain : List ChainLink) (a b : ℕ) → 0 < length chain → first_face chain a ≡ first_face chain b
first_face_of [] a b h = absurd (omega arith)
first_face_of (link ∷ links) a b h = refl

pub odd_excludes : (mesh : FaceList) (chain : List ChainLink) → IsFaceList mesh → IsOddChain mesh chain
    → (signs : List Bool) × IsCoherent mesh signs → ⊥
odd_excludes mesh chain is odd some =
    let face : ℕ = first_face chain 0 in
    let path : IsEvenPath mesh some.0 (first_face chain face) chain face = even_path chain face is some.1 odd.closed in
    let same : first_face chain face ≡ face = first_face_of chain face 0 odd.some_link in
    not_both (count_by (is_turned mesh) chain) (bit (is_flipped some.0 face))
    (subst (λ f. (count_by (is_turned mesh) chain + bit (is_flipped some.0 f) + bit (is_flipped some.0 face)) % 2 ≡ 0) same path.even)
    odd.odd
