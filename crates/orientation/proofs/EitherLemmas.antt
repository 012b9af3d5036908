-- A mesh has coherent signs or an odd chain: it is not without the one and the other.
use Rattle.orientation.proofs.Common.{partners_swap, joined_step, joined_trans, EachEdgeHasAtMostTwoSides, IsFaceStep, AreOfOneClass, IsLeastOfClass, IsLeastKept, IsAlong, differ, runs_alike, Fit, ◌≡◌, ◌≢◌, ◌⊎◌, inl, inr, ℕ, zero, suc, ◌+◌, ◌%◌, ◌<◌, ◌≤◌, Bool, true, false, min, max, List, [], ◌∷◌, ◌++◌, length, refl, ap, sym, ◌∙◌, subst, arith, cases_lt, cases_Bool, length_push, get_or_append_left, get_or_push, count_by, ends_differ, tail_of, head_of, FaceList, IsFaceList, LeadOnTo, IsOddChain, first_face, is_turned, IsPath, ArePartners, IsCoherent, is_flipped, ChainLink, Side}
use Rattle.orientation.proofs.Fitting.{link_leads, link_turned, eqb_swap, opposite_if_fit}
use Rattle.orientation.proofs.ChainLemmas.{bit, differ_swap}
use Rattle.orientation.proofs.ClassLemmas.{step_back, joined_back}
use Rattle.orientation.proofs.ClimbLemmas.{first_face-append, LeadOnTo-append, count-append, count-one}

-- some links lead from one face to another, an odd number of them turned exactly if `odd`
record HasBand (mesh : FaceList) (odd : Bool) (from to : ℕ) : Type 0 where
  links : List ChainLink
  starts : first_face links to ≡ from
  leads : LeadOnTo mesh links to
  parity : (count_by (is_turned mesh) links + bit odd) % 2 ≡ 0

no_band : (mesh : FaceList) (f : ℕ) → HasBand mesh false f f
no_band mesh f = record { links = []; starts = refl; leads = tt; parity = refl }

join_parity : (m n : ℕ) (a b : Bool) → (m + bit a) % 2 ≡ 0 → (n + bit b) % 2 ≡ 0 → (m + n + bit (differ a b)) % 2 ≡ 0
join_parity m n true true h k = omega arith
join_parity m n true false h k = omega arith
join_parity m n false true h k = omega arith
join_parity m n false false h k = omega arith

band-append : {mesh : FaceList} {a b : Bool} {f g h : ℕ} → HasBand mesh a f g → HasBand mesh b g h → HasBand mesh (differ a b) f h
band-append {mesh} {a} {b} {h} x y = record {
  links = x.links ++ y.links;
  starts = first_face-append x.links y.links h ∙ ap (first_face x.links) y.starts ∙ x.starts;
  leads = LeadOnTo-append mesh x.links y.links h (subst (LeadOnTo mesh x.links) (sym y.starts) x.leads) y.leads;
  parity = ap (λ n. (n + bit (differ a b)) % 2) (count-append mesh x.links y.links) ∙ join_parity _ _ a b x.parity y.parity;
}

min_or_max : (t h : ℕ) → ((t ≡ min t h) × (h ≡ max t h)) ⊎ ((t ≡ max t h) × (h ≡ min t h))
min_or_max t h = elim (cases_lt t h) [ inl less ↦ inl (omega arith, omega arith) | inr more ↦ inr (omega arith, omega arith) ]

along_itself : (mesh : FaceList) (side : Side) → tail_of mesh side ≢ head_of mesh side
    → IsAlong mesh side (min (tail_of mesh side) (head_of mesh side)) (max (tail_of mesh side) (head_of mesh side))
along_itself mesh side apart = record { ordered = omega arith; ends = min_or_max (tail_of mesh side) (head_of mesh side) }

twice : (b : Bool) → (bit b + bit b) % 2 ≡ 0
twice true = refl
twice false = refl

-- a step across an edge makes a band
step_band : {mesh : FaceList} {side other : Side} → IsFaceList mesh → EachEdgeHasAtMostTwoSides mesh → ArePartners mesh side other
    → HasBand mesh (runs_alike mesh side other) side.face.0 other.face.0
step_band {mesh} {side} {other} is two h =
    let low : ℕ = min (tail_of mesh side) (head_of mesh side) in
    let high : ℕ = max (tail_of mesh side) (head_of mesh side) in
    let link : ChainLink = record { face = side.face; low = record { 0 = low }; high = record { 0 = high } } in
    let along : IsAlong mesh side low high = along_itself mesh side (ends_differ mesh side is h.first) in
    record {
      links = link ∷ [];
      starts = refl;
      leads = (link_leads link two h along refl, tt);
      parity =
          ap (λ n. (n + bit (runs_alike mesh side other)) % 2) (count-one mesh link ∙ ap bit (link_turned link two h along))
          ∙ twice (runs_alike mesh side other);
    }

-- two faces, with bands both ways
record AreBanded (mesh : FaceList) (odd : Bool) (f g : ℕ) : Type 0 where
  to : HasBand mesh odd f g
  back : HasBand mesh odd g f

step_both : {mesh : FaceList} {f g : ℕ} → IsFaceList mesh → EachEdgeHasAtMostTwoSides mesh → IsFaceStep mesh f g
    → (odd : Bool) × AreBanded mesh odd f g
step_both {mesh} {f} {g} is two step =
    let alike : Bool = runs_alike mesh step.side step.partner in
    let to : HasBand mesh alike step.side.face.0 step.partner.face.0 = step_band is two step.partners in
    let back : HasBand mesh alike step.partner.face.0 step.side.face.0 =
    subst (λ b. HasBand mesh b step.partner.face.0 step.side.face.0) (eqb_swap (tail_of mesh step.partner) (tail_of mesh step.side))
    (step_band is two (partners_swap mesh step.side step.partner step.partners)) in (
      alike,
      record {
        to = subst (λ n. HasBand mesh alike n g) step.from (subst (HasBand mesh alike step.side.face.0) step.to to);
        back = subst (λ n. HasBand mesh alike n f) step.to (subst (HasBand mesh alike step.partner.face.0) step.from back);
      },
    )

path_both : {mesh : FaceList} (f g : ℕ) (path : List ℕ) → IsFaceList mesh → EachEdgeHasAtMostTwoSides mesh
    → IsPath (IsFaceStep mesh) f path g → (odd : Bool) × AreBanded mesh odd f g
path_both {mesh} f g [] is two path =
    subst (λ n. (odd : Bool) × AreBanded mesh odd f n) path (false, record { to = no_band mesh f; back = no_band mesh f })
path_both {mesh} f g (h ∷ more) is two path =
    let first = step_both is two path.0 in
    let rest = path_both h g more is two path.1 in (
      differ first.0 rest.0,
      record {
        to = band-append first.1.to rest.1.to;
        back =
            subst (λ b. HasBand mesh b g f) (differ_swap rest.0 first.0) (band-append rest.1.back first.1.back);
      },
    )

-- a band from a face to itself with an odd number of turned links is an odd chain
odd_band : {mesh : FaceList} {f : ℕ} → HasBand mesh true f f → (chain : List ChainLink) × IsOddChain mesh chain
odd_band {mesh} {f} h = (h.links, ring h.links h.starts h.leads h.parity)
  where
    odd_number : (n : ℕ) → (n + 1) % 2 ≡ 0 → n % 2 ≡ 1
    odd_number n h = omega arith

    ring : (links : List ChainLink) → first_face links f ≡ f → LeadOnTo mesh links f → (count_by (is_turned mesh) links + 1) % 2 ≡ 0
        → IsOddChain mesh links
    ring [] starts leads parity = cc
    ring (link ∷ links) starts leads parity = record {
      some_link = omega arith;
      closed = subst (LeadOnTo mesh (link ∷ links)) (sym starts) leads;
      odd = odd_number (count_by (is_turned mesh) (link ∷ links)) parity;
    }

-- a sign of a face that fits a band to the least face of its class
record HasSign (mesh : FaceList) (f : ℕ) (sign : Bool) : Type 0 where
  root : ℕ
  least : IsLeastOfClass mesh root
  joined : AreOfOneClass mesh f root
  bands : AreBanded mesh sign f root

-- no face is without one
signed_face : {mesh : FaceList} (n f : ℕ) → IsFaceList mesh → EachEdgeHasAtMostTwoSides mesh → f < n →
    ((sign : Bool) → HasSign mesh f sign → ⊥)
    → ⊥
signed_face zero f is two below none = omega arith
signed_face {mesh} (suc n) f is two below none =
    let least : IsLeastOfClass mesh f = λ g joined. elim (cases_lt g f) [
      | inl less ↦
          absurd (signed_face n g is two (omega arith) (λ sign h.
          let bands = path_both f g joined.0 is two joined.1 in
          none (differ bands.0 sign) (record {
            root = h.root;
            least = h.least;
            joined = joined_trans (IsFaceStep mesh) f g h.root joined h.joined;
            bands = record {
              to = band-append bands.1.to h.bands.to;
              back = subst (λ b. HasBand mesh b h.root f) (differ_swap sign bands.0) (band-append h.bands.back bands.1.back);
            };
          })))
      | inr more ↦ more
    ] in
    none false (record { root = f; least = least; joined = ([], refl); bands = record { to = no_band mesh f; back = no_band mesh f } })

-- signs for the faces below one
record AreSigns (mesh : FaceList) (n : ℕ) (signs : List Bool) : Type 0 where
  long : length signs ≡ n
  each : (f : ℕ) → f < n → HasSign mesh f (is_flipped signs f)

some_signs : {mesh : FaceList} (n : ℕ) → IsFaceList mesh → EachEdgeHasAtMostTwoSides mesh →
    ((signs : List Bool) → AreSigns mesh n signs → ⊥)
    → ⊥
some_signs zero is two none = none [] (record { long = refl; each = λ f less. absurd (omega arith) })
some_signs {mesh} (suc n) is two none =
    some_signs n is two (λ signs h. signed_face (n + 1) n is two (omega arith) (λ sign last. none (signs ++ sign ∷ []) (record {
      long = omega (arith, length_push signs sign, h.long);
      each = λ f less. elim (cases_lt f n) [
        | inl before ↦
            subst (HasSign mesh f) (sym (get_or_append_left signs (sign ∷ []) false f (omega (arith, before, h.long)))) (h.each f before)
        | inr more ↦
            (let here : n ≡ f = omega arith in
            subst (λ m. HasSign mesh m (is_flipped (signs ++ sign ∷ []) m)) here
            (subst (HasSign mesh n) (sym (get_or_push signs sign false n h.long)) last))
      ];
    })))

same_or_odd : (a b : Bool) → (a ≡ b) ⊎ (differ a b ≡ true)
same_or_odd true true = inl refl
same_or_odd true false = inr refl
same_or_odd false true = inr refl
same_or_odd false false = inl refl

-- without an odd chain such signs fit
signs_fit : {mesh : FaceList} {signs : List Bool} {side other : Side} → IsFaceList mesh → EachEdgeHasAtMostTwoSides mesh
    → AreSigns mesh (length mesh.faces) signs
    → ((chain : List ChainLink) → IsOddChain mesh chain → ⊥) → ArePartners mesh side other → Fit mesh signs side other
signs_fit {mesh} {signs} {side} {other} is two h none partners =
    let f : ℕ = side.face.0 in
    let g : ℕ = other.face.0 in
    let a : HasSign mesh f (is_flipped signs f) = h.each f partners.first.face in
    let b : HasSign mesh g (is_flipped signs g) = h.each g partners.second.face in
    let step : AreOfOneClass mesh f g = joined_step (IsFaceStep mesh) f g
    (record { side = side; partner = other; partners = partners; from = refl; to = refl }) in
    let back : (x y : ℕ) → AreOfOneClass mesh x y → AreOfOneClass mesh y x = joined_back (IsFaceStep mesh) (step_back mesh) in
    let roots : AreOfOneClass mesh a.root b.root = joined_trans (IsFaceStep mesh) a.root f b.root (back f a.root a.joined)
    (joined_trans (IsFaceStep mesh) f g b.root step b.joined) in
    let below : a.root ≤ b.root = a.least b.root roots in
    let above : b.root ≤ a.root = b.least a.root (back a.root b.root roots) in
    let one : b.root ≡ a.root = omega arith in
    let alike : Bool = runs_alike mesh side other in
    -- from the face to the least one, to the other face, and back across the edge
    let way : HasBand mesh (differ (is_flipped signs f) (is_flipped signs g)) f g = band-append a.bands.to
    (subst (λ n. HasBand mesh (is_flipped signs g) n g) one b.bands.back) in
    let edge : HasBand mesh alike g f = subst (λ x. HasBand mesh x g f) (eqb_swap (tail_of mesh other) (tail_of mesh side))
    (step_band is two (partners_swap mesh side other partners)) in
    let ring : HasBand mesh (differ (differ (is_flipped signs f) (is_flipped signs g)) alike) f f = band-append way edge in
    elim (same_or_odd (differ (is_flipped signs f) (is_flipped signs g)) alike) [
      | inl same ↦ same
      | inr odd ↦ (let chain = odd_band (subst (λ x. HasBand mesh x f f) odd ring) in absurd (none chain.0 chain.1))
    ]

signs_kept : {mesh : FaceList} {signs : List Bool} → AreSigns mesh (length mesh.faces) signs →
    ((chain : List ChainLink) → IsOddChain mesh chain → ⊥)
    → IsLeastKept mesh signs
signs_kept {mesh} {signs} h none f few least =
    let a : HasSign mesh f (is_flipped signs f) = h.each f few in
    let below : f ≤ a.root = least a.root a.joined in
    let above : a.root ≤ f = a.least f (joined_back (IsFaceStep mesh) (step_back mesh) f a.root a.joined) in
    let one : a.root ≡ f = omega arith in
    let ring : HasBand mesh (is_flipped signs f) f f = subst (HasBand mesh (is_flipped signs f) f) one a.bands.to in
    elim (cases_Bool (is_flipped signs f)) [
      | inl odd ↦ (let chain = odd_band (subst (λ x. HasBand mesh x f f) odd ring) in absurd (none chain.0 chain.1))
      | inr kept ↦ kept
    ]

pub signs_or_chain : (mesh : FaceList) → IsFaceList mesh → EachEdgeHasAtMostTwoSides mesh →
    ((signs : List Bool) → IsCoherent mesh signs → IsLeastKept mesh signs → ⊥)
    → ((chain : List ChainLink) → IsOddChain mesh chain → ⊥) → ⊥
signs_or_chain mesh is two no_signs no_chain =
    some_signs (length mesh.faces) is two (λ signs h. no_signs signs (record {
      each_face = h.long;
      opposite = λ side other partners. opposite_if_fit signs is partners (signs_fit is two h no_chain partners);
    }) (signs_kept h no_chain))
